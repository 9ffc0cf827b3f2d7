use Rattle.std.proofs.Common.{◌≡◌, ℕ, ◌+◌, ◌-◌, length, arith, ap, ◌∙◌}
use Rattle.route_cache.specs.Routes.{ViewState}
use Rattle.joined_views.proofs.SideRuns.{ended-last}
use Rattle.joined_views.proofs.joined.is_ended.Goals as goal

pub returns-else-count-eq0 : goal.returns-else-count-eq0
returns-else-count-eq0 c =
    c.ends.ensures ∙ (ap (λ (v : ViewState). v.ends) c.index-views-count.is
    ∙ ended-last c.args.views.now (length c.args.views.now - 1) c.index-views-count.result (one_more (length c.args.views.now) c.if-count-eq0.false))
  where
    one_more : (n : ℕ) → (n ≡ 0 → ⊥) → n - 1 + 1 ≡ n
    one_more n h = grind arith
