use Rattle.std.proofs.Common.{◌≡◌, ℕ, ◌+◌, ◌<◌, List, length, get_or, take, ◌∙◌, ap, ap₂, sym, arith}
use Rattle.std.specs.Prelude.{All}
use Rattle.std.proofs.lemmas.List.Elements.{All-get_or}
use Rattle.problem_data.specs.declared.problem.Problem.{Problem}
use Rattle.trips.specs.RunSegments.{prizes_of}
use Rattle.trips.proofs.RunCounts.{prizes-append}
use Rattle.route_cache.specs.Routes.{ViewState, lent}
use Rattle.joined_views.specs.Views.{lent_by}
use Rattle.joined_views.proofs.SideRuns.{lent-more}
use Rattle.joined_views.proofs.joined.lent_prizes.Goals as goal

-- the prizes with one view more
prizes-more : (p : Problem) (views : List ViewState) (k : ℕ) (view : ViewState) → k < length views → view ≡ get_or views k view → All (λ (v : ViewState). v.problem ≡ p) views →
    (so_far prizes : ℕ) → so_far ≡ prizes_of p (lent_by (take k views)) → prizes ≡ prizes_of view.problem (lent view) → so_far + prizes ≡ prizes_of p (lent_by (take (k + 1) views))
prizes-more p views k view inside is same so_far prizes before here =
    let own : view.problem ≡ p = ap (λ (v : ViewState). v.problem) is ∙ All-get_or (λ (v : ViewState). v.problem ≡ p) views k view inside same in
    let lent_here : prizes ≡ prizes_of p (lent (get_or views k view)) = here ∙ (λ i. prizes_of (own i) (lent (is i))) in
    ap₂ (λ (m n : ℕ). m + n) before lent_here ∙ sym (prizes-append p (lent_by (take k views)) (lent (get_or views k view))) ∙ ap (prizes_of p) (sym (lent-more views k view inside))

pub loop-view-preserved : goal.loop-view-preserved
loop-view-preserved c = record {
  prizes = prizes-more c.args.given.now c.args.views.now c.loop-view.view-index c.view-item.result c.loop-view-test.true c.view-item.is c.requires.same c.loop-view.prizes c.prizes-prizes.result
      c.loop-view.invariant.prizes c.prizes-prizes.ensures.prizes;
  short = omega (arith, c.loop-view.invariant.short, c.prizes-prizes.ensures.small);
}
