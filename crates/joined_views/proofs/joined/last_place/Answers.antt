use Rattle.std.proofs.Common.{◌≡◌, ℕ, ◌+◌, ◌-◌, length, arith, sym, ◌∙◌}
use Rattle.problem_data.specs.declared.visit.Visit.TheVariants.{Client}
use Rattle.trips.proofs.RunPlaces.{place_behind-read}
use Rattle.joined_views.proofs.joined.last_place.Goals as goal

pub returns-else-count-eq0 : goal.returns-else-count-eq0
returns-else-count-eq0 c =
    c.place.ensures ∙ sym (place_behind-read c.args.place c.args.visits.now (length c.args.visits.now - 1) (Client 0) (one_more (length c.args.visits.now) c.if-count-eq0.false))
  where
    one_more : (n : ℕ) → (n ≡ 0 → ⊥) → n - 1 + 1 ≡ n
    one_more n h = grind arith
