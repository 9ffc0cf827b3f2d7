use Rattle.std.proofs.Common.{◌≡◌, ℕ, ◌+◌, ◌<◌, ◌≤◌, false, ◌∙◌, sym, ap₂, arith}
use Rattle.std.specs.Prelude.{nat_eq}
use Rattle.std.proofs.lemmas.Bool.Decides.{nat_tests}
use Rattle.problem_data.specs.declared.problem.Problem.{Problem}
use Rattle.problem_data.specs.Places.{leg_distance}
use Rattle.routing_model.specs.Listed.{type_of_vehicle}
use Rattle.route_cache.specs.Marks.{place_along}
use Rattle.list_changes.proofs.WayLaws.{ends-at_last}
use Rattle.list_changes.proofs.way.Way.over.Goals as goal

some : (a b : ℕ) → nat_eq a b ≡ false → a ≤ b → a < b
some a b other order = grind (arith, nat_tests)

pub returns-clause-on : goal.returns-clause-on
returns-clause-on c =
    let lender = c.args.lender.now in
    let t = type_of_vehicle lender.problem lender.vehicle in
    let order : c.args.span.first < c.args.span.end = some c.args.span.first c.args.span.end (sym c.is_empty.ensures ∙ c.if-is_empty.false) c.requires.span.in_order in
    let leg : c.from.result ≡ leg_distance lender.problem c.args.profile c.args.self.place (place_along t lender.visits (c.args.span.first + 1)) =
    c.from.ensures ∙ (c.leg-to.ensures.distance ∙ ap₂ (λ (p : Problem) (place : ℕ). leg_distance p c.args.profile c.args.self.place place) c.data.ensures c.place_at-first.ensures.place) in
    let way = c.inner.ensures.least c.args.self.place in
    let bounded = c.leg-to.ensures.bounded.0 in
    record {
      ends = c.place_at.ensures.place ∙ sym (ends-at_last lender.problem t lender.visits c.args.span.first c.args.span.end order c.requires.span.in_list c.args.self.place);
      least = omega (arith, leg, way);
      there = c.place_at.ensures.there;
      small = omega (arith, c.from.ensures, c.inner.ensures.small, bounded);
    }
