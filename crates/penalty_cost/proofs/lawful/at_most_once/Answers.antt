use Rattle.std.proofs.Common.{arith, ◌≡◌, ◌∙◌, sym, ℕ, length}
use Rattle.std.specs.Prelude.{nat_le}
use Rattle.problem_data.specs.Places.{depot_count}
use Rattle.routing_model.specs.Routes.{visit_count}
use Rattle.penalty_cost.proofs.TestedPlaces.{all_pass, one_fails}
use Rattle.penalty_cost.proofs.lawful.at_most_once.Goals as goal

pub returns-then-not-is_once : goal.returns-then-not-is_once
returns-then-not-is_once c = λ routes h.
    let depots : length c.items-depots.result.now ≡ depot_count c.args.given.now = cc in
    let fails = sym (c.is_once.ensures routes h) ∙ c.if-not-is_once.true in
    sym (one_fails (λ (k : ℕ). nat_le (visit_count routes k) 1) (depot_count c.args.given.now) (length c.args.given.now.clients) c.loop-place.place (omega arith) (omega arith) fails)

pub returns : goal.returns
returns c = λ routes h.
    let depots : length c.items-depots.result.now ≡ depot_count c.args.given.now = cc in
    sym (all_pass (λ (k : ℕ). nat_le (visit_count routes k) 1) (depot_count c.args.given.now) (length c.args.given.now.clients)
    (λ k low high. c.loop-place.invariant routes h k (omega arith) (omega arith)))
