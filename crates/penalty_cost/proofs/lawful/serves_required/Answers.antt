use Rattle.std.proofs.Common.{arith, ◌≡◌, ◌∙◌, sym, ℕ, true, cond, length}
use Rattle.problem_data.specs.Places.{depot_count}
use Rattle.routing_model.specs.Lawful.{is_required}
use Rattle.routing_model.specs.Routes.{is_visited}
use Rattle.penalty_cost.proofs.TestedPlaces.{all_pass, one_fails}
use Rattle.penalty_cost.proofs.lawful.serves_required.Goals as goal

pub returns-then-not-is_served : goal.returns-then-not-is_served
returns-then-not-is_served c = λ routes h.
    let depots : length c.items-depots.result.now ≡ depot_count c.args.given.now = cc in
    let fails = sym (c.is_served.ensures routes h) ∙ c.if-not-is_served.true in
    sym (one_fails (λ (k : ℕ). cond (is_required c.args.given.now k) (is_visited routes k) true) (depot_count c.args.given.now) (length c.args.given.now.clients) c.loop-place.place (omega arith) (omega arith) fails)

pub returns : goal.returns
returns c = λ routes h.
    let depots : length c.items-depots.result.now ≡ depot_count c.args.given.now = cc in
    sym (all_pass (λ (k : ℕ). cond (is_required c.args.given.now k) (is_visited routes k) true) (depot_count c.args.given.now) (length c.args.given.now.clients)
    (λ k low high. c.loop-place.invariant routes h k (omega arith) (omega arith)))
