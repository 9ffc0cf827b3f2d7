-- Descents of a run, beside those of the run of the definitions.
use Rattle.std.proofs.Common.{◌≡◌, List, [], ◌∷◌, ◌++◌, ap, subst, sym}
use Rattle.std.specs.Prelude.{if◌then◌else◌}
use Rattle.vrp_num.specs.Words.{State}
use Rattle.routing_model.specs.declared.weights.Weights.{Weights}
use Rattle.routing_model.specs.Feasible.{is_feasible}
use Rattle.routing_model.specs.Routes.{Routes}
use Rattle.genetic_model.specs.Penalties.{boosted}
use Rattle.genetic_model.specs.RandomDescent.{RandomDescent, Start, random_descent}
use Rattle.genetic_model.specs.Run.{Run, admitted, repaired, with_descent, with_repair}
use Rattle.move_core.specs.declared.tally.Tally.{Tally}
use Rattle.random_descents.specs.Rises.{RoseOver}
use Rattle.random_descents.proofs.JoinedRises.{rose_over-both}
use Rattle.genetic.specs.declared.run.Run.{Run as RunState}
use Rattle.genetic.specs.inside.Runs.{IsDescended, Stands, reached}

-- a run that a descent alone has changed stands after it
pub stands-descended : (first ts us : List Tally) (before after : RunState) (d : RandomDescent) (routes : Routes) (starts : List Start) →
    after ≡ record before { generator = after.generator; reads = after.reads } → IsDescended d before ts routes after us →
    RoseOver before.given.now before.params.neighbourhood starts first ts → Stands first after us (with_descent d (reached before starts))
stands-descended first ts us before after d routes starts others made rises =
    subst (λ (x : RunState). Stands first x us (with_descent d (reached before starts))) (sym others)
    (record {
      same = ap (λ (s : State). record (reached before (starts ++ d.start ∷ [])) { state = s }) made.same_state;
      rises = rose_over-both before.given.now before.params.neighbourhood starts (d.start ∷ []) first ts us rises made.rises;
    })

-- a run that a repair's descent has changed stands after the repair, if its plan was added exactly where it is feasible
pub stands-repaired : (first ts us : List Tally) (before mid after : RunState) (w : Weights) (plan routes : Routes) (starts : List Start) →
    mid ≡ record before { generator = mid.generator; reads = mid.reads } →
    IsDescended (random_descent before.given.now before.params.neighbourhood w plan before.generator) before ts routes mid us →
    w ≡ boosted before.params.genetic.repair_booster before.penalties.weights →
    ((r : Run) → Stands first mid us r → Stands first after us (if is_feasible before.given.now routes then admitted before.given.now routes r else r)) →
    RoseOver before.given.now before.params.neighbourhood starts first ts →
    Stands first after us (repaired before.given.now before.params plan (reached before starts))
stands-repaired first ts us before mid after w plan routes starts others made weights added rises =
    let p = before.given.now in
    let r = reached before starts in
    let descent : Weights → RandomDescent = λ x. random_descent p before.params.neighbourhood x plan before.generator in
    let d = descent w in
    subst (λ (x : Weights). Stands first after us (with_repair p (descent x) r)) weights
    (subst (λ (x : Routes). Stands first after us (if is_feasible p x then admitted p x (with_descent d r) else with_descent d r)) made.same_plan
    (added (with_descent d r) (stands-descended first ts us before mid d routes starts others made rises)))
