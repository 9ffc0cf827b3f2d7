use Rattle.std.proofs.Common.{◌∙◌, Bool, map, subst, sym}
use Rattle.std.specs.Prelude.{IsTrue, if◌then◌else◌}
use Rattle.problem_data.specs.declared.problem.Problem.{Problem}
use Rattle.routing_model.specs.Lawful.{is_lawful}
use Rattle.genetic_model.specs.Run.{admitted, repaired}
use Rattle.move_core.proofs.SoundSearches.{drivable-of}
use Rattle.genetic.specs.inside.Runs.{Stands}
use Rattle.genetic.proofs.DescendedRuns.{stands-repaired}
use Rattle.genetic.proofs.FreePlans.{is_feasible-by}
use Rattle.genetic.proofs.RunSteps.{stands-by, stands-read}
use Rattle.genetic.proofs.run.Run.repair.Goals as goal

pub admit-requires-clause-lawful : goal.admit-requires-clause-lawful
admit-requires-clause-lawful g c = subst (λ (q : Problem). IsTrue (is_lawful q c.in_ok-repaired.repaired.routes)) (sym c.in_ok-repaired.ensures.same.run.problem) c.in_ok-repaired.ensures.lawful

pub assess-excess-requires : goal.assess-excess-requires
assess-excess-requires g c =
    drivable-of c.descended.new.self.given.now c.in_ok-repaired.repaired.routes c.validity.ensures
    (subst (λ (q : Problem). IsTrue (is_lawful q c.in_ok-repaired.repaired.routes)) (sym c.in_ok-repaired.ensures.same.run.problem) c.in_ok-repaired.ensures.lawful)

pub returns-in_ok-admit-clause-stands : goal.returns-in_ok-admit-clause-stands
returns-in_ok-admit-clause-stands g c = λ first r.
    let s = c.args.self.now in
    let mid = c.descended.new.self in
    let made = c.in_ok-repaired.ensures in
    let routes = c.in_ok-repaired.repaired.routes in
    let ts = map (λ b. (goal.Operator-dyn g (b.vtable, b.value)).tally_of b.value) c.args.kit.now.items in
    let us = map (λ b. (goal.Operator-dyn g (b.vtable, b.value)).tally_of b.value) c.descended.new.kit.items in
    let feasible = is_feasible-by s.given.now mid.given.now routes c.assess-excess.result c.is_free.result made.lawful made.same.run.problem c.assess-excess.ensures.assessment c.is_free.ensures ∙ c.if-is_free.true in
    stands-by first ts us s c.admit.new.self (repaired s.given.now s.params c.args.plan.now.routes) r
    (λ starts. stands-repaired first ts us s mid c.admit.new.self c.boosted-weights.result c.args.plan.now.routes routes starts made.others made.descended c.boosted-weights.ensures.weights
    (λ x stands. subst (λ (b : Bool). Stands first c.admit.new.self us (if b then admitted s.given.now routes x else x)) (sym feasible)
    (subst (λ (q : Problem). Stands first c.admit.new.self us (admitted q routes x)) made.same.run.problem (c.in_ok-admit.ensures.stands first us x (stands-read first us mid c.assess-excess.new.reads x stands)))))

pub returns-else-is_free-clause-stands : goal.returns-else-is_free-clause-stands
returns-else-is_free-clause-stands g c = λ first r.
    let s = c.args.self.now in
    let mid = c.descended.new.self in
    let made = c.in_ok-repaired.ensures in
    let routes = c.in_ok-repaired.repaired.routes in
    let ts = map (λ b. (goal.Operator-dyn g (b.vtable, b.value)).tally_of b.value) c.args.kit.now.items in
    let us = map (λ b. (goal.Operator-dyn g (b.vtable, b.value)).tally_of b.value) c.descended.new.kit.items in
    let feasible = is_feasible-by s.given.now mid.given.now routes c.assess-excess.result c.is_free.result made.lawful made.same.run.problem c.assess-excess.ensures.assessment c.is_free.ensures ∙ c.if-is_free.false in
    stands-by first ts us s (record mid { reads = c.assess-excess.new.reads }) (repaired s.given.now s.params c.args.plan.now.routes) r
    (λ starts. stands-repaired first ts us s mid (record mid { reads = c.assess-excess.new.reads }) c.boosted-weights.result c.args.plan.now.routes routes starts made.others made.descended c.boosted-weights.ensures.weights
    (λ x stands. subst (λ (b : Bool). Stands first (record mid { reads = c.assess-excess.new.reads }) us (if b then admitted s.given.now routes x else x)) (sym feasible)
    (stands-read first us mid c.assess-excess.new.reads x stands)))
