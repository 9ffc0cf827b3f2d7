use Rattle.std.proofs.Common.{◌∙◌, ap, Bool, map, refl, subst, sym}
use Rattle.std.specs.Prelude.{IsTrue, if◌then◌else◌}
use Rattle.problem_data.specs.declared.problem.Problem.{Problem}
use Rattle.problem_data.specs.declared.problem.Solution.{Solution}
use Rattle.routing_model.specs.Lawful.{is_lawful}
use Rattle.random_model.specs.Draws.{below}
use Rattle.genetic_model.specs.declared.params.Params.{Params}
use Rattle.genetic_model.specs.Run.{admitted, repaired_by, with_registration}
use Rattle.move_core.proofs.SoundSearches.{drivable-of}
use Rattle.genetic.specs.inside.Runs.{Stands, reached}
use Rattle.genetic.proofs.FreePlans.{is_feasible-by}
use Rattle.genetic.proofs.RunSteps.{stands-added, stands-by, taken}
use Rattle.genetic.proofs.run.Run.take_child.Goals as goal

pub assess-excess-requires : goal.assess-excess-requires
assess-excess-requires g c = drivable-of c.args.self.now.given.now c.args.child.now.routes c.validity.ensures c.requires.lawful

pub returns-then-is_free-clause-stands : goal.returns-then-is_free-clause-stands
returns-then-is_free-clause-stands g c = λ first r.
    let s = c.args.self.now in
    let p = s.given.now in
    let child = c.args.child.now.routes in
    let added = c.admit.new.self in
    let ts = map (λ b. (goal.Operator-dyn g (b.vtable, b.value)).tally_of b.value) c.args.kit.now.items in
    let feasible = is_feasible-by p p child c.assess-excess.result c.is_free.result c.requires.lawful refl c.assess-excess.ensures.assessment c.is_free.ensures ∙ c.if-is_free.true in
    let after = record added { penalties = c.register.new.self } in
    let us = ts in
    stands-by first ts us s after (taken p s.params child) r
    (λ starts rises.
    let x = with_registration p child (admitted p child (reached s starts)) in
    let stands = stands-added first ts (record s { reads = c.assess-excess.new.reads }) added c.register.new.self c.assess-excess.result child c.in_ok-copy.field-0.routes starts
    (ap (λ (solution : Solution). solution.routes) c.in_ok-copy.ensures) (c.in_ok-admit.ensures.stands first ts) c.assess-excess.ensures.assessment c.register.ensures rises in
    subst (λ (b : Bool). Stands first after us (if b then x else repaired_by p s.params child (below 1000 x.state) x)) (sym feasible)
    stands)

pub repair_by_chance-requires-clause-lawful : goal.repair_by_chance-requires-clause-lawful
repair_by_chance-requires-clause-lawful g c = subst (λ (q : Problem). IsTrue (is_lawful q c.args.child.now.routes)) (sym c.in_ok-admit.ensures.same.run.problem) c.requires.lawful

pub returns-clause-stands : goal.returns-clause-stands
returns-clause-stands g c = λ first r.
    let s = c.args.self.now in
    let p = s.given.now in
    let child = c.args.child.now.routes in
    let added = c.admit.new.self in
    let ts = map (λ b. (goal.Operator-dyn g (b.vtable, b.value)).tally_of b.value) c.args.kit.now.items in
    let feasible = is_feasible-by p p child c.assess-excess.result c.is_free.result c.requires.lawful refl c.assess-excess.ensures.assessment c.is_free.ensures ∙ c.if-is_free.false in
    let after = c.repair_by_chance.new.self in
    let us = map (λ b. (goal.Operator-dyn g (b.vtable, b.value)).tally_of b.value) c.repair_by_chance.new.kit.items in
    stands-by first ts us s after (taken p s.params child) r
    (λ starts rises.
    let x = with_registration p child (admitted p child (reached s starts)) in
    let stands = stands-added first ts (record s { reads = c.assess-excess.new.reads }) added c.register.new.self c.assess-excess.result child c.in_ok-copy.field-0.routes starts
    (ap (λ (solution : Solution). solution.routes) c.in_ok-copy.ensures) (c.in_ok-admit.ensures.stands first ts) c.assess-excess.ensures.assessment c.register.ensures rises in
    subst (λ (b : Bool). Stands first after us (if b then x else repaired_by p s.params child (below 1000 x.state) x)) (sym feasible)
    (subst (λ (y : Params). Stands first after us (repaired_by p y child (below 1000 x.state) x)) c.in_ok-admit.ensures.same.run.params
    (subst (λ (q : Problem). Stands first after us (repaired_by q added.params child (below 1000 x.state) x)) c.in_ok-admit.ensures.same.run.problem
    (c.in_ok-repair_by_chance.ensures.stands first x stands))))
