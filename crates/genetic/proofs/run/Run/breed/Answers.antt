use Rattle.std.proofs.Common.{◌≡◌, [], map, subst, sym}
use Rattle.std.specs.Prelude.{IsTrue}
use Rattle.problem_data.specs.declared.problem.Problem.{Problem}
use Rattle.routing_model.specs.Lawful.{is_lawful}
use Rattle.routing_model.specs.Routes.{Routes}
use Rattle.genetic_model.specs.declared.params.Params.{Params}
use Rattle.genetic_model.specs.RandomDescent.{RandomDescent, random_descent}
use Rattle.genetic_model.specs.Run.{bred, descent_of, offspring, with_child, with_descent}
use Rattle.random_descents.specs.Rises.{RoseOver}
use Rattle.genetic.specs.declared.run.Run.{Run as RunState}
use Rattle.genetic.specs.inside.Runs.{Stands, reached}
use Rattle.genetic.proofs.DescendedRuns.{stands-descended}
use Rattle.genetic.proofs.RunSteps.{same-iteration, same-run, stands-by, taken}
use Rattle.genetic.proofs.run.Run.breed.Goals as goal

pub descended-requires-clause-lawful : goal.descended-requires-clause-lawful
descended-requires-clause-lawful g c = subst (λ (q : Problem). IsTrue (is_lawful q c.in_ok-child.child.routes)) (sym c.in_ok-child.ensures.same.run.problem) c.in_ok-child.ensures.lawful

pub take_child-requires-clause-lawful : goal.take_child-requires-clause-lawful
take_child-requires-clause-lawful g c = subst (λ (q : Problem). IsTrue (is_lawful q c.in_ok-child-2.child.routes)) (sym c.in_ok-child-2.ensures.same.run.problem) c.in_ok-child-2.ensures.lawful

pub returns-clause-same : goal.returns-clause-same
returns-clause-same g c =
    same-iteration c.args.self.now c.offspring.new.self c.take_child.new.self c.in_ok-child.ensures.same
    (same-iteration c.offspring.new.self c.descended.new.self c.take_child.new.self c.in_ok-child-2.ensures.same c.in_ok-take_child.ensures.same)

pub returns-clause-stands : goal.returns-clause-stands
returns-clause-stands g c = λ first r.
    let s = c.args.self.now in
    let p = s.given.now in
    let one = c.offspring.new.self in
    let two = c.descended.new.self in
    let after = c.take_child.new.self in
    let ts = map (λ b. (goal.Operator-dyn g (b.vtable, b.value)).tally_of b.value) c.args.kit.now.items in
    let us = map (λ b. (goal.Operator-dyn g (b.vtable, b.value)).tally_of b.value) c.descended.new.kit.items in
    let vs = map (λ b. (goal.Operator-dyn g (b.vtable, b.value)).tally_of b.value) c.take_child.new.kit.items in
    let child = c.in_ok-child.ensures in
    let made = c.in_ok-child-2.ensures in
    let routes = c.in_ok-child-2.child.routes in
    let d : RandomDescent = random_descent one.given.now one.params.neighbourhood c.weights-weights.result c.in_ok-child.child.routes one.generator in
    let same : d ≡ descent_of p s.params (reached s []) (offspring p (reached s [])) =
    (λ i. random_descent (child.same.run.problem i) (child.same.run.params i).neighbourhood (c.weights-weights.ensures.weights i) (child.child.0 i) (child.child.1 i)) in
    let run = same-run s one two child.same.run made.same.run in
    stands-by first ts vs s after (bred p s.params) r
    (λ starts rises.
    let x = with_descent d (reached s starts) in
    let begun = subst (λ (y : RunState). RoseOver y.given.now y.params.neighbourhood starts first ts) (sym child.others) rises in
    let stands = subst (λ (y : RunState). Stands first two us (with_descent d (reached y starts))) child.others (stands-descended first ts us one two d routes starts made.others made.descended begun) in
    subst (λ (y : RandomDescent). Stands first after vs (with_child p s.params y (reached s starts))) same
    (subst (λ (y : Routes). Stands first after vs (taken p s.params y x)) made.descended.same_plan
    (subst (λ (y : Params). Stands first after vs (taken p y routes x)) run.params
    (subst (λ (q : Problem). Stands first after vs (taken q two.params routes x)) run.problem
    (c.in_ok-take_child.ensures.stands first x stands)))))
