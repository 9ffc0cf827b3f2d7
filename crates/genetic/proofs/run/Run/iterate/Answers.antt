use Rattle.std.proofs.Common.{◌∙◌, ◌+◌, false, ap, map, refl, subst}
use Rattle.problem_data.specs.declared.problem.Problem.{Problem}
use Rattle.genetic_model.specs.declared.params.Params.{Params}
use Rattle.genetic_model.specs.Run.{bred, iteration, restarted, with_counters}
use Rattle.genetic.specs.declared.run.Run.{Run as RunState}
use Rattle.genetic.specs.inside.Runs.{Stands, reached}
use Rattle.genetic.proofs.RunSteps.{stands-by}
use Rattle.genetic.proofs.run.Run.iterate.Goals as goal

pub returns-clause-stands : goal.returns-clause-stands
returns-clause-stands g c = λ first r.
    let s = c.args.self.now in
    let p = s.given.now in
    let counted = c.count_idle.new.self in
    let after = c.restart.new.self in
    let ts = map (λ b. (goal.Operator-dyn g (b.vtable, b.value)).tally_of b.value) c.args.kit.now.items in
    let us = map (λ b. (goal.Operator-dyn g (b.vtable, b.value)).tally_of b.value) c.breed.new.kit.items in
    let others = c.count_idle.ensures.others in
    let run = c.in_ok-breed.ensures.same.run in
    stands-by first ts us s after (iteration p s.params) r
    (λ starts rises.
    let x = bred p s.params (record (reached s starts) { improved = false; iterations = s.iterations + 1 }) in
    let stands = c.count_idle.ensures.stands first us x (c.in_ok-breed.ensures.stands first _ (record { same = refl; rises = rises })) in
    subst (λ (y : Params). Stands first after us (restarted p y (with_counters x))) (ap (λ (y : RunState). y.params) others ∙ run.params)
    (subst (λ (q : Problem). Stands first after us (restarted q counted.params (with_counters x))) (ap (λ (y : RunState). y.given.now) others ∙ run.problem)
    (c.in_ok-restart.ensures.stands first us (with_counters x) stands)))
