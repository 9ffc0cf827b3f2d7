use Rattle.std.proofs.Common.{◌∙◌, map, subst}
use Rattle.genetic_model.specs.Run.{Run, found_by, run}
use Rattle.genetic.specs.Found.{IsFoundAs}
use Rattle.genetic.proofs.WholeRun.{rose-in, whole-run}
use Rattle.genetic.proofs.solving.solve.Goals as goal

pub returns-clause-found : goal.returns-clause-found
returns-clause-found g c =
    let p = c.args.given.now in
    let begun = c.in_ok-run.ensures in
    let filled = c.in_ok-populate.ensures in
    let ended = c.in_ok-go_on.ensures in
    let first = map (λ b. (goal.Operator-dyn g (b.vtable, b.value)).tally_of b.value) c.args.kit.items in
    let us = map (λ b. (goal.Operator-dyn g (b.vtable, b.value)).tally_of b.value) c.go_on.new.kit.items in
    let stands = whole-run p c.args.params c.args.seed first us c.in_ok-run.run' c.populate.new.self c.go_on.new.self begun.problem begun.params begun.iterations begun.empty filled.same
    (filled.stands first first) (ended.stands first) in
    subst (λ (r : Run). IsFoundAs (found_by r) c.in_ok-found.found) stands.same c.in_ok-found.ensures

pub returns-clause-rises : goal.returns-clause-rises
returns-clause-rises g c =
    let p = c.args.given.now in
    let begun = c.in_ok-run.ensures in
    let filled = c.in_ok-populate.ensures in
    let ended = c.in_ok-go_on.ensures in
    let first = map (λ b. (goal.Operator-dyn g (b.vtable, b.value)).tally_of b.value) c.args.kit.items in
    let us = map (λ b. (goal.Operator-dyn g (b.vtable, b.value)).tally_of b.value) c.go_on.new.kit.items in
    let stands = whole-run p c.args.params c.args.seed first us c.in_ok-run.run' c.populate.new.self c.go_on.new.self begun.problem begun.params begun.iterations begun.empty filled.same
    (filled.stands first first) (ended.stands first) in
    rose-in p c.args.params first us c.go_on.new.self (run p c.args.params c.args.seed) (ended.same.problem ∙ filled.same.run.problem ∙ begun.problem)
    (ended.same.params ∙ filled.same.run.params ∙ begun.params) stands
