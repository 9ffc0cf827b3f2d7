use Rattle.std.proofs.Common.{◌∙◌, true, map, []}
use Rattle.search_model.specs.Kinds.{all_kinds}
use Rattle.local_search.proofs.Candidate.{gave_nothing}
use Rattle.local_search.proofs.Rises.{rose_once}
use Rattle.local_search.proofs.TakenMove.{kit_length, may_apply, same_moments, took}
use Rattle.local_search.proofs.moves.try_candidate.Goals as goal

pub take-requires-clause-gain : goal.take-requires-clause-gain
take-requires-clause-gain g c = may_apply c.args.search.now.problem c.args.search.now.weights c.args.search.now.routes c.args.candidate _ (rw c.in-Some.is at c.evaluate_at.ensures.answer)

pub returns-in_ok-take-in-Some-clause-tried : goal.returns-in_ok-take-in-Some-clause-tried
returns-in_ok-take-in-Some-clause-tried g c =
    took c.args.search.now.problem c.args.search.now.weights c.args.candidate _ c.args.at c.args.search.now c.take.new.search c.args.memory.now c.count.new.self c.take.new.memory _ (map (λ b. (goal.Operator-dyn g (b.vtable, b.value)).tally_of b.value) c.evaluate_at.new.kit) _ c.requires.stage c.count.ensures.same c.in_ok-take-in-Some.ensures.memory
    c.requires.at c.requires.kind
    (kit_length (λ b. (goal.Operator-dyn g (b.vtable, b.value)).kind_of b.value) (λ b. (goal.Operator-dyn g (b.vtable, b.value)).tally_of b.value) c.evaluate_at.new.kit (c.evaluate_at.ensures.kinds ∙ c.requires.kinds))
    c.count.ensures.one c.evaluate_at.ensures.tried c.evaluate_at.ensures.applied (rw c.in-Some.is at c.evaluate_at.ensures.answer) c.in_ok-take-in-Some.ensures.search c.in_ok-take-in-Some.ensures.tried c.in_ok-take-in-Some.ensures.applied

pub returns-in_ok-take-in-Some-clause-moments : goal.returns-in_ok-take-in-Some-clause-moments
returns-in_ok-take-in-Some-clause-moments g c =
    same_moments c.args.search.now.problem c.args.search.now.weights c.args.candidate c.in-Some.gain c.args.at c.args.search.now c.take.new.search c.args.memory.now c.count.new.self c.take.new.memory _ [] [] c.requires.stage c.count.ensures.same c.in_ok-take-in-Some.ensures.memory

pub returns-in-None-clause-tried : goal.returns-in-None-clause-tried
returns-in-None-clause-tried g c =
    gave_nothing c.args.search.now.problem c.args.search.now.weights all_kinds true c.args.candidate c.args.search.now c.args.memory.now c.count.new.self _ _ c.requires.stage c.evaluate_at.ensures.tried
    c.count.new.self.tried c.count.ensures.same (rose_once c.args.memory.now.tried c.count.new.self.tried c.count.ensures.one) (rw c.in-None.is at c.evaluate_at.ensures.answer) c.evaluate_at.ensures.applied
