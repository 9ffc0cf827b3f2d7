use Rattle.std.proofs.Common.{◌∙◌, ◌+◌, ◌-◌, ◌<◌, ap, arith, length, sym}
use Rattle.std.proofs.lemmas.List.Edits.{length-remove}
use Rattle.list_words.specs.Lists.{times}
use Rattle.genetic_model.specs.Population.{without_last_duplicate}
use Rattle.subpopulation.specs.Kept.{plans_of}
use Rattle.subpopulation.proofs.Purged.{duplicate-goes, no-duplicate, steps-end}
use Rattle.subpopulation.proofs.list.Subpopulation.drop_duplicates.Goals as goal

pub loop-count-preserved : goal.loop-count-preserved
loop-count-preserved c =
    let plans = plans_of c.loop-count.self in
    let size = length (plans_of c.args.self.now) in
    let count = c.loop-count._count in
    let place = c.in-Some.place in
    let is = c.loop-count.invariant in
    let len = c.len-count-end.ensures in
    let t = c.loop-count-test.true in
    let more : count < size = omega arith in
    record {
      kept = c.remove.ensures.kept;
      few = let e = ap length c.remove.ensures.plans in let f = length-remove plans place c.in-Some.ensures.there in let g = is.few in omega arith;
      steps = ap (times (size - (count + 1)) without_last_duplicate) c.remove.ensures.plans ∙ (duplicate-goes plans size count place more c.in-Some.ensures.last ∙ is.steps);
    }

pub returns-in_default-clause-plans : goal.returns-in_default-clause-plans
returns-in_default-clause-plans c =
    no-duplicate (plans_of c.loop-count.self) (length (plans_of c.args.self.now) - c.loop-count._count) c.in_default.ensures.last ∙ c.loop-count.invariant.steps

pub returns-clause-plans : goal.returns-clause-plans
returns-clause-plans c =
    let len = c.len-count-end.ensures in
    let t = c.loop-count-test.false in
    sym (steps-end without_last_duplicate (length (plans_of c.args.self.now)) c.loop-count._count (plans_of c.loop-count.self) (omega arith)) ∙ c.loop-count.invariant.steps
