use Rattle.std.proofs.Common.{◌≡◌, ◌∙◌, ◌+◌, ◌-◌, ◌<◌, ap, arith, length, sym}
use Rattle.std.proofs.lemmas.List.Edits.{length-remove}
use Rattle.list_words.specs.Lists.{last_greatest, times}
use Rattle.genetic_model.specs.Fitness.{fitnesses}
use Rattle.genetic_model.specs.Population.{without_worst}
use Rattle.subpopulation.specs.Kept.{plans_of}
use Rattle.subpopulation.proofs.Purged.{as-many-fitnesses, steps-end, worst-goes}
use Rattle.subpopulation.proofs.list.Subpopulation.drop_worst.Goals as goal

pub remove-requires-clause-place : goal.remove-requires-clause-place
remove-requires-clause-place c =
    let p = c.args.given.now in
    let plans = plans_of c.loop-count.self in
    let same : length c.as_slice.result.now ≡ length plans =
    ap length (c.as_slice.ensures.value ∙ c.fitnesses-fitnesses.ensures p c.loop-count.invariant.kept) ∙ as-many-fitnesses plans p c.args.params c.args.weights in
    let t = c.worst.ensures.there in
    omega arith

pub loop-count-preserved : goal.loop-count-preserved
loop-count-preserved c =
    let p = c.args.given.now in
    let params = c.args.params in
    let w = c.args.weights in
    let plans = plans_of c.loop-count.self in
    let size = length (plans_of c.args.self.now) in
    let count = c.loop-count._count in
    let place = c.worst.result in
    let is = c.loop-count.invariant in
    let len = c.len-count-end.ensures in
    let t = c.loop-count-test.true in
    let more : count < size = omega arith in
    let all = c.as_slice.ensures.value ∙ c.fitnesses-fitnesses.ensures p is.kept in
    let same : length c.as_slice.result.now ≡ length plans = ap length all ∙ as-many-fitnesses plans p params w in
    let there = c.worst.ensures.there in
    let worst : place ≡ last_greatest (fitnesses p params w plans) = c.worst.ensures.place ∙ ap last_greatest all in
    let begun = is.begun in
    record {
      kept = c.remove.ensures.kept;
      begun = omega arith;
      long = let e = ap length c.remove.ensures.plans in let f = length-remove plans place (omega arith) in let l = is.long in omega arith;
      steps = ap (times (size - (count + 1)) (without_worst p params w)) c.remove.ensures.plans ∙ (worst-goes plans p params w size count place more worst ∙ is.steps);
    }

pub returns-clause-plans : goal.returns-clause-plans
returns-clause-plans c =
    let len = c.len-count-end.ensures in
    let t = c.loop-count-test.false in
    sym (steps-end (without_worst c.args.given.now c.args.params c.args.weights) (length (plans_of c.args.self.now)) c.loop-count._count (plans_of c.loop-count.self) (omega arith)) ∙ c.loop-count.invariant.steps
