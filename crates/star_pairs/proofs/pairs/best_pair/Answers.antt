use Rattle.std.proofs.Common.{◌≡◌, ℕ, ◌+◌, ◌*◌, List, length, ap, subst, arith}
use Rattle.problem_data.specs.declared.visit.Visit.{Visit}
use Rattle.star_pairs.specs.inside.Pairs.{IsBestSoFar}
use Rattle.star_pairs.proofs.BestLaws.{best-row}
use Rattle.star_pairs.proofs.BestSwaps.{best-of-all}
use Rattle.star_pairs.proofs.pairs.best_pair.Goals as goal

one_more : (n each : ℕ) → n * each + each ≡ (n + 1) * each
one_more n each = grind arith

pub loop-v_at-preserved : goal.loop-v_at-preserved
loop-v_at-preserved c =
    let before = c.loop-v_at.invariant.reads in
    let read = c.best_with-best.ensures.reads in
    let all = one_more c.loop-v_at.v_at (2 * (length c.args.first.now.visits + 1) + length c.args.first.now.visits * 4) in
    record {
      best = best-row c.args.first.now c.args.second.now c.loop-v_at.v_at c.best_with-best.result c.best_with-best.ensures.best;
      reads = record { kept = omega (arith, before.kept, read.kept); most = omega (arith, before.most, read.most, all) };
    }

pub returns-clause-best : goal.returns-clause-best
returns-clause-best c =
    let long : length c.visits-v_at-end.result.now ≡ length c.args.second.now.visits = ap (λ (xs : List Visit). length xs) c.visits-v_at-end.ensures.visits in
    let all : c.loop-v_at.v_at ≡ length c.args.second.now.visits = omega (arith, long) in
    best-of-all c.args.first.now c.args.second.now c.requires.problem c.loop-v_at.best
    (subst (λ (n : ℕ). IsBestSoFar c.args.first.now c.args.second.now n 0 c.loop-v_at.best) all c.loop-v_at.invariant.best)
