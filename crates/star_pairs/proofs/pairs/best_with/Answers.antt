use Rattle.std.proofs.Common.{◌≡◌, ℕ, List, length, ap, subst, arith}
use Rattle.problem_data.specs.declared.visit.Visit.{Visit}
use Rattle.star_pairs.specs.inside.Pairs.{IsBestSoFar}
use Rattle.star_pairs.proofs.pairs.best_with.Goals as goal

pub pair_at-pair-requires-clause-for_u : goal.pair_at-pair-requires-clause-for_u
pair_at-pair-requires-clause-for_u c =
    let long : length c.visits-u_at-end.result.now ≡ length c.args.first.now.visits = ap (λ (xs : List Visit). length xs) c.visits-u_at-end.ensures.visits in
    c.requires.kept c.loop-u_at.u_at _ (omega (arith, long))

pub loop-u_at-preserved : goal.loop-u_at-preserved
loop-u_at-preserved c =
    let long : length c.visits-u_at-end.result.now ≡ length c.args.first.now.visits = ap (λ (xs : List Visit). length xs) c.visits-u_at-end.ensures.visits in
    let before = c.loop-u_at.invariant.reads in
    let read = c.pair_at-pair.ensures.reads in
    record {
      best = c.earlier-best.ensures c.args.first.now c.args.second.now c.loop-u_at.u_at c.args.v_at (omega (arith, long)) c.requires.v_at c.loop-u_at.invariant.best c.pair_at-pair.ensures.pair;
      reads = record { kept = omega (arith, before.kept, read.kept); most = omega (arith, before.most, read.most) };
    }

pub returns-clause-best : goal.returns-clause-best
returns-clause-best c =
    let long : length c.visits-u_at-end.result.now ≡ length c.args.first.now.visits = ap (λ (xs : List Visit). length xs) c.visits-u_at-end.ensures.visits in
    let all : c.loop-u_at.u_at ≡ length c.args.first.now.visits = omega (arith, long) in
    subst (λ (n : ℕ). IsBestSoFar c.args.first.now c.args.second.now c.args.v_at n c.loop-u_at.best) all c.loop-u_at.invariant.best
