use Rattle.std.proofs.Common.{subst, arith, ℕ}
use Rattle.std.proofs.lemmas.Int.{ints}
use Rattle.star_pairs.specs.inside.Pairs.{IsTurn}
use Rattle.star_pairs.proofs.pair.pair_at.Goals as goal

pub overflow_add-result : goal.overflow_add-result
overflow_add-result c =
    let a = c.turn_at-one.ensures.small in
    let b = c.turn_at-two.ensures.small in
    omega (arith, ints, a.low, a.high, b.low, b.high)

pub returns-clause-pair : goal.returns-clause-pair
returns-clause-pair c =
    let a = c.turn_at-one.ensures.small in
    let b = c.turn_at-two.ensures.small in
    record {
      u_is = c.client_at-u.ensures.client;
      v_is = c.client_at-v.ensures.client;
      first_turn = subst (λ (x : ℕ). IsTurn c.args.first.now c.args.u_at x c.turn_at-one.result) c.client_at-v.ensures.client c.turn_at-one.ensures.turn;
      second_turn = subst (λ (x : ℕ). IsTurn c.args.second.now c.args.v_at x c.turn_at-two.result) c.client_at-u.ensures.client c.turn_at-two.ensures.turn;
      change_is = omega (arith, ints, a.low, a.high, b.low, b.high);
    }
