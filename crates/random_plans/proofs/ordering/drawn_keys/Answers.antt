use Rattle.std.proofs.Common.{◌≡◌, ◌+◌, ◌-◌, suc, arith}
use Rattle.random_plans.proofs.DrawnKeys.{keys-none, keys-more, state-none, state-more, keys_from}
use Rattle.vrp_num.specs.Words.{state_after}
use Rattle.random_plans.proofs.ordering.drawn_keys.Goals as goal

pub loop-place-preserved : goal.loop-place-preserved
loop-place-preserved c =
    let end = c.args.first + c.args.count in
    let left : end - c.loop-place.place ≡ suc (end - (c.loop-place.place + 1)) = omega arith in
    record {
      keys = rw (c.in_ok-push.ensures.items, c.next-word.ensures.word, c.next-word.ensures.state)
          (keys-more (end - (c.loop-place.place + 1)) (end - c.loop-place.place) c.loop-place.place c.loop-place.generator c.loop-place.keys.items (keys_from c.args.count c.args.first c.args.generator.now) left c.loop-place.invariant.keys);
      state = rw c.next-word.ensures.state
          (state-more (end - (c.loop-place.place + 1)) (end - c.loop-place.place) c.loop-place.generator (state_after c.args.count c.args.generator.now) left c.loop-place.invariant.state);
    }

pub returns-clause-keys : goal.returns-clause-keys
returns-clause-keys c =
    let end = c.args.first + c.args.count in
    keys-none (end - c.loop-place.place) c.loop-place.place c.loop-place.generator c.loop-place.keys.items (keys_from c.args.count c.args.first c.args.generator.now) (omega arith) c.loop-place.invariant.keys

pub returns-clause-state : goal.returns-clause-state
returns-clause-state c =
    let end = c.args.first + c.args.count in
    state-none (end - c.loop-place.place) c.loop-place.generator (state_after c.args.count c.args.generator.now) (omega arith) c.loop-place.invariant.state
