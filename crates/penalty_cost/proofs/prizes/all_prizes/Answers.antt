use Rattle.std.proofs.Common.{arith, ◌≡◌, length}
use Rattle.problem_data.specs.Places.{depot_count}
use Rattle.penalty_cost.proofs.MissedPrizes.{prizes-more}
use Rattle.penalty_cost.proofs.prizes.all_prizes.Goals as goal

pub loop-client-preserved : goal.loop-client-preserved
loop-client-preserved c = record {
  prizes =
      let depots : length c.items.result.now ≡ depot_count c.args.given.now = cc in
      prizes-more c.args.given.now c.loop-client.client _ c.loop-client.prizes c.client.result.now (omega arith) c.client.ensures.client c.loop-client.invariant.prizes;
  short = let client = c.client.ensures.valid.prize in omega arith;
}
