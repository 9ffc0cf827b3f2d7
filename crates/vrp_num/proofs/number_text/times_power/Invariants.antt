use Rattle.std.proofs.Common.{◌≡◌, ◌*◌, ◌^◌, min}
use Rattle.vrp_num.proofs.Scaled.{most}
use Rattle.vrp_num.proofs.number_text.times_power.Given as goal

abbrev pub invariant-loop-count : goal.invariant-loop-count
invariant-loop-count l = l.value ≡ min (l.number * 10 ^ l._count) most
