use Rattle.std.proofs.Common.{◌≡◌, ◌*◌, ◌≤◌, ◌^◌, take}
use Rattle.std.specs.Prelude.{sum}
use Rattle.sorted_numbers.proofs.numbers.SortedNumbers.least_sum.Given as goal

abbrev pub invariant-loop-number : goal.invariant-loop-number
invariant-loop-number l = record {
  sum_is : l.sum ≡ sum (take l.number-index l.number-items);
  bound : l.sum ≤ l.number-index * 2 ^ 32;
}
