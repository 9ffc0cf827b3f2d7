-- An exchange reads few legs to see what it improves.
use Rattle.std.proofs.Common.{ℕ, ◌≤◌, Bool, true, false, cond, arith, length}
use Rattle.std.specs.Prelude.{nat_eq}
use Rattle.gain_model.specs.MoveReads.{profile_of}
use Rattle.routing_model.specs.Routes.{list_at}
use Rattle.move_core.specs.Searches.{SearchState}
use Rattle.list_changes.specs.declared.change.Change.{Change}
use Rattle.list_changes.specs.declared.change.Change.TheVariants.{One, Two}
use Rattle.list_changes.specs.Layouts.{runs_of}
use Rattle.list_changes.specs.Reads.{improve_reads}
use Rattle.exchange_screens.specs.Trials.{LendsFew, most_lent}

pub few-improve : (s : SearchState) (change : Change) → LendsFew s change → improve_reads s change ≤ 18
few-improve s (One v layout) few = omega arith
few-improve s (Two a b one two) few =
    let first = some (nat_eq (profile_of s.problem b) (profile_of s.problem a)) (length (runs_of (list_at s.routes b) one)) few.first_few in
    let second = some (nat_eq (profile_of s.problem a) (profile_of s.problem b)) (length (runs_of (list_at s.routes a) two)) few.second_few in
    omega (arith, first, second)
  where
    some : (b : Bool) (n : ℕ) → n ≤ most_lent → cond b 0 n ≤ 3
    some true n few = omega arith
    some false n few = omega arith
