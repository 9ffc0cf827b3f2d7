use Rattle.trips.proofs.InRange.{runs-can, whole-can}
use Rattle.trips.proofs.laws.segments_of_runs_are_in_range.Goals as goal

pub returns-clause-merge : goal.returns-clause-merge
returns-clause-merge c = runs-can

pub returns-clause-close : goal.returns-clause-close
returns-clause-close c = whole-can
