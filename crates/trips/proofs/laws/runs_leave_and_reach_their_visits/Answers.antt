use Rattle.trips.proofs.RunEnds.{leaves-at_last, reaches-first}
use Rattle.trips.proofs.laws.runs_leave_and_reach_their_visits.Goals as goal

pub returns-clause-leaves : goal.returns-clause-leaves
returns-clause-leaves c = leaves-at_last

pub returns-clause-reaches : goal.returns-clause-reaches
returns-clause-reaches c = reaches-first
