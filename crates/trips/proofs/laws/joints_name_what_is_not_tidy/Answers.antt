use Rattle.trips.proofs.TidyJoints.{joints-tidy}
use Rattle.trips.proofs.laws.joints_name_what_is_not_tidy.Goals as goal

pub returns : goal.returns
returns c = joints-tidy
