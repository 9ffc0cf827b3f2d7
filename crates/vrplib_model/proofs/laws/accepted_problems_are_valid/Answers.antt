use Rattle.vrplib_model.proofs.Accepted.{accepted-valid}
use Rattle.vrplib_model.proofs.laws.accepted_problems_are_valid.Goals as goal

pub returns : goal.returns
returns c = accepted-valid
