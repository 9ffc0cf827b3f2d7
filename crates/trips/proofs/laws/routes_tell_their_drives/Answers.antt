use Rattle.trips.proofs.WholeDrives.{tells-drive}
use Rattle.trips.proofs.laws.routes_tell_their_drives.Goals as goal

pub returns : goal.returns
returns c = tells-drive
