-- A problem of two clients that want nothing, and of two vehicles that cost 50 to use.
use Rattle.std.specs.Prelude.{ℕ, List, [], ◌∷◌, None, replicate, pos}
use Rattle.problem_data.specs.declared.problem.Problem.{Problem}
use Rattle.problem_data.specs.declared.problem.Client.{Client}
use Rattle.problem_data.specs.Matrix.{Table}
use Rattle.sample_problem.specs.ThreeClients.{any_time, plain_type}

-- wants nothing
abbrev pub idle_client : Client
idle_client = record { delivery = 0; pickup = 0; window = any_time; service = 0; release = 0; prize = 0; group = None }

-- the legs between the depot and clients at (3, 4) and (0, 5) from it
abbrev pub near_legs : List ℕ
near_legs = 0 ∷ 5 ∷ 5 ∷ 5 ∷ 0 ∷ 3 ∷ 5 ∷ 3 ∷ 0 ∷ []

abbrev pub two_vehicles : Problem
two_vehicles = let table : Table = record { size = 3; entries = near_legs } in record {
  places = replicate 3 (record { x = pos 0; y = pos 0 });
  depots = record { window = any_time; service = 0 } ∷ [];
  clients = replicate 2 idle_client;
  types = plain_type 2 50 ∷ [];
  profiles = record { distances = table; durations = table } ∷ [];
  groups = [];
}
