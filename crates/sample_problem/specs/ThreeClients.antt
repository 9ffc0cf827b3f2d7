-- A problem of three clients, and of vehicles of two types.
use Rattle.std.specs.Prelude.{ℕ, ◌^◌, List, [], ◌∷◌, None, replicate, pos}
use Rattle.problem_data.specs.declared.problem.Problem.{Problem}
use Rattle.problem_data.specs.declared.problem.Window.{Window}
use Rattle.problem_data.specs.declared.problem.Client.{Client}
use Rattle.problem_data.specs.declared.problem.VehicleType.{VehicleType}
use Rattle.problem_data.specs.Matrix.{Table}

-- no window shuts anything out
abbrev pub any_time : Window
any_time = record { early = 0; late = 10 ^ 12 }

-- wants 1
abbrev pub plain_client : Client
plain_client = record { delivery = 1; pickup = 0; window = any_time; service = 0; release = 0; prize = 0; group = None }

-- so many vehicles that carry 10, each of this cost to use
abbrev pub plain_type : ℕ → ℕ → VehicleType
plain_type count fixed = record {
  count = count;
  capacity = 10;
  start = 0;
  end = 0;
  fixed = fixed;
  unit_distance = 1;
  unit_duration = 0;
  shift = any_time;
  max_duration = 10 ^ 18;
  max_distance = 10 ^ 18;
  profile = 0;
  reloads = 0;
  reload_depots = [];
}

-- the legs between the depot and clients at (3, 4), (6, 8) and (0, 2) from it
abbrev pub legs : List ℕ
legs = 0 ∷ 5 ∷ 10 ∷ 2 ∷ 5 ∷ 0 ∷ 5 ∷ 4 ∷ 10 ∷ 5 ∷ 0 ∷ 8 ∷ 2 ∷ 4 ∷ 8 ∷ 0 ∷ []

-- one vehicle costs 20 to use, and two cost nothing to use
abbrev pub three_clients : Problem
three_clients = let table : Table = record { size = 4; entries = legs } in record {
  places = replicate 4 (record { x = pos 0; y = pos 0 });
  depots = record { window = any_time; service = 0 } ∷ [];
  clients = replicate 3 plain_client;
  types = plain_type 1 20 ∷ plain_type 2 0 ∷ [];
  profiles = record { distances = table; durations = table } ∷ [];
  groups = [];
}
