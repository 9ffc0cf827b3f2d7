-- A problem of three vehicles, each of a type of its own: by what it costs to use, what it carries, and how far its legs are.
use Rattle.std.specs.Prelude.{ℕ, ◌^◌, List, [], ◌∷◌, None, replicate, pos}
use Rattle.problem_data.specs.declared.problem.Problem.{Problem}
use Rattle.problem_data.specs.declared.problem.Client.{Client}
use Rattle.problem_data.specs.declared.problem.VehicleType.{VehicleType}
use Rattle.problem_data.specs.Matrix.{Table}
use Rattle.sample_problem.specs.ThreeClients.{any_time}

-- wants 3, and has this prize
abbrev pub prized_client : ℕ → Client
prized_client prize = record { delivery = 3; pickup = 0; window = any_time; service = 0; release = 0; prize = prize; group = None }

-- one vehicle that carries so much, costs so much to use, drives by this profile, and may reload twice
abbrev pub reloading_type : ℕ → ℕ → ℕ → VehicleType
reloading_type capacity fixed profile = record {
  count = 1;
  capacity = capacity;
  start = 0;
  end = 0;
  fixed = fixed;
  unit_distance = 1;
  unit_duration = 0;
  shift = any_time;
  max_duration = 10 ^ 18;
  max_distance = 10 ^ 18;
  profile = profile;
  reloads = 2;
  reload_depots = 0 ∷ [];
}

-- the legs between the depot and clients at (3, 4), (0, 5) and (0, 2) from it
abbrev pub short_legs : List ℕ
short_legs = 0 ∷ 5 ∷ 5 ∷ 2 ∷ 5 ∷ 0 ∷ 3 ∷ 4 ∷ 5 ∷ 3 ∷ 0 ∷ 3 ∷ 2 ∷ 4 ∷ 3 ∷ 0 ∷ []

-- the legs by the other profile: twice as far
abbrev pub long_legs : List ℕ
long_legs = 0 ∷ 10 ∷ 10 ∷ 4 ∷ 10 ∷ 0 ∷ 6 ∷ 8 ∷ 10 ∷ 6 ∷ 0 ∷ 6 ∷ 4 ∷ 8 ∷ 6 ∷ 0 ∷ []

abbrev pub short_table : Table
short_table = record { size = 4; entries = short_legs }

abbrev pub long_table : Table
long_table = record { size = 4; entries = long_legs }

-- the first vehicle costs 20 to use, the second carries 2 in place of 10, and the third drives twice as far
abbrev pub three_types : Problem
three_types = record {
  places = replicate 4 (record { x = pos 0; y = pos 0 });
  depots = record { window = any_time; service = 0 } ∷ [];
  clients = prized_client 7 ∷ prized_client 0 ∷ prized_client 9 ∷ [];
  types = reloading_type 10 20 0 ∷ reloading_type 2 0 0 ∷ reloading_type 10 0 1 ∷ [];
  profiles = record { distances = short_table; durations = short_table } ∷ record { distances = long_table; durations = long_table } ∷ [];
  groups = [];
}
