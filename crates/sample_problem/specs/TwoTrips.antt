-- A problem with a release: its one vehicle reloads between two clients.
use Rattle.std.specs.Prelude.{ℕ, ◌^◌, List, [], ◌∷◌, None, replicate, pos}
use Rattle.problem_data.specs.declared.problem.Problem.{Problem}
use Rattle.problem_data.specs.declared.problem.Window.{Window}
use Rattle.problem_data.specs.declared.problem.Depot.{Depot}
use Rattle.problem_data.specs.declared.problem.Client.{Client}
use Rattle.problem_data.specs.declared.problem.VehicleType.{VehicleType}
use Rattle.problem_data.specs.Matrix.{Table}

-- the depot is open then
abbrev pub open_times : Window
open_times = record { early = 0; late = 100 }

abbrev pub the_depot : Depot
the_depot = record { window = open_times; service = 0 }

-- has to be served early, and has a prize of 7
abbrev pub early_client : Client
early_client = record { delivery = 0; pickup = 0; window = record { early = 0; late = 10 }; service = 0; release = 0; prize = 7; group = None }

-- has its goods at 30
abbrev pub late_client : Client
late_client = record { delivery = 0; pickup = 0; window = open_times; service = 0; release = 30; prize = 0; group = None }

-- carries 10, costs 1 for each unit of distance, and may reload once
abbrev pub one_vehicle : VehicleType
one_vehicle = record {
  count = 1;
  capacity = 10;
  start = 0;
  end = 0;
  fixed = 0;
  unit_distance = 1;
  unit_duration = 0;
  shift = record { early = 0; late = 10 ^ 12 };
  max_duration = 10 ^ 18;
  max_distance = 10 ^ 18;
  profile = 0;
  reloads = 1;
  reload_depots = 0 ∷ [];
}

-- all legs between different places are 5
abbrev pub fives : List ℕ
fives = 0 ∷ 5 ∷ 5 ∷ 5 ∷ 0 ∷ 5 ∷ 5 ∷ 5 ∷ 0 ∷ []

abbrev pub two_trips : Problem
two_trips = let table : Table = record { size = 3; entries = fives } in record {
  places = replicate 3 (record { x = pos 0; y = pos 0 });
  depots = the_depot ∷ [];
  clients = early_client ∷ late_client ∷ [];
  types = one_vehicle ∷ [];
  profiles = record { distances = table; durations = table } ∷ [];
  groups = [];
}
