-- Problems of which only the types of vehicles matter, for examples of texts.
use Rattle.std.proofs.Common.{ℕ, List, [], ◌^◌}
use Rattle.problem_data.specs.declared.problem.Problem.{Problem}
use Rattle.problem_data.specs.declared.problem.VehicleType.{VehicleType}

-- a type of this many vehicles
abbrev pub vehicles : ℕ → VehicleType
vehicles n = record {
  count = n;
  capacity = 10;
  start = 0;
  end = 0;
  fixed = 0;
  unit_distance = 1;
  unit_duration = 0;
  shift = record { early = 0; late = 10 ^ 12 };
  max_duration = 10 ^ 18;
  max_distance = 10 ^ 18;
  profile = 0;
  reloads = 0;
  reload_depots = [];
}

-- the problem of these types
abbrev pub of_types : List VehicleType → Problem
of_types types = record { places = []; depots = []; clients = []; types = types; profiles = []; groups = [] }
