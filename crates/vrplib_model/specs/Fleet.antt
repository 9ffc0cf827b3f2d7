-- The vehicle types that a text gives.
use Rattle.std.specs.Prelude.{ℕ, ◌-◌, if◌then◌else◌, List, [], ◌∷◌, map, drop, ℤ, unwrap_or}
use Rattle.problem_data.specs.Limits.{largest, unlimited}
use Rattle.problem_data.specs.declared.problem.Window.{Window}
use Rattle.problem_data.specs.declared.problem.VehicleType.{VehicleType}
use Rattle.vrp_num.specs.declared.rounding.Rounding.{Rounding}
use Rattle.vrplib_model.specs.Keywords.{capacity, vehicles, max_duration, max_distance}
use Rattle.vrplib_model.specs.Sections.{vehicle_types_section}
use Rattle.vrplib_model.specs.LineKinds.{Line}
use Rattle.vrplib_model.specs.Numbers.{number_at}
use Rattle.vrplib_model.specs.Values.{keyword_number}
use Rattle.vrplib_model.specs.Rows.{rows_of, nodes_of, has_section}
use Rattle.vrplib_model.specs.Entries.{place_of, client_count}

-- the window that is never shut
abbrev pub always : Window
always = record { early = 0; late = largest }

-- the vehicle type that a row gives
abbrev pub type_of_row : List ℤ → VehicleType
type_of_row numbers = record {
  count = number_at 1 numbers;
  capacity = number_at 2 numbers;
  start = place_of (number_at 3 numbers);
  end = place_of (number_at 4 numbers);
  fixed = number_at 5 numbers;
  unit_distance = number_at 6 numbers;
  unit_duration = number_at 7 numbers;
  shift = record { early = number_at 8 numbers; late = number_at 9 numbers };
  max_duration = number_at 10 numbers;
  max_distance = number_at 11 numbers;
  profile = number_at 12 numbers - 1;
  reloads = number_at 13 numbers;
  reload_depots = map place_of (nodes_of (drop 14 numbers));
}

-- vehicles of one capacity that drive for distance alone, from place 0 and back, without limits or reloads
abbrev pub plain_type : ℕ → ℕ → VehicleType
plain_type vehicle_count load = record {
  count = vehicle_count;
  capacity = load;
  start = 0;
  end = 0;
  fixed = 0;
  unit_distance = 1;
  unit_duration = 0;
  shift = always;
  max_duration = unlimited;
  max_distance = unlimited;
  profile = 0;
  reloads = 0;
  reload_depots = [];
}

-- the one type where no row gives one, by the keywords: its vehicles are as many as the clients where none says how many
abbrev pub only_type : Rounding → List Line → VehicleType
only_type mode lines =
    record (plain_type (unwrap_or (keyword_number mode vehicles lines) (client_count mode lines))
    (unwrap_or (keyword_number mode capacity lines) largest)) {
      max_duration = unwrap_or (keyword_number mode max_duration lines) unlimited;
      max_distance = unwrap_or (keyword_number mode max_distance lines) unlimited;
    }

-- the vehicle types
abbrev pub types : Rounding → List Line → List VehicleType
types mode lines = if has_section vehicle_types_section lines then map type_of_row (rows_of mode vehicle_types_section lines)
    else only_type mode lines ∷ []
