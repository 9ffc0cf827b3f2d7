-- What each faultless row of a section is: the bounds of its numbers, which its fields and checks give.
use Rattle.std.specs.Prelude.{◌≡◌, ℕ, ◌≤◌, ◌⊎◌, List, length, drop, All, ℤ, pos, negsuc, nat_abs, ◌≤ℤ◌}
use Rattle.problem_data.specs.Limits.{largest, largest_leg, largest_unit_cost, most_profiles, most_reloads, most_vehicles, unlimited}
use Rattle.vrplib_model.specs.Sections.{Section, node_coord_section, time_window_section, edge_weight_section, depot_section, group_section, profile_section, vehicle_types_section}
use Rattle.vrplib_model.specs.Numbers.{int_at, number_at}

-- a number from a lower bound to an upper one
pub record IsBetween (low high : ℕ) (z : ℤ) : Type 0 where
  pub least : pos low ≤ℤ z
  pub most : z ≤ℤ pos high

-- a route's maximum in a row: a quantity, or none
abbrev pub IsMaximum : ℤ → Type 0
IsMaximum z = IsBetween 0 largest z ⊎ (z ≡ pos unlimited)

-- the row of a vehicle type, in a text of n nodes
pub record IsTypeRow (n : ℕ) (row : List ℤ) : Type 0 where
  pub long : 14 ≤ length row
  pub count : IsBetween 1 most_vehicles (int_at 1 row)
  pub capacity : IsBetween 0 largest (int_at 2 row)
  pub start : IsBetween 1 n (int_at 3 row)
  pub end : IsBetween 1 n (int_at 4 row)
  pub fixed : IsBetween 0 largest (int_at 5 row)
  pub unit_distance : IsBetween 0 largest_unit_cost (int_at 6 row)
  pub unit_duration : IsBetween 0 largest_unit_cost (int_at 7 row)
  pub early : IsBetween 0 largest (int_at 8 row)
  pub late : IsBetween 0 largest (int_at 9 row)
  pub ordered : number_at 8 row ≤ number_at 9 row
  pub max_duration : IsMaximum (int_at 10 row)
  pub max_distance : IsMaximum (int_at 11 row)
  pub profile : IsBetween 1 most_profiles (int_at 12 row)
  pub reloads : IsBetween 0 most_reloads (int_at 13 row)
  pub depots : All (IsBetween 1 n) (drop 14 row)

-- a row of two numbers: a node, and a quantity
pub record IsQuantityRow (n : ℕ) (row : List ℤ) : Type 0 where
  pub two : length row ≡ 2
  pub node : IsBetween 1 n (int_at 0 row)
  pub quantity : IsBetween 0 largest (int_at 1 row)

-- a row of a node's coordinates
pub record IsCoordinateRow (n : ℕ) (row : List ℤ) : Type 0 where
  pub three : length row ≡ 3
  pub node : IsBetween 1 n (int_at 0 row)
  pub x : nat_abs (int_at 1 row) ≤ largest
  pub y : nat_abs (int_at 2 row) ≤ largest

-- a row of a node's window
pub record IsWindowRow (n : ℕ) (row : List ℤ) : Type 0 where
  pub three : length row ≡ 3
  pub node : IsBetween 1 n (int_at 0 row)
  pub early : IsBetween 0 largest (int_at 1 row)
  pub late : IsBetween 0 largest (int_at 2 row)
  pub ordered : number_at 1 row ≤ number_at 2 row

-- a row of a profile's factors
pub record IsProfileRow (row : List ℤ) : Type 0 where
  pub three : length row ≡ 3
  pub distance : IsBetween 0 10000 (int_at 1 row)
  pub duration : IsBetween 0 10000 (int_at 2 row)

-- what each faultless row of a section is, in a text of n nodes
abbrev pub IsRow : Section → ℕ → List ℤ → Type 0
IsRow node_coord_section n numbers = IsCoordinateRow n numbers
IsRow time_window_section n numbers = IsWindowRow n numbers
IsRow edge_weight_section n numbers = All (IsBetween 0 largest_leg) numbers
IsRow depot_section n numbers = All (λ z. (z ≡ negsuc 0) ⊎ IsBetween 1 n z) numbers
IsRow group_section n numbers = (2 ≤ length numbers) × All (IsBetween 1 n) (drop 1 numbers)
IsRow profile_section n numbers = IsProfileRow numbers
IsRow vehicle_types_section n numbers = IsTypeRow n numbers
IsRow s n numbers = IsQuantityRow n numbers
