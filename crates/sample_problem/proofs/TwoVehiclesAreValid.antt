-- The problem of two vehicles is valid.
use Rattle.std.proofs.Common.{◌≡◌, ℕ, zero, suc, ◌<◌, ◌≤◌, ◌-◌, [], refl, inr, arith, lit≤, lit<}
use Rattle.std.specs.Prelude.{None, slice_get, unwrap_or, pos}
use Rattle.std.specs.List.{IsDistinct}
use Rattle.std.proofs.lemmas.List.Elements.{All-from_recursion}
use Rattle.problem_data.specs.Limits.{largest, largest_leg}
use Rattle.problem_data.specs.Matrix.{entry}
use Rattle.problem_data.specs.Places.{client_at}
use Rattle.problem_data.specs.Valid.{IsValid, IsValidPlace, IsValidWindow, IsValidDepot, IsValidClient, IsValidTable, IsValidProfile, IsValidType, IsValidGroup}
use Rattle.sample_problem.specs.ThreeClients.{any_time, plain_type}
use Rattle.sample_problem.specs.TwoVehicles.{idle_client, near_legs, two_vehicles}
use Rattle.sample_problem.proofs.NoGroups.{no_groups}

always-valid : IsValidWindow any_time
always-valid = record { ordered = lit≤ tt; late = lit≤ tt }

place-valid : IsValidPlace (record { x = pos 0; y = pos 0 })
place-valid = record { x = lit≤ tt; y = lit≤ tt }

client-valid : IsValidClient idle_client
client-valid = record { delivery = lit≤ tt; pickup = lit≤ tt; window = always-valid; service = lit≤ tt; release = lit≤ tt; prize = lit≤ tt }

at-rest : (place : ℕ) → place < 3 → entry (record { size = 3; entries = near_legs }) place place ≡ 0
at-rest zero h = refl
at-rest (suc zero) h = refl
at-rest (suc (suc zero)) h = refl
at-rest (suc (suc (suc n))) h = absurd (omega arith)

table-valid : IsValidTable 3 (record { size = 3; entries = near_legs })
table-valid = record {
  size = refl;
  entries = refl;
  bounded = All-from_recursion (λ leg. leg ≤ largest_leg) near_legs (lit≤ tt, (lit≤ tt, (lit≤ tt, (lit≤ tt, (lit≤ tt, (lit≤ tt, (lit≤ tt, (lit≤ tt, (lit≤ tt, tt)))))))));
  at_rest = at-rest;
}

type-valid : (count fixed : ℕ) → 1 ≤ count → fixed ≤ largest → IsValidType two_vehicles (plain_type count fixed)
unfolding IsDistinct
type-valid count fixed some small = record {
  count = some;
  capacity = lit≤ tt;
  start = lit< tt;
  end = lit< tt;
  fixed = small;
  unit_distance = lit≤ tt;
  unit_duration = lit≤ tt;
  shift = always-valid;
  max_duration = inr refl;
  max_distance = inr refl;
  profile = lit< tt;
  reloads = lit≤ tt;
  reload_depots = All-from_recursion (λ depot. depot < 1) [] tt;
  distinct = tt;
  offered = (λ h. h, λ h. h);
  starts = lit≤ tt;
  ends = lit≤ tt;
}

no-group : (place : ℕ) → (client_at two_vehicles place).group ≡ None
no-group place = of_number (place - 1)
  where
    of_number : (n : ℕ) → (unwrap_or (slice_get two_vehicles.clients n) (record { delivery = 0; pickup = 0; window = record { early = 0; late = 0 }; service = 0; release = 0; prize = 0; group = None })).group ≡ None
    of_number zero = refl
    of_number (suc zero) = refl
    of_number (suc (suc n)) = refl

pub two_vehicles-valid : IsValid two_vehicles
two_vehicles-valid = record {
  places = refl;
  place_limit = lit≤ tt;
  some_depot = lit≤ tt;
  some_client = lit≤ tt;
  some_type = lit≤ tt;
  type_limit = lit≤ tt;
  vehicle_limit = lit≤ tt;
  some_profile = lit≤ tt;
  profile_limit = lit≤ tt;
  group_limit = lit≤ tt;
  each_place = All-from_recursion IsValidPlace two_vehicles.places (place-valid, (place-valid, (place-valid, tt)));
  each_depot = All-from_recursion IsValidDepot two_vehicles.depots (record { window = always-valid; service = lit≤ tt }, tt);
  each_client = All-from_recursion IsValidClient two_vehicles.clients (client-valid, (client-valid, tt));
  each_type = All-from_recursion (IsValidType two_vehicles) two_vehicles.types (type-valid 2 50 (lit≤ tt) (lit≤ tt), tt);
  each_profile = All-from_recursion (IsValidProfile 3) two_vehicles.profiles (record { distances = table-valid; durations = table-valid }, tt);
  each_group = All-from_recursion (IsValidGroup two_vehicles) [] tt;
  grouped = no_groups two_vehicles (λ group. refl) no-group;
}
