-- The problem with a release is valid.
use Rattle.std.proofs.Common.{◌≡◌, ℕ, zero, suc, ◌<◌, ◌≤◌, ◌-◌, [], ◌∷◌, refl, inr, arith, lit≤, lit<}
use Rattle.std.specs.Prelude.{None, slice_get, unwrap_or, pos}
use Rattle.std.specs.List.{IsDistinct}
use Rattle.std.proofs.lemmas.List.Elements.{All-from_recursion}
use Rattle.problem_data.specs.Limits.{largest_leg}
use Rattle.problem_data.specs.Matrix.{entry}
use Rattle.problem_data.specs.Places.{client_at}
use Rattle.problem_data.specs.Valid.{IsValid, IsValidPlace, IsValidDepot, IsValidClient, IsValidTable, IsValidProfile, IsValidType, IsValidGroup}
use Rattle.sample_problem.specs.TwoTrips.{early_client, fives, late_client, one_vehicle, the_depot, two_trips}
use Rattle.sample_problem.proofs.NoGroups.{no_groups}

place-valid : IsValidPlace (record { x = pos 0; y = pos 0 })
place-valid = record { x = lit≤ tt; y = lit≤ tt }

depot-valid : IsValidDepot the_depot
depot-valid = record { window = record { ordered = lit≤ tt; late = lit≤ tt }; service = lit≤ tt }

early-valid : IsValidClient early_client
early-valid = record { delivery = lit≤ tt; pickup = lit≤ tt; window = record { ordered = lit≤ tt; late = lit≤ tt }; service = lit≤ tt; release = lit≤ tt; prize = lit≤ tt }

late-valid : IsValidClient late_client
late-valid = record { delivery = lit≤ tt; pickup = lit≤ tt; window = record { ordered = lit≤ tt; late = lit≤ tt }; service = lit≤ tt; release = lit≤ tt; prize = lit≤ tt }

at-rest : (place : ℕ) → place < 3 → entry (record { size = 3; entries = fives }) place place ≡ 0
at-rest zero h = refl
at-rest (suc zero) h = refl
at-rest (suc (suc zero)) h = refl
at-rest (suc (suc (suc n))) h = absurd (omega arith)

table-valid : IsValidTable 3 (record { size = 3; entries = fives })
table-valid = record {
  size = refl;
  entries = refl;
  bounded = All-from_recursion (λ leg. leg ≤ largest_leg) fives (lit≤ tt, (lit≤ tt, (lit≤ tt, (lit≤ tt, (lit≤ tt, (lit≤ tt, (lit≤ tt, (lit≤ tt, (lit≤ tt, tt)))))))));
  at_rest = at-rest;
}

pub vehicle-valid : IsValidType two_trips one_vehicle
unfolding IsDistinct
vehicle-valid = record {
  count = lit≤ tt;
  capacity = lit≤ tt;
  start = lit< tt;
  end = lit< tt;
  fixed = lit≤ tt;
  unit_distance = lit≤ tt;
  unit_duration = lit≤ tt;
  shift = record { ordered = lit≤ tt; late = lit≤ tt };
  max_duration = inr refl;
  max_distance = inr refl;
  profile = lit< tt;
  reloads = lit≤ tt;
  reload_depots = All-from_recursion (λ depot. depot < 1) (0 ∷ []) (lit< tt, tt);
  distinct = (tt, tt);
  offered = (λ h. h, λ h. h);
  starts = lit≤ tt;
  ends = lit≤ tt;
}

no-group : (place : ℕ) → (client_at two_trips place).group ≡ None
no-group place = of_number (place - 1)
  where
    of_number : (n : ℕ) → (unwrap_or (slice_get two_trips.clients n) (record { delivery = 0; pickup = 0; window = record { early = 0; late = 0 }; service = 0; release = 0; prize = 0; group = None })).group ≡ None
    of_number zero = refl
    of_number (suc zero) = refl
    of_number (suc (suc n)) = refl

pub two_trips-valid : IsValid two_trips
two_trips-valid = record {
  places = refl;
  place_limit = lit≤ tt;
  some_depot = lit≤ tt;
  some_client = lit≤ tt;
  some_type = lit≤ tt;
  type_limit = lit≤ tt;
  vehicle_limit = lit≤ tt;
  some_profile = lit≤ tt;
  profile_limit = lit≤ tt;
  group_limit = lit≤ tt;
  each_place = All-from_recursion IsValidPlace two_trips.places (place-valid, (place-valid, (place-valid, tt)));
  each_depot = All-from_recursion IsValidDepot two_trips.depots (depot-valid, tt);
  each_client = All-from_recursion IsValidClient two_trips.clients (early-valid, (late-valid, tt));
  each_type = All-from_recursion (IsValidType two_trips) two_trips.types (vehicle-valid, tt);
  each_profile = All-from_recursion (IsValidProfile 3) two_trips.profiles (record { distances = table-valid; durations = table-valid }, tt);
  each_group = All-from_recursion (IsValidGroup two_trips) [] tt;
  grouped = no_groups two_trips (λ group. refl) no-group;
}
