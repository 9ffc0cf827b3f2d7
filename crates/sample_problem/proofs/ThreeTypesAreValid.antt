-- The problem of three vehicles of different types is valid.
use Rattle.std.proofs.Common.{◌≡◌, ℕ, zero, suc, ◌<◌, ◌≤◌, ◌-◌, [], ◌∷◌, refl, inr, arith, lit≤, lit<}
use Rattle.std.specs.Prelude.{None, slice_get, unwrap_or, pos}
use Rattle.std.specs.List.{IsDistinct}
use Rattle.std.proofs.lemmas.List.Elements.{All-from_recursion}
use Rattle.problem_data.specs.Limits.{largest, largest_leg}
use Rattle.problem_data.specs.Matrix.{entry}
use Rattle.problem_data.specs.Places.{client_at}
use Rattle.problem_data.specs.Valid.{IsValid, IsValidPlace, IsValidWindow, IsValidDepot, IsValidClient, IsValidTable, IsValidProfile, IsValidType, IsValidGroup}
use Rattle.sample_problem.specs.ThreeClients.{any_time}
use Rattle.sample_problem.specs.ThreeTypes.{long_legs, long_table, prized_client, reloading_type, short_legs, short_table, three_types}
use Rattle.sample_problem.proofs.NoGroups.{no_groups}

always-valid : IsValidWindow any_time
always-valid = record { ordered = lit≤ tt; late = lit≤ tt }

place-valid : IsValidPlace (record { x = pos 0; y = pos 0 })
place-valid = record { x = lit≤ tt; y = lit≤ tt }

client-valid : (prize : ℕ) → prize ≤ largest → IsValidClient (prized_client prize)
client-valid prize small = record { delivery = lit≤ tt; pickup = lit≤ tt; window = always-valid; service = lit≤ tt; release = lit≤ tt; prize = small }

short-at-rest : (place : ℕ) → place < 4 → entry short_table place place ≡ 0
short-at-rest zero h = refl
short-at-rest (suc zero) h = refl
short-at-rest (suc (suc zero)) h = refl
short-at-rest (suc (suc (suc zero))) h = refl
short-at-rest (suc (suc (suc (suc n)))) h = absurd (omega arith)

long-at-rest : (place : ℕ) → place < 4 → entry long_table place place ≡ 0
long-at-rest zero h = refl
long-at-rest (suc zero) h = refl
long-at-rest (suc (suc zero)) h = refl
long-at-rest (suc (suc (suc zero))) h = refl
long-at-rest (suc (suc (suc (suc n)))) h = absurd (omega arith)

short-valid : IsValidTable 4 short_table
short-valid = record {
  size = refl;
  entries = refl;
  bounded = All-from_recursion (λ leg. leg ≤ largest_leg) short_legs (lit≤ tt, (lit≤ tt, (lit≤ tt, (lit≤ tt, (lit≤ tt, (lit≤ tt, (lit≤ tt, (lit≤ tt, (lit≤ tt, (lit≤ tt, (lit≤ tt, (lit≤ tt, (lit≤ tt, (lit≤ tt, (lit≤ tt, (lit≤ tt, tt))))))))))))))));
  at_rest = short-at-rest;
}

long-valid : IsValidTable 4 long_table
long-valid = record {
  size = refl;
  entries = refl;
  bounded = All-from_recursion (λ leg. leg ≤ largest_leg) long_legs (lit≤ tt, (lit≤ tt, (lit≤ tt, (lit≤ tt, (lit≤ tt, (lit≤ tt, (lit≤ tt, (lit≤ tt, (lit≤ tt, (lit≤ tt, (lit≤ tt, (lit≤ tt, (lit≤ tt, (lit≤ tt, (lit≤ tt, (lit≤ tt, tt))))))))))))))));
  at_rest = long-at-rest;
}

type-valid : (capacity fixed profile : ℕ) → capacity ≤ largest → fixed ≤ largest → profile < 2 → IsValidType three_types (reloading_type capacity fixed profile)
unfolding IsDistinct
type-valid capacity fixed profile carries small there = record {
  count = lit≤ tt;
  capacity = carries;
  start = lit< tt;
  end = lit< tt;
  fixed = small;
  unit_distance = lit≤ tt;
  unit_duration = lit≤ tt;
  shift = always-valid;
  max_duration = inr refl;
  max_distance = inr refl;
  profile = there;
  reloads = lit≤ tt;
  reload_depots = All-from_recursion (λ depot. depot < 1) (0 ∷ []) (lit< tt, tt);
  distinct = (tt, tt);
  offered = (λ h. lit≤ tt, λ h. lit≤ tt);
  starts = lit≤ tt;
  ends = lit≤ tt;
}

no-group : (place : ℕ) → (client_at three_types place).group ≡ None
no-group place = of_number (place - 1)
  where
    of_number : (n : ℕ) → (unwrap_or (slice_get three_types.clients n) (record { delivery = 0; pickup = 0; window = record { early = 0; late = 0 }; service = 0; release = 0; prize = 0; group = None })).group ≡ None
    of_number zero = refl
    of_number (suc zero) = refl
    of_number (suc (suc zero)) = refl
    of_number (suc (suc (suc n))) = refl

pub three_types-valid : IsValid three_types
three_types-valid = record {
  places = refl;
  place_limit = lit≤ tt;
  some_depot = lit≤ tt;
  some_client = lit≤ tt;
  some_type = lit≤ tt;
  type_limit = lit≤ tt;
  vehicle_limit = lit≤ tt;
  some_profile = lit≤ tt;
  profile_limit = lit≤ tt;
  group_limit = lit≤ tt;
  each_place = All-from_recursion IsValidPlace three_types.places (place-valid, (place-valid, (place-valid, (place-valid, tt))));
  each_depot = All-from_recursion IsValidDepot three_types.depots (record { window = always-valid; service = lit≤ tt }, tt);
  each_client = All-from_recursion IsValidClient three_types.clients (client-valid 7 (lit≤ tt), (client-valid 0 (lit≤ tt), (client-valid 9 (lit≤ tt), tt)));
  each_type = All-from_recursion (IsValidType three_types) three_types.types
      (type-valid 10 20 0 (lit≤ tt) (lit≤ tt) (lit< tt), (type-valid 2 0 0 (lit≤ tt) (lit≤ tt) (lit< tt), (type-valid 10 0 1 (lit≤ tt) (lit≤ tt) (lit< tt), tt)));
  each_profile = All-from_recursion (IsValidProfile 4) three_types.profiles (record { distances = short-valid; durations = short-valid }, (record { distances = long-valid; durations = long-valid }, tt));
  each_group = All-from_recursion (IsValidGroup three_types) [] tt;
  grouped = no_groups three_types (λ group. refl) no-group;
}
