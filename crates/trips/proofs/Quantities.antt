-- The quantities of a valid problem, also at places that aren't there.
use Rattle.std.proofs.Common.{◌≡◌, ℕ, ◌-◌, ◌<◌, ◌≤◌, ◌⊎◌, inl, inr, List, length, get_or, sym, subst, arith}
use Rattle.std.specs.Prelude.{All, None, unwrap_or, slice_get}
use Rattle.std.proofs.lemmas.List.{get_or_past}
use Rattle.std.proofs.lemmas.List.Elements.{All-get_or}
use Rattle.std.proofs.lemmas.Option.{unwrap_or-slice_get}
use Rattle.problem_data.specs.declared.problem.Problem.{Problem}
use Rattle.problem_data.specs.declared.problem.Client.{Client}
use Rattle.problem_data.specs.declared.problem.Depot.{Depot}
use Rattle.problem_data.specs.declared.problem.VehicleType.{VehicleType}
use Rattle.problem_data.specs.Limits.{largest_leg}
use Rattle.problem_data.specs.Places.{client_at, depot_at, depot_count, leg_distance, leg_duration, no_window, place_count, profile_at}
use Rattle.problem_data.specs.Valid.{IsValid, IsValidClient, IsValidDepot, IsValidProfile, IsValidType}
use Rattle.trips.proofs.Rests.{valid_profile_at}

-- what holds of each item and of what stands for a missing one holds of each look-up
pub at_each : {X : Type 0} (P : X → Type 0) (xs : List X) (i : ℕ) (d : X) → All P xs → P d → P (unwrap_or (slice_get xs i) d)
at_each P xs i d each missing =
    subst P (sym (unwrap_or-slice_get xs i d))
    (elim (within_or_past i (length xs)) as (λ _. P (get_or xs i d)) [
      | inl inside ↦ All-get_or P xs i d inside each
      | inr past ↦ subst P (sym (get_or_past xs i d past)) missing
    ])
  where
    within_or_past : (i n : ℕ) → (i < n) ⊎ (n ≤ i)
    within_or_past i n = grind arith

-- where no client is, there is a client of nothing
abbrev no_client : Client
no_client = record { delivery = 0; pickup = 0; window = no_window; service = 0; release = 0; prize = 0; group = None }

pub valid_client_at : (p : Problem) (place : ℕ) → IsValid p → IsValidClient (client_at p place)
valid_client_at p place valid =
    at_each IsValidClient p.clients (place - depot_count p) no_client valid.each_client
    (record { delivery = omega arith; pickup = omega arith; window = record { ordered = omega arith; late = omega arith }; service = omega arith; release = omega arith; prize = omega arith })

abbrev no_depot : Depot
no_depot = record { window = no_window; service = 0 }

pub valid_depot_at : (p : Problem) (place : ℕ) → IsValid p → IsValidDepot (depot_at p place)
valid_depot_at p place valid =
    at_each IsValidDepot p.depots place no_depot valid.each_depot (record { window = record { ordered = omega arith; late = omega arith }; service = omega arith })

-- an entry of a table, or 0 beyond it
entry-short : (entries : List ℕ) (i : ℕ) → All (λ leg. leg ≤ largest_leg) entries → get_or entries i 0 ≤ largest_leg
entry-short entries i each =
    elim (within_or_past i (length entries)) as (λ _. get_or entries i 0 ≤ largest_leg) [
      | inl inside ↦ each i 0 inside
      | inr past ↦ let e : get_or entries i 0 ≡ 0 = get_or_past entries i 0 past in omega arith
    ]
  where
    within_or_past : (i n : ℕ) → (i < n) ⊎ (n ≤ i)
    within_or_past i n = grind arith

-- no leg of a type's profile is longer than the longest
pub duration-short : (p : Problem) (t : VehicleType) (from to : ℕ) → IsValid p → IsValidType p t → leg_duration p t.profile from to ≤ largest_leg
duration-short p t from to valid allowed =
    let profile : IsValidProfile (place_count p) (profile_at p t.profile) = valid_profile_at p t.profile valid allowed.profile in
    entry-short (profile_at p t.profile).durations.entries _ profile.durations.bounded

pub distance-short : (p : Problem) (t : VehicleType) (from to : ℕ) → IsValid p → IsValidType p t → leg_distance p t.profile from to ≤ largest_leg
distance-short p t from to valid allowed =
    let profile : IsValidProfile (place_count p) (profile_at p t.profile) = valid_profile_at p t.profile valid allowed.profile in
    entry-short (profile_at p t.profile).distances.entries _ profile.distances.bounded
