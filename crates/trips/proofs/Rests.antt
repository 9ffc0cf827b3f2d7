-- From one stretch to the next a vehicle stays where it is: it arrives at a depot and departs from there.
use Rattle.std.proofs.Common.{◌≡◌, ℕ, ◌<◌, List, [], ◌∷◌, ◌++◌, length, refl, ◌∙◌, ap, sym, subst, flat_map, Some, None, arith}
use Rattle.std.specs.Prelude.{All, IsTrue}
use Rattle.std.proofs.lemmas.List.{append-nil}
use Rattle.std.proofs.lemmas.List.Elements.{All-get_or, All-head, All-tail}
use Rattle.std.proofs.lemmas.Option.{unwrap_or-slice_get}
use Rattle.std.proofs.lemmas.Bool.Decides.{nat_tests}
use Rattle.problem_data.specs.declared.problem.Problem.{Problem}
use Rattle.problem_data.specs.declared.problem.Profile.{Profile}
use Rattle.problem_data.specs.declared.problem.VehicleType.{VehicleType}
use Rattle.problem_data.specs.declared.visit.Visit.{Visit}
use Rattle.problem_data.specs.declared.visit.Visit.TheVariants.{Client, Reload}
use Rattle.problem_data.specs.Matrix.{Table}
use Rattle.problem_data.specs.Places.{depot_count, leg_duration, place_count, profile_at}
use Rattle.problem_data.specs.Valid.{IsValid, IsValidProfile, IsValidType}
use Rattle.routing_model.specs.Clock.{Stop, joint}
use Rattle.routing_model.specs.Lawful.{names_place}
use Rattle.trips.specs.Runs.{Run, Stretch, IsRunOf, arrival_stop, client_stop, departure_stop, stops_before, stops_behind, stretches, trip_stops, largest_release}
use Rattle.trips.proofs.Places.{first_of, first_of-append, first_of-released, joint-nothing, joint_at, last_of, last_of-append, last_of-released}
use Rattle.trips.proofs.Stretches.{parts, parts-client}

-- one stretch ends where the next begins, and nothing is driven there
pub record HandsOver (leg : ℕ → ℕ → ℕ) (left right : Stretch) : Type 0 where
  pub place : ℕ
  pub arrival : last_of left.stops ≡ Some place
  pub departure : first_of right.stops ≡ Some place
  pub rests : leg place place ≡ 0

-- each stretch hands over to the next
abbrev pub Rests : (ℕ → ℕ → ℕ) → List Stretch → Type 0
Rests leg [] = Unit {0}
Rests leg (x ∷ []) = Unit {0}
Rests leg (x ∷ next ∷ xs) = HandsOver leg x next × Rests leg (next ∷ xs)

-- a profile of a valid problem
abbrev no_profile : Profile
no_profile = let none : Table = record { size = 0; entries = [] } in record { distances = none; durations = none }

pub valid_profile_at : (p : Problem) (profile : ℕ) → IsValid p → profile < length p.profiles → IsValidProfile (place_count p) (profile_at p profile)
valid_profile_at p profile valid h =
    subst (IsValidProfile (place_count p)) (sym (unwrap_or-slice_get p.profiles profile no_profile))
    (All-get_or (IsValidProfile (place_count p)) p.profiles profile no_profile h valid.each_profile)

-- nothing is driven from a depot to itself
pub depot-rests : (p : Problem) (t : VehicleType) (depot : ℕ) → IsValid p → IsValidType p t → IsTrue (names_place p (Reload depot)) → leg_duration p t.profile depot depot ≡ 0
depot-rests p t depot valid allowed named =
    let inside : depot < depot_count p = grind (arith, nat_tests) in
    (valid_profile_at p t.profile valid allowed.profile).durations.at_rest depot (omega arith)

-- the stretches of visits of a valid problem hand over
rests-parts : (p : Problem) (t : VehicleType) (before : List Stop) (clients : List ℕ) (visits : List Visit) (behind : List Stop) → IsValid p → IsValidType p t →
    All (λ visit. IsTrue (names_place p visit)) visits → Rests (leg_duration p t.profile) (parts p before clients visits behind)
rests-parts p t before clients [] behind valid allowed named = tt
rests-parts p t before clients (Client place ∷ visits) behind valid allowed named =
    subst (Rests (leg_duration p t.profile)) (sym (parts-client p before clients place visits behind))
    (rests-parts p t (before ++ client_stop p place ∷ []) (clients ++ place ∷ []) visits behind valid allowed
    (All-tail (λ (visit : Visit). IsTrue (names_place p visit)) (Client place) visits named))
rests-parts p t before clients (Reload depot ∷ visits) behind valid allowed named = (
  record {
    place = depot;
    arrival = last_of-append before (arrival_stop p depot) [];
    departure = refl;
    rests = depot-rests p t depot valid allowed (All-head (λ (visit : Visit). IsTrue (names_place p visit)) (Reload depot) visits named);
  },
  rests-parts p t (departure_stop p depot ∷ []) [] visits behind valid allowed
      (All-tail (λ (visit : Visit). IsTrue (names_place p visit)) (Reload depot) visits named),
)

pub rests-run : (p : Problem) (t : VehicleType) (run : Run) → IsRunOf p t run → Rests (leg_duration p t.profile) (stretches p t run)
rests-run p t run h = rests-parts p t (stops_before p t run.starts) [] run.visits (stops_behind p t run.ends) h.valid h.allowed h.named

-- fewer stretches hand over, too
pub rests-tail : (leg : ℕ → ℕ → ℕ) (x : Stretch) (xs : List Stretch) → Rests leg (x ∷ xs) → Rests leg xs
rests-tail leg x [] h = tt
rests-tail leg x (next ∷ xs) h = h.1

pub rests-front : (leg : ℕ → ℕ → ℕ) (xs ys : List Stretch) → Rests leg (xs ++ ys) → Rests leg xs
rests-front leg [] ys h = tt
rests-front leg (x ∷ []) ys h = tt
rests-front leg (x ∷ next ∷ xs) ys h = (h.0, rests-front leg (next ∷ xs) ys h.1)

-- the stretch behind another begins at a stop
pub begins : (leg : ℕ → ℕ → ℕ) (x : Stretch) (xs : List Stretch) (last : Stretch) (ys : List Stretch) → Rests leg (x ∷ (xs ++ last ∷ ys)) →
    (place : ℕ) × (first_of last.stops ≡ Some place)
begins leg x [] last ys h = (h.0.place, h.0.departure)
begins leg x (next ∷ xs) last ys h = begins leg next xs last ys h.1

-- the stops of trips that begin with this one begin where it does
first_of-trips : (p : Problem) (x : Stretch) (xs : List Stretch) (place : ℕ) → first_of x.stops ≡ Some place → first_of (flat_map (trip_stops p) (x ∷ xs)) ≡ Some place
first_of-trips p x xs place h =
    first_of-append (trip_stops p x) (flat_map (trip_stops p) xs) place (first_of-released (largest_release p x.clients) x.stops ∙ h)

-- behind some stops, stops that begin end as they do alone
last_of-behind : (xs ys : List Stop) (place : ℕ) → first_of ys ≡ Some place → last_of (xs ++ ys) ≡ last_of ys
last_of-behind xs [] place h = absurd (nothing h)
  where
    nothing : None ≡ Some place → ⊥
    nothing h = cc
last_of-behind xs (y ∷ ys) place h = last_of-append xs y ys

-- the trips before another end where it begins
last_of-trips : (p : Problem) (leg : ℕ → ℕ → ℕ) (x : Stretch) (xs : List Stretch) (next : Stretch) (ys : List Stretch) → Rests leg (x ∷ (xs ++ next ∷ ys)) →
    (place : ℕ) × (last_of (flat_map (trip_stops p) (x ∷ xs)) ≡ Some place) × (first_of next.stops ≡ Some place) × (leg place place ≡ 0)
last_of-trips p leg x [] next ys h = (
  h.0.place,
  ap last_of (append-nil (trip_stops p x)) ∙ last_of-released (largest_release p x.clients) x.stops ∙ h.0.arrival,
  h.0.departure,
  h.0.rests,
)
last_of-trips p leg x (z ∷ xs) next ys h =
    let rest = last_of-trips p leg z xs next ys h.1 in (
      rest.0,
      last_of-behind (trip_stops p x) (flat_map (trip_stops p) (z ∷ xs)) h.0.place (first_of-trips p z xs h.0.place h.0.departure) ∙ rest.1,
      rest.2,
      rest.3,
    )

-- nothing is driven between trips that hand over
pub joint-trips : (p : Problem) (leg : ℕ → ℕ → ℕ) (xs ys : List Stretch) → Rests leg (xs ++ ys) → joint leg (flat_map (trip_stops p) xs) (flat_map (trip_stops p) ys) ≡ 0
joint-trips p leg [] ys h = refl
joint-trips p leg (x ∷ xs) [] h = joint-nothing leg (flat_map (trip_stops p) (x ∷ xs))
joint-trips p leg (x ∷ xs) (y ∷ ys) h =
    let there = last_of-trips p leg x xs y ys h in
    joint_at leg (flat_map (trip_stops p) (x ∷ xs)) (flat_map (trip_stops p) (y ∷ ys)) there.0 there.1 (first_of-trips p y ys there.0 there.2) there.3
