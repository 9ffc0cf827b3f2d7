-- What the run segments of single reloads hold.
use Rattle.std.proofs.Common.{◌≡◌, ℕ, ◌+◌, ◌<◌, ◌∙◌, ap, sym, subst, arith}
use Rattle.std.specs.Prelude.{pos, IsTrue}
use Rattle.std.proofs.lemmas.Bool.Decides.{nat_tests}
use Rattle.std.proofs.lemmas.Int.{ints}
use Rattle.problem_data.specs.declared.problem.Problem.{Problem}
use Rattle.problem_data.specs.declared.problem.Depot.{Depot}
use Rattle.problem_data.specs.declared.problem.VehicleType.{VehicleType}
use Rattle.problem_data.specs.declared.visit.Visit.TheVariants.{Reload}
use Rattle.problem_data.specs.Places.{depot_at, depot_count, is_depot_place, leg_distance}
use Rattle.problem_data.specs.Valid.{IsValid, IsValidType}
use Rattle.segments.specs.Distance.{IsSoundDistance, no_distance}
use Rattle.segments.specs.declared.distance_segment.DistanceSegment.{DistanceSegment}
use Rattle.trips.specs.declared.run_segment.RunSegment.{RunSegment}
use Rattle.trips.specs.declared.trip_segment.TripSegment.{TripSegment}
use Rattle.trips.specs.Conditions.{IsSoundTrips}
use Rattle.trips.specs.RunSegments.{HoldsVisit, alone}
use Rattle.trips.specs.Standing.{StandsForReload, StandsForRun}
use Rattle.trips.proofs.Rests.{valid_profile_at}

-- no way is driven from a depot to itself
pub depot-rests : (p : Problem) (t : VehicleType) (depot : ℕ) → IsValid p → IsValidType p t → IsTrue (is_depot_place p depot) → leg_distance p t.profile depot depot ≡ 0
depot-rests p t depot valid allowed named =
    let inside : depot < depot_count p = grind (arith, nat_tests) in
    (valid_profile_at p t.profile valid allowed.profile).distances.at_rest depot (omega arith)

sound-nothing : (d : DistanceSegment) → d ≡ no_distance → IsSoundDistance d
sound-nothing d e = subst IsSoundDistance (sym e) (record { distance = record { from_0 = omega (arith, ints); to_largest = omega (arith, ints) } })

-- the run segment of a reload
pub reload-held : (p : Problem) (place : ℕ) (depot : Depot) (trips : TripSegment) (segment : RunSegment) → IsValid p → IsTrue (is_depot_place p place) → depot ≡ depot_at p place →
    IsSoundTrips trips → StandsForReload depot trips →
    segment.trips ≡ trips → segment.distance ≡ no_distance → segment.prizes ≡ 0 → HoldsVisit p (Reload place) segment
reload-held p place depot trips segment valid named is_depot sound stands is_trips is_distance is_prizes t allowed =
    record {
      sound = subst IsSoundTrips (sym is_trips) sound;
      stands = subst (λ (s : TripSegment). StandsForRun p t s (alone (Reload place))) (sym is_trips) (stands p t place (sym is_depot));
      sound_distance = sound-nothing segment.distance is_distance;
      distance = record {
        distance = ap (λ (d : DistanceSegment). d.distance) is_distance ∙ ap (λ (n : ℕ). pos n) (sym (no_way (leg_distance p t.profile place place) (depot-rests p t place valid allowed named)));
      };
      prizes = is_prizes;
    }
  where
    no_way : (n : ℕ) → n ≡ 0 → n + 0 ≡ 0
    no_way n e = omega arith
