use Rattle.std.proofs.Common.{refl, true, false, [], ◌∷◌, lit≤}
use Rattle.problem_data.specs.declared.visit.Visit.TheVariants.{Client, Reload}
use Rattle.trips.specs.Runs.{Run, whole}
use Rattle.trips.specs.Standing.{StandsForRun}
use Rattle.trips.proofs.InRange.{whole-can}
use Rattle.sample_problem.specs.TwoTrips.{one_vehicle, two_trips}
use Rattle.trips_tests.proofs.TwoTrips.{is_run, lone, merges, named-1, named-2, named-3, run}
use Rattle.trips_tests.proofs.closed_trips.two_trips_are_closed.Goals as goal

abbrev end : Run
end = record { starts = false; visits = []; ends = true }

pub merge-first-requires : goal.merge-first-requires
merge-first-requires g c =
    merges (run []) (lone (Client 1)) c.departure-start.result c.client.result (record { goes_on = refl; begun = refl }) named-1 (lit≤ tt) refl
    c.departure-start.ensures.sound c.client.ensures.sound (c.departure-start.ensures.stands two_trips one_vehicle refl refl) (c.client.ensures.stands two_trips one_vehicle 1 refl)

pub merge-second-requires : goal.merge-second-requires
merge-second-requires g c =
    let first : StandsForRun two_trips one_vehicle c.merge-first.result (run (Client 1 ∷ [])) =
    c.merge-first.ensures.joins two_trips one_vehicle (run []) (lone (Client 1)) refl (record { goes_on = refl; begun = refl }) (is_run (run (Client 1 ∷ [])) named-1) refl
    (c.departure-start.ensures.stands two_trips one_vehicle refl refl) (c.client.ensures.stands two_trips one_vehicle 1 refl) in
    merges (run (Client 1 ∷ [])) (lone (Reload 0)) c.merge-first.result c.reload.result (record { goes_on = refl; begun = refl }) named-2 (lit≤ tt) refl
    c.merge-first.ensures.sound c.reload.ensures.sound first (c.reload.ensures.stands two_trips one_vehicle 0 refl)

pub merge-third-requires : goal.merge-third-requires
merge-third-requires g c =
    let first : StandsForRun two_trips one_vehicle c.merge-first.result (run (Client 1 ∷ [])) =
    c.merge-first.ensures.joins two_trips one_vehicle (run []) (lone (Client 1)) refl (record { goes_on = refl; begun = refl }) (is_run (run (Client 1 ∷ [])) named-1) refl
    (c.departure-start.ensures.stands two_trips one_vehicle refl refl) (c.client.ensures.stands two_trips one_vehicle 1 refl) in
    let second : StandsForRun two_trips one_vehicle c.merge-second.result (run (Client 1 ∷ Reload 0 ∷ [])) =
    c.merge-second.ensures.joins two_trips one_vehicle (run (Client 1 ∷ [])) (lone (Reload 0)) refl (record { goes_on = refl; begun = refl }) (is_run (run (Client 1 ∷ Reload 0 ∷ [])) named-2) refl
    first (c.reload.ensures.stands two_trips one_vehicle 0 refl) in
    merges (run (Client 1 ∷ Reload 0 ∷ [])) (lone (Client 2)) c.merge-second.result c.client-2.result (record { goes_on = refl; begun = refl }) named-3 (lit≤ tt) refl
    c.merge-second.ensures.sound c.client-2.ensures.sound second (c.client-2.ensures.stands two_trips one_vehicle 2 refl)

pub merge-all-requires : goal.merge-all-requires
merge-all-requires g c =
    let first : StandsForRun two_trips one_vehicle c.merge-first.result (run (Client 1 ∷ [])) =
    c.merge-first.ensures.joins two_trips one_vehicle (run []) (lone (Client 1)) refl (record { goes_on = refl; begun = refl }) (is_run (run (Client 1 ∷ [])) named-1) refl
    (c.departure-start.ensures.stands two_trips one_vehicle refl refl) (c.client.ensures.stands two_trips one_vehicle 1 refl) in
    let second : StandsForRun two_trips one_vehicle c.merge-second.result (run (Client 1 ∷ Reload 0 ∷ [])) =
    c.merge-second.ensures.joins two_trips one_vehicle (run (Client 1 ∷ [])) (lone (Reload 0)) refl (record { goes_on = refl; begun = refl }) (is_run (run (Client 1 ∷ Reload 0 ∷ [])) named-2) refl
    first (c.reload.ensures.stands two_trips one_vehicle 0 refl) in
    let third : StandsForRun two_trips one_vehicle c.merge-third.result (run (Client 1 ∷ Reload 0 ∷ Client 2 ∷ [])) =
    c.merge-third.ensures.joins two_trips one_vehicle (run (Client 1 ∷ Reload 0 ∷ [])) (lone (Client 2)) refl (record { goes_on = refl; begun = refl }) (is_run (run (Client 1 ∷ Reload 0 ∷ Client 2 ∷ [])) named-3) refl
    second (c.client-2.ensures.stands two_trips one_vehicle 2 refl) in
    merges (run (Client 1 ∷ Reload 0 ∷ Client 2 ∷ [])) end c.merge-third.result c.arrival.result (record { goes_on = refl; begun = refl }) named-3 (lit≤ tt) refl
    c.merge-third.ensures.sound c.arrival.ensures.sound third (c.arrival.ensures.stands two_trips one_vehicle refl)

pub close-route-requires : goal.close-route-requires
close-route-requires g c =
    let first : StandsForRun two_trips one_vehicle c.merge-first.result (run (Client 1 ∷ [])) =
    c.merge-first.ensures.joins two_trips one_vehicle (run []) (lone (Client 1)) refl (record { goes_on = refl; begun = refl }) (is_run (run (Client 1 ∷ [])) named-1) refl
    (c.departure-start.ensures.stands two_trips one_vehicle refl refl) (c.client.ensures.stands two_trips one_vehicle 1 refl) in
    let second : StandsForRun two_trips one_vehicle c.merge-second.result (run (Client 1 ∷ Reload 0 ∷ [])) =
    c.merge-second.ensures.joins two_trips one_vehicle (run (Client 1 ∷ [])) (lone (Reload 0)) refl (record { goes_on = refl; begun = refl }) (is_run (run (Client 1 ∷ Reload 0 ∷ [])) named-2) refl
    first (c.reload.ensures.stands two_trips one_vehicle 0 refl) in
    let third : StandsForRun two_trips one_vehicle c.merge-third.result (run (Client 1 ∷ Reload 0 ∷ Client 2 ∷ [])) =
    c.merge-third.ensures.joins two_trips one_vehicle (run (Client 1 ∷ Reload 0 ∷ [])) (lone (Client 2)) refl (record { goes_on = refl; begun = refl }) (is_run (run (Client 1 ∷ Reload 0 ∷ Client 2 ∷ [])) named-3) refl
    second (c.client-2.ensures.stands two_trips one_vehicle 2 refl) in
    let all : StandsForRun two_trips one_vehicle c.merge-all.result (whole (Client 1 ∷ Reload 0 ∷ Client 2 ∷ [])) =
    c.merge-all.ensures.joins two_trips one_vehicle (run (Client 1 ∷ Reload 0 ∷ Client 2 ∷ [])) end refl (record { goes_on = refl; begun = refl }) (is_run (whole (Client 1 ∷ Reload 0 ∷ Client 2 ∷ [])) named-3) refl
    third (c.arrival.ensures.stands two_trips one_vehicle refl) in
    whole-can two_trips one_vehicle (Client 1 ∷ Reload 0 ∷ Client 2 ∷ []) c.merge-all.result c.merge-all.ensures.sound
    (record { is_run = is_run (whole (Client 1 ∷ Reload 0 ∷ Client 2 ∷ [])) named-3; few = lit≤ tt }) all
