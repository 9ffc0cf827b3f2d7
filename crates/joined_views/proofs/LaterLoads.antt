-- The excess loads of the trips behind reloads, one visit more before them.
use Rattle.std.proofs.Common.{◌≡◌, ℕ, ◌+◌, ◌-◌, ◌*◌, ◌<◌, ◌≤◌, List, [], ◌∷◌, length, drop, get_or, ◌∙◌, ap, subst, sym, arith, of_z, to_z, w64}
use Rattle.std.specs.Prelude.{ℤ, pos, ◌+ℤ◌, ◌-ℤ◌, ◌≤ℤ◌, max, suc}
use Rattle.std.specs.Int.{int_max}
use Rattle.std.proofs.Math.Seq.{drop-cons}
use Rattle.std.proofs.lemmas.Int.{clamps, ints}
use Rattle.std.proofs.lemmas.List.Sums.{sum_by-cons}
use Rattle.problem_data.specs.declared.problem.Client.{Client as ClientOf}
use Rattle.problem_data.specs.declared.problem.Problem.{Problem}
use Rattle.problem_data.specs.declared.visit.Visit.{Visit}
use Rattle.problem_data.specs.declared.visit.Visit.TheVariants.{Client, Reload}
use Rattle.problem_data.specs.Limits.{largest, most_visits}
use Rattle.problem_data.specs.Places.{client_at}
use Rattle.problem_data.specs.Valid.{IsValidClient}
use Rattle.routing_model.specs.Load.{first_trip, later_trips, trip_load}
use Rattle.segments.specs.Load.{IsSoundLoad, JoinsLoads, StandsForClient, StandsForNoLoad, merged_load, no_load}
use Rattle.segments.specs.declared.load_segment.LoadSegment.{LoadSegment}
use Rattle.joined_views.specs.declared.later_trips.LaterTrips.{LaterTrips}
use Rattle.joined_views.specs.inside.Recounts.{AreLater, later_loads}

-- an excess as the code hands it on
pub same-excess : (excess load : ℤ) (n count : ℕ) → excess ≡ pos n → pos 0 ≤ℤ load → (load +ℤ excess) ≤ℤ pos (count * largest) → count ≤ most_visits → to_z w64 (of_z w64 excess) ≡ excess
same-excess excess load n count e from_0 short few = omega (arith, ints)

pub client-before : (p : Problem) (capacity count : ℕ) (visits : List Visit) (place : ℕ) (client : ClientOf) (later : LaterTrips) (load merged : LoadSegment) (excess : ℤ) →
    client ≡ client_at p place → IsValidClient client → load ≡ record { delivery = pos client.delivery; pickup = pos client.pickup; load = pos (max client.delivery client.pickup) } →
    StandsForClient client.delivery client.pickup load → merged ≡ merged_load load later.trip (pos 0) → IsSoundLoad merged → JoinsLoads load later.trip merged → excess ≡ later.excess →
    AreLater p capacity count visits later → AreLater p capacity (count + 1) (Client place ∷ visits) (record { trip = merged; excess = excess })
client-before p capacity count visits place client later load merged excess is valid is_load stands is_merged sound joins same h = record {
  sound = sound;
  stands = joins p (place ∷ []) (first_trip visits) (stands p place (ap (λ (c : ClientOf). c.delivery) (sym is)) (ap (λ (c : ClientOf). c.pickup) (sym is))) h.stands;
  excess = same ∙ h.excess;
  short = more client.delivery client.pickup load.load load.pickup later.trip.load later.trip.delivery merged.load later.excess excess count
      (ap (λ (s : LoadSegment). s.load) is_load) (ap (λ (s : LoadSegment). s.pickup) is_load) (ap (λ (s : LoadSegment). s.load) is_merged) same h.sound.departs valid.delivery valid.pickup h.short;
}
  where
    more : (d p : ℕ) (l u t e m x y : ℤ) (count : ℕ) → l ≡ pos (max d p) → u ≡ pos p → m ≡ int_max (l +ℤ e) (u +ℤ t) → y ≡ x → e ≤ℤ t → d ≤ largest → p ≤ largest →
        (t +ℤ x) ≤ℤ pos (count * largest) → (m +ℤ y) ≤ℤ pos ((count + 1) * largest)
    more d p l u t e m x y count is_l is_u is_m same departs short_d short_p h = omega (arith, ints, clamps)

pub reload-before : (p : Problem) (capacity count depot : ℕ) (visits : List Visit) (later : LaterTrips) (trip : LoadSegment) (over excess : ℤ) →
    trip ≡ no_load → IsSoundLoad trip → StandsForNoLoad trip → over ≡ int_max (later.trip.load -ℤ pos capacity) (pos 0) → excess ≡ later.excess +ℤ over →
    AreLater p capacity count visits later → AreLater p capacity (count + 1) (Reload depot ∷ visits) (record { trip = trip; excess = excess })
reload-before p capacity count depot visits later trip over excess is sound stands is_over same h = record {
  sound = sound;
  stands = stands p;
  excess = added later.trip.load later.excess over excess (trip_load p (first_trip visits)) (later_loads p capacity visits) (later_loads p capacity (Reload depot ∷ visits)) h.stands.load h.excess is_over same
      (sum_by-cons (λ (clients : List ℕ). trip_load p clients - capacity) (first_trip visits) (later_trips visits));
  short = less trip.load later.trip.load later.excess over excess (trip_load p (first_trip visits)) (ap (λ (s : LoadSegment). s.load) is) h.stands.load is_over same h.short;
}
  where
    added : (load old over new : ℤ) (n m k : ℕ) → load ≡ pos n → old ≡ pos m → over ≡ int_max (load -ℤ pos capacity) (pos 0) → new ≡ old +ℤ over → k ≡ (n - capacity) + m → new ≡ pos k
    added load old over new n m k is_load is_old is_over is_new is_sum = omega (arith, ints, clamps)

    less : (none load old over new : ℤ) (n : ℕ) → none ≡ pos 0 → load ≡ pos n → over ≡ int_max (load -ℤ pos capacity) (pos 0) → new ≡ old +ℤ over → (load +ℤ old) ≤ℤ pos (count * largest) →
        (none +ℤ new) ≤ℤ pos ((count + 1) * largest)
    less none load old over new n is_none is_load is_over is_new h = omega (arith, ints, clamps)

pub before-it : (p : Problem) (capacity k : ℕ) (visits : List Visit) (none : Visit) (later : LaterTrips) → k < length visits →
    AreLater p capacity (k + 1) (get_or visits (length visits - 1 - k) none ∷ drop (length visits - k) visits) later → AreLater p capacity (k + 1) (drop (length visits - (k + 1)) visits) later
before-it p capacity k visits none later inside h =
    let at : length visits - (k + 1) ≡ length visits - 1 - k = omega arith in
    let next : suc (length visits - 1 - k) ≡ length visits - k = omega arith in
    let there : length visits - 1 - k < length visits = omega arith in
    subst (λ (xs : List Visit). AreLater p capacity (k + 1) xs later)
    (ap (λ (n : ℕ). get_or visits (length visits - 1 - k) none ∷ drop n visits) (sym next) ∙ sym (drop-cons visits (length visits - 1 - k) none there) ∙ ap (λ (n : ℕ). drop n visits) (sym at)) h
