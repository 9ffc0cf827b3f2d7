-- The load of two lists of clients.
use Rattle.std.proofs.Common.{◌≡◌, ℕ, ◌+◌, ◌-◌, ◌≤◌, max, List, [], ◌∷◌, ◌++◌, sym, ◌∙◌, ap, arith}
use Rattle.std.specs.Prelude.{ℤ, pos, ◌+ℤ◌, sum_by}
use Rattle.std.specs.Int.{int_max}
use Rattle.std.proofs.lemmas.Int.{ints, clamps}
use Rattle.std.proofs.lemmas.List.Sums.{sum_by-cons, sum_by-append}
use Rattle.problem_data.specs.declared.problem.Problem.{Problem}
use Rattle.problem_data.specs.Places.{client_at}
use Rattle.routing_model.specs.Load.{largest_load, trip_load}
use Rattle.segments.specs.declared.load_segment.LoadSegment.{LoadSegment}
use Rattle.segments.specs.Load.{IsSoundLoad, IsWithinLoad, JoinsLoads, merged_load}

abbrev pub deliveries : Problem → List ℕ → ℕ
deliveries p clients = sum_by (λ place. (client_at p place).delivery) clients

abbrev pub pickups : Problem → List ℕ → ℕ
pickups p clients = sum_by (λ place. (client_at p place).pickup) clients

-- what else is on board all the way adds to the load
largest_load-more : (p : Problem) (clients : List ℕ) (more : ℕ) → largest_load p clients (deliveries p clients + more) ≡ trip_load p clients + more
largest_load-more p [] more = omega arith
largest_load-more p (place ∷ rest) more =
    let client = client_at p place in
    let all : deliveries p (place ∷ rest) ≡ client.delivery + deliveries p rest = sum_by-cons (λ c. (client_at p c).delivery) place rest in
    let with : (deliveries p (place ∷ rest) + more) - client.delivery + client.pickup ≡ deliveries p rest + (more + client.pickup) = omega arith in
    let without : deliveries p (place ∷ rest) - client.delivery + client.pickup ≡ deliveries p rest + client.pickup = omega arith in
    let e : largest_load p rest ((deliveries p (place ∷ rest) + more) - client.delivery + client.pickup) ≡ trip_load p rest + (more + client.pickup)
    = ap (largest_load p rest) with ∙ largest_load-more p rest (more + client.pickup) in
    let f : largest_load p rest (deliveries p (place ∷ rest) - client.delivery + client.pickup) ≡ trip_load p rest + client.pickup
    = ap (largest_load p rest) without ∙ largest_load-more p rest client.pickup in
    omega arith

-- the load of one client and those behind
pub trip_load-cons : (p : Problem) (place : ℕ) (rest : List ℕ) →
    trip_load p (place ∷ rest) ≡ max ((client_at p place).delivery + deliveries p rest) (trip_load p rest + (client_at p place).pickup)
trip_load-cons p place rest =
    let client = client_at p place in
    let all : deliveries p (place ∷ rest) ≡ client.delivery + deliveries p rest = sum_by-cons (λ c. (client_at p c).delivery) place rest in
    let without : deliveries p (place ∷ rest) - client.delivery + client.pickup ≡ deliveries p rest + client.pickup = omega arith in
    let f : largest_load p rest (deliveries p (place ∷ rest) - client.delivery + client.pickup) ≡ trip_load p rest + client.pickup
    = ap (largest_load p rest) without ∙ largest_load-more p rest client.pickup in
    omega arith

-- all deliveries are on board at the departure
pub deliveries-carried : (p : Problem) (clients : List ℕ) → deliveries p clients ≤ trip_load p clients
deliveries-carried p [] = omega arith
deliveries-carried p (place ∷ rest) = omega arith

-- the load of two lists of clients
trip_load-append : (p : Problem) (xs ys : List ℕ) → trip_load p (xs ++ ys) ≡ max (trip_load p xs + deliveries p ys) (pickups p xs + trip_load p ys)
trip_load-append p [] ys = let h = deliveries-carried p ys in omega arith
trip_load-append p (place ∷ rest) ys =
    let joined = trip_load-cons p place (rest ++ ys) in
    let alone = trip_load-cons p place rest in
    let both : deliveries p (rest ++ ys) ≡ deliveries p rest + deliveries p ys = sum_by-append (λ c. (client_at p c).delivery) rest ys in
    let picked : pickups p (place ∷ rest) ≡ (client_at p place).pickup + pickups p rest = sum_by-cons (λ c. (client_at p c).pickup) place rest in
    let behind = trip_load-append p rest ys in
    omega arith

-- merged loads are those of both lists
pub merged-joins_loads : (left right : LoadSegment) (gap : ℤ) → JoinsLoads left right (merged_load left right gap)
merged-joins_loads left right gap p xs ys h k =
    let delivery1 : left.delivery ≡ pos (deliveries p xs) = h.delivery in
    let pickup1 : left.pickup ≡ pos (pickups p xs) = h.pickup in
    let load1 : left.load ≡ pos (trip_load p xs) = h.load in
    let delivery2 : right.delivery ≡ pos (deliveries p ys) = k.delivery in
    let pickup2 : right.pickup ≡ pos (pickups p ys) = k.pickup in
    let load2 : right.load ≡ pos (trip_load p ys) = k.load in
    record {
      delivery = (λ i. delivery1 i +ℤ delivery2 i) ∙ ap (λ (n : ℕ). pos n) (sym (sum_by-append (λ c. (client_at p c).delivery) xs ys));
      pickup = (λ i. pickup1 i +ℤ pickup2 i) ∙ ap (λ (n : ℕ). pos n) (sym (sum_by-append (λ c. (client_at p c).pickup) xs ys));
      load = (λ i. int_max (load1 i +ℤ delivery2 i) (pickup1 i +ℤ load2 i)) ∙ largest (trip_load p xs + deliveries p ys) (pickups p xs + trip_load p ys)
          ∙ ap (λ (n : ℕ). pos n) (sym (trip_load-append p xs ys));
    }
  where
    largest : (m n : ℕ) → int_max (pos m) (pos n) ≡ pos (max m n)
    largest m n = omega (arith, ints, clamps)

-- merging keeps loads sound
pub merged-sound_load : (left right : LoadSegment) (gap : ℤ) → IsSoundLoad left → IsSoundLoad right → IsWithinLoad (merged_load left right gap) → IsSoundLoad (merged_load left right gap)
merged-sound_load left right gap sound_left sound_right within = record {
  delivery = record { from_0 = omega (arith, ints); to_largest = within.delivery };
  pickup = record { from_0 = omega (arith, ints); to_largest = within.pickup };
  load = record { from_0 = omega (arith, ints, clamps); to_largest = within.load };
  departs = omega (arith, ints, clamps);
  arrives = omega (arith, ints, clamps);
}
