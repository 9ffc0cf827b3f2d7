-- Segments of a load.
use Rattle.std.specs.Prelude.{◌≡◌, ℕ, ℤ, pos, ◌+ℤ◌, ◌≤ℤ◌, List, [], ◌∷◌, ◌++◌, sum_by}
use Rattle.std.specs.Int.{int_max}
use Rattle.problem_data.specs.declared.problem.Problem.{Problem}
use Rattle.problem_data.specs.Places.{client_at}
use Rattle.routing_model.specs.Load.{trip_load}
use Rattle.segments.specs.declared.load_segment.LoadSegment.{LoadSegment}
use Rattle.segments.specs.Totals.{IsTotal, largest_total}

-- its numbers are in range, and all deliveries are on board at one moment, and all pickups at another
pub record IsSoundLoad (segment : LoadSegment) : Type 0 where
  pub delivery : IsTotal segment.delivery
  pub pickup : IsTotal segment.pickup
  pub load : IsTotal segment.load
  pub departs : segment.delivery ≤ℤ segment.load
  pub arrives : segment.pickup ≤ℤ segment.load

-- none of its numbers is above the most
pub record IsWithinLoad (segment : LoadSegment) : Type 0 where
  pub delivery : segment.delivery ≤ℤ pos largest_total
  pub pickup : segment.pickup ≤ℤ pos largest_total
  pub load : segment.load ≤ℤ pos largest_total

-- no client
abbrev pub no_load : LoadSegment
no_load = record { delivery = pos 0; pickup = pos 0; load = pos 0 }

-- One after the other: on the left the deliveries of the right are on board too, and on the right the pickups of the left.
abbrev pub merged_load : LoadSegment → LoadSegment → ℤ → LoadSegment
merged_load left right gap = record {
  delivery = left.delivery +ℤ right.delivery;
  pickup = left.pickup +ℤ right.pickup;
  load = int_max (left.load +ℤ right.delivery) (left.pickup +ℤ right.load);
}

-- the deliveries and the pickups of these clients, and the load of a trip that visits them
pub record StandsForLoad (p : Problem) (segment : LoadSegment) (clients : List ℕ) : Type 0 where
  pub delivery : segment.delivery ≡ pos (sum_by (λ place. (client_at p place).delivery) clients)
  pub pickup : segment.pickup ≡ pos (sum_by (λ place. (client_at p place).pickup) clients)
  pub load : segment.load ≡ pos (trip_load p clients)

-- it stands for no clients
abbrev pub StandsForNoLoad : LoadSegment → Type 0
StandsForNoLoad segment = (p : Problem) → StandsForLoad p segment []

-- it stands for each client with this delivery and this pickup
abbrev pub StandsForClient : ℕ → ℕ → LoadSegment → Type 0
StandsForClient delivery pickup segment = (p : Problem) (place : ℕ) →
    (client_at p place).delivery ≡ delivery → (client_at p place).pickup ≡ pickup → StandsForLoad p segment (place ∷ [])

-- where two segments stand for two lists, this one stands for both, one after the other
abbrev pub JoinsLoads : LoadSegment → LoadSegment → LoadSegment → Type 0
JoinsLoads left right both = (p : Problem) (xs ys : List ℕ) →
    StandsForLoad p left xs → StandsForLoad p right ys → StandsForLoad p both (xs ++ ys)
