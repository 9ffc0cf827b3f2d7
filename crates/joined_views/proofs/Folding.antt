-- Runs that are put together one behind the other.
use Rattle.std.proofs.Common.{◌≡◌, ℕ, ◌+◌, ◌<◌, List, [], ◌∷◌, ◌++◌, length, get_or, take, refl, ap, subst, sym, arith}
use Rattle.std.specs.Prelude.{IsTrue, Some, None}
use Rattle.std.proofs.lemmas.List.{length-take, take_more}
use Rattle.std.proofs.lemmas.List.Elements.{All-get_or, All-take}
use Rattle.problem_data.specs.declared.problem.Problem.{Problem}
use Rattle.problem_data.specs.declared.problem.VehicleType.{VehicleType}
use Rattle.problem_data.specs.declared.visit.Visit.{Visit}
use Rattle.problem_data.specs.Places.{place_count}
use Rattle.problem_data.specs.Visits.{place_of}
use Rattle.routing_model.specs.Lawful.{names_place}
use Rattle.trips.specs.Joints.{last_visit}
use Rattle.trips.specs.Laws.{IsInRange}
use Rattle.trips.specs.RunSegments.{FitTogether, HoldsVisit, JoinsAt, Leaves, Reaches, alone}
use Rattle.trips.specs.Runs.{followed_by}
use Rattle.trips.specs.declared.run_segment.RunSegment.{RunSegment}
use Rattle.trips.proofs.RunEnds.{leaves-at_last, reaches-first}
use Rattle.trips.proofs.RunPlaces.{leaves-alone}
use Rattle.trips.proofs.RunSteps.{place-named}
use Rattle.joined_views.specs.declared.open_run.OpenRun.{OpenRun}
use Rattle.joined_views.specs.inside.Folding.{FollowsOpen, Goes, IsNext}
use Rattle.joined_views.specs.inside.Recounts.{visits_alone}
use Rattle.joined_views.specs.inside.Joined.{IsOpen}

-- the last visit of two lists is that of the second
pub last-append : (xs ys : List Visit) (last : Visit) → last_visit ys ≡ Some last → last_visit (xs ++ ys) ≡ Some last
last-append [] ys last h = h
last-append (x ∷ []) [] last h = absurd (nothing h)
  where
    nothing : None ≡ Some last → ⊥
    nothing h = cc
last-append (x ∷ []) (y ∷ ys) last h = h
last-append (x ∷ next ∷ xs) ys last h = last-append (next ∷ xs) ys last h

module _ (p : Problem) (t : VehicleType) (front : OpenRun) (next : RunSegment) (first last : ℕ) where
  pub fits : FollowsOpen p t front next first last → FitTogether p t front.so_far front.last next first
  fits h = record {
    left = h.left_run;
    right = h.right_run;
    holds_left = h.is_open.holds;
    holds_right = h.is_next.holds;
    follows = record { goes_on = h.is_open.goes_on; begun = h.is_next.begun };
    leaves = h.is_open.leaves;
    reaches = subst (Reaches p t h.right_run) h.is_next.reached (reaches-first p t h.right_run h.is_next.first_at h.is_next.begun h.is_next.is_first);
    in_range = h.in_range;
  }

  pub goes : (both : RunSegment) → last < place_count p → JoinsAt p t front.so_far front.last next first both → Goes p t front next first last (record { so_far = both; last = last })
  goes both there joins x y is_open is_next in_range = record {
    holds = joins x y is_open.holds is_next.holds (record { goes_on = is_open.goes_on; begun = is_next.begun }) is_open.leaves
        (subst (Reaches p t y) is_next.reached (reaches-first p t y is_next.first_at is_next.begun is_next.is_first)) in_range;
    goes_on = is_next.goes_on;
    leaves = subst (Leaves p t (followed_by x y)) is_next.left
        (leaves-at_last p t (followed_by x y) is_next.last_at is_next.goes_on (last-append x.visits y.visits is_next.last_at is_next.is_last));
    there = there;
  }

-- one visit alone
module _ (p : Problem) (t : VehicleType) (visits : List Visit) (range : IsInRange p t (visits_alone visits)) where
  pub named-of : (k : ℕ) (none : Visit) → k < length visits → IsTrue (names_place p (get_or visits k none))
  named-of k none inside = All-get_or (λ (visit : Visit). IsTrue (names_place p visit)) visits k none inside range.is_run.named

  pub there-of : (k : ℕ) (none : Visit) → k < length visits → place_of (get_or visits k none) < place_count p
  there-of k none inside = place-named p (get_or visits k none) (named-of k none inside)

  next-of : (k : ℕ) (none : Visit) (next : RunSegment) → HoldsVisit p (get_or visits k none) next →
      IsNext p t next (place_of (get_or visits k none)) (place_of (get_or visits k none)) (alone (get_or visits k none))
  next-of k none next held = record {
    holds = held t range.is_run.allowed;
    begun = refl;
    goes_on = refl;
    first_at = get_or visits k none;
    last_at = get_or visits k none;
    is_first = refl;
    is_last = refl;
    reached = refl;
    left = refl;
  }

  longer : (k : ℕ) (none : Visit) → k < length visits → visits_alone (take (k + 1) visits) ≡ followed_by (visits_alone (take k visits)) (alone (get_or visits k none))
  longer k none inside = ap visits_alone (take_more visits k none inside)

  range-of : (k : ℕ) → IsInRange p t (visits_alone (take k visits))
  range-of k = record {
    is_run = record {
      valid = range.is_run.valid;
      allowed = range.is_run.allowed;
      named = All-take (λ (visit : Visit). IsTrue (names_place p visit)) k visits range.is_run.named;
    };
    few = let shorter = length-take k visits in omega (arith, range.few);
  }

  pub visit-follows : (k : ℕ) (none : Visit) (front : OpenRun) (next : RunSegment) → k < length visits → IsOpen p t front (visits_alone (take k visits)) → HoldsVisit p (get_or visits k none) next →
      FollowsOpen p t front next (place_of (get_or visits k none)) (place_of (get_or visits k none))
  visit-follows k none front next inside is_open held = record {
    left_run = visits_alone (take k visits);
    right_run = alone (get_or visits k none);
    is_open = is_open;
    is_next = next-of k none next held;
    in_range = subst (IsInRange p t) (longer k none inside) (range-of (k + 1));
  }

  pub visit-goes : (k : ℕ) (none : Visit) (front longer_run : OpenRun) (next : RunSegment) → k < length visits → IsOpen p t front (visits_alone (take k visits)) →
      HoldsVisit p (get_or visits k none) next → Goes p t front next (place_of (get_or visits k none)) (place_of (get_or visits k none)) longer_run →
      IsOpen p t longer_run (visits_alone (take (k + 1) visits))
  visit-goes k none front longer_run next inside is_open held goes_on =
      subst (IsOpen p t longer_run) (sym (longer k none inside))
      (goes_on (visits_alone (take k visits)) (alone (get_or visits k none)) is_open (next-of k none next held) (subst (IsInRange p t) (longer k none inside) (range-of (k + 1))))

  pub visit-begins : (none : Visit) (first : RunSegment) → 0 < length visits → HoldsVisit p (get_or visits 0 none) first →
      IsOpen p t (record { so_far = first; last = place_of (get_or visits 0 none) }) (visits_alone (take 1 visits))
  visit-begins none first some held =
      subst (IsOpen p t (record { so_far = first; last = place_of (get_or visits 0 none) })) (sym (longer 0 none some))
      (record { holds = held t range.is_run.allowed; goes_on = refl; leaves = leaves-alone p t (get_or visits 0 none); there = there-of 0 none some })
