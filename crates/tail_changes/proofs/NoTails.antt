-- Where no tails are exchanged: the client isn't visited, or what the target names isn't there, or is in the client's own list.
use Rattle.std.proofs.Common.{◌≡◌, ℕ, ◌+◌, ◌-◌, Bool, true, false, ◌||◌, cond, List, [], ◌∷◌, ◌++◌, refl, sym, ◌∙◌, ap, ap₂, Option, None, Some, slice_get}
use Rattle.std.specs.Prelude.{find, unwrap_or}
use Rattle.std.specs.List.{list_any, position_from}
use Rattle.problem_data.specs.declared.visit.Visit.{Visit}
use Rattle.problem_data.specs.declared.visit.Visit.TheVariants.{Client}
use Rattle.routing_model.specs.Routes.{Routes, has_client, is_visited, list_at}
use Rattle.search_model.specs.declared.candidate.Target.{Target}
use Rattle.search_model.specs.declared.candidate.Target.TheVariants.{After, Empty, StartOf}
use Rattle.search_model.specs.Edits.{begins_with, following, list_with, position_of, unused_vehicle, up_to, vehicle_of}
use Rattle.search_model.specs.Exchange.{tails_swapped, two_set}
use Rattle.search_model.specs.Moves.{if_lawful}
use Rattle.search_model.proofs.ClientPlaces.{StandsAt}
use Rattle.search_model.proofs.PutMoves.{position-none}
use Rattle.search_model.proofs.RunMoves.{lawful-once}
use Rattle.search_model.proofs.TailMoves.{tails-empty-none, tails-own, tails-start-own, vehicle_of-at}
use Rattle.gain_model.proofs.OperatorAnswers.{answer-none}
use Rattle.gain_model.proofs.SameBases.{unused_empty}
use Rattle.std.specs.Prelude.{option_and_then}
use Rattle.move_core.specs.Searches.{IsSound, SearchState}
use Rattle.list_changes.specs.declared.aim.Aim.{Aim}
use Rattle.list_changes.specs.Aims.{IsAim, IsNoAim}
use Rattle.list_changes.specs.Moves.{IsAnswerTo}
use Rattle.list_changes.proofs.Unvisited.{unvisited}
use Rattle.tail_changes.specs.Tails.{tail_candidate}

-- no element passes
or-first : (a b : Bool) → (a || b) ≡ false → a ≡ false
or-first true b h = cc
or-first false b h = refl

or-second : (a b : Bool) → (a || b) ≡ false → b ≡ false
or-second true b h = cc
or-second false b h = h

-- what is found by another test
fails-found : {X : Type 0} (q r : X → Bool) (xs : List X) (d : X) → list_any q xs ≡ false → q d ≡ false → q (unwrap_or (find r xs) d) ≡ false
fails-found q r [] d none fails = fails
fails-found q r (x ∷ xs) d none fails = by (r x) (fails-found q r xs d (or-second (q x) (list_any q xs) none) fails)
  where
    by : (b : Bool) → q (unwrap_or (find r xs) d) ≡ false → q (unwrap_or (cond b (Some x) (find r xs)) d) ≡ false
    by true later = or-first (q x) (list_any q xs) none
    by false later = later

neither : (b : Bool) (o : Option Routes) → o ≡ None → cond b o None ≡ None
neither true o none = none
neither false o none = refl

-- the answer is nothing where nothing is made
nothing : (s : SearchState) (u : ℕ) (target : Target) → tails_swapped s.problem s.routes u target ≡ None → IsAnswerTo s (tail_candidate u target) None
nothing s u target none = answer-none s.problem s.weights s.routes (tail_candidate u target) (ap (option_and_then (if_lawful s.problem)) none)

-- the client isn't visited
pub no-client : (s : SearchState) (u : ℕ) (target : Target) → position_of s.routes u ≡ None → IsAnswerTo s (tail_candidate u target) None
no-client s u target none = nothing s u target (by target)
  where
    nowhere : vehicle_of s.routes u ≡ None
    nowhere = unvisited s.routes u (position-none s.routes u none)

    by : (target : Target) → tails_swapped s.problem s.routes u target ≡ None
    by (After v) =
        ap (λ (o : Option ℕ). two_set s.routes o (up_to u (list_with s.routes u) ++ following v (list_with s.routes v)) (vehicle_of s.routes v) (up_to v (list_with s.routes v) ++ following u (list_with s.routes u))) nowhere
    by (StartOf v) =
        neither (begins_with v (list_with s.routes v)) (two_set s.routes (vehicle_of s.routes u) (up_to u (list_with s.routes u) ++ list_with s.routes v) (vehicle_of s.routes v) (following u (list_with s.routes u)))
        (ap (λ (o : Option ℕ). two_set s.routes o (up_to u (list_with s.routes u) ++ list_with s.routes v) (vehicle_of s.routes v) (following u (list_with s.routes u))) nowhere)
    by (Empty type) =
        ap (λ (o : Option ℕ). two_set s.routes o (up_to u (list_with s.routes u)) (unused_vehicle s.problem s.routes type) (following u (list_with s.routes u))) nowhere

-- U stands behind some visits of a list
module _ (s : SearchState) (sound : IsSound s) (u a k : ℕ) (at_u : StandsAt s.routes u a k) where
  of-client : vehicle_of s.routes u ≡ Some a
  of-client = vehicle_of-at s.routes u a k (lawful-once s.problem s.routes sound.lawful u) at_u

  -- what the target names isn't there
  pub no-target : (target : Target) → IsNoAim s target → IsAnswerTo s (tail_candidate u target) None
  no-target (After v) none =
      nothing s u (After v)
      (ap₂ (λ (i j : Option ℕ). two_set s.routes i (up_to u (list_with s.routes u) ++ following v (list_with s.routes v)) j (up_to v (list_with s.routes v) ++ following u (list_with s.routes u)))
      of-client (unvisited s.routes v none))
  no-target (StartOf v) none =
      nothing s u (StartOf v)
      (ap (λ (b : Bool). cond b (two_set s.routes (vehicle_of s.routes u) (up_to u (list_with s.routes u) ++ list_with s.routes v) (vehicle_of s.routes v) (following u (list_with s.routes u))) None)
      (fails-found (begins_with v) (has_client v) s.routes [] none refl))
  no-target (Empty type) none = nothing s u (Empty type) (tails-empty-none s.problem s.routes (lawful-once s.problem s.routes sound.lawful) a k u at_u type none)

  -- it is in the same list
  pub own-list : (target : Target) (aim : Aim) → IsAim s target aim → aim.vehicle ≡ a → IsAnswerTo s (tail_candidate u target) None
  own-list (After v) aim at own =
      nothing s u (After v) (tails-own s.problem s.routes (lawful-once s.problem s.routes sound.lawful) a k u at_u aim.vehicle (aim.place - 1) v at.names.stands (sym own))
  own-list (StartOf v) aim at own =
      nothing s u (StartOf v) (tails-start-own s.problem s.routes (lawful-once s.problem s.routes sound.lawful) a k u at_u aim.vehicle 0 v at.names.stands (sym own))
  own-list (Empty type) aim at own =
      let none : list_at s.routes a ≡ [] = ap (list_at s.routes) (sym own) ∙ unused_empty s.problem s.routes sound.lawful type aim.vehicle at.names.found in
      let e : None ≡ Some (Client u) = sym (ap (λ (xs : List Visit). slice_get xs k) none) ∙ at_u in
      absurd (let x : ⊥ = cc in x)
