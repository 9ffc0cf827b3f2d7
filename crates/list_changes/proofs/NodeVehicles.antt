-- The vehicles of a client and a target: the client's, and the one that the target is on.
use Rattle.std.proofs.Common.{◌≡◌, ℕ, ◌-◌, Bool, true, false, ◌||◌, cond, not, List, [], ◌∷◌, refl, ◌∙◌, ap, ap₂, Option, Some}
use Rattle.std.specs.Prelude.{All, filter, nat_eq}
use Rattle.std.proofs.lemmas.List.Elements.{All-cons, All-nil}
use Rattle.list_words.specs.Lists.{is_in}
use Rattle.search_model.specs.declared.candidate.Candidate.TheVariants.{Node}
use Rattle.search_model.specs.declared.candidate.Target.{Target}
use Rattle.search_model.specs.declared.candidate.Target.TheVariants.{After, Empty, StartOf}
use Rattle.search_model.specs.declared.kind.Kind.{Kind}
use Rattle.search_model.specs.Edits.{vehicle_of}
use Rattle.search_model.proofs.RunMoves.{lawful-once}
use Rattle.search_model.proofs.TailMoves.{vehicle_of-at}
use Rattle.gain_model.proofs.StandsOnce.{same_test}
use Rattle.gain_model.specs.CandidateVehicles.{both, listed, target_vehicle}
use Rattle.move_core.specs.Searches.{IsSound, SearchState}
use Rattle.list_changes.specs.declared.aim.Aim.{Aim}
use Rattle.list_changes.specs.Aims.{IsAim}
use Rattle.list_changes.specs.Moves.{IsVehicleOf}

-- a number is in a list that begins with it, and in a second list of which what the first one has is left out
pub in-first : (v : ℕ) (rest : List ℕ) → is_in (v ∷ rest) v ≡ true
in-first v rest = ap (λ (b : Bool). b || is_in rest v) (same_test v v refl)

pub in-second : (a b : ℕ) → is_in (both (a ∷ []) (b ∷ [])) b ≡ true
in-second a b = by (nat_eq b a) refl
  where
    behind : List ℕ
    behind = filter (λ v. not (is_in (a ∷ []) v)) (b ∷ [])

    by : (t : Bool) → nat_eq b a ≡ t → (nat_eq b a || is_in behind b) ≡ true
    by true e = ap (λ (t : Bool). t || is_in behind b) e
    by false e =
        ap (λ (t : Bool). t || is_in behind b) e
        ∙ (ap (λ (t : Bool). is_in (cond (not (t || false)) (b ∷ []) []) b) e ∙ in-first b [])

module _ (s : SearchState) (kind : Kind) (u : ℕ) (target : Target) (a : ℕ) (of_client : vehicle_of s.routes u ≡ Some a) where
  own-first : IsVehicleOf s (Node kind u target) a
  own-first =
      ap (λ (o : Option ℕ). is_in (both (listed o) (listed (target_vehicle s.problem s.routes target))) a) of_client
      ∙ in-first a (filter (λ v. not (is_in (a ∷ []) v)) (listed (target_vehicle s.problem s.routes target)))

  own-second : (other : ℕ) → target_vehicle s.problem s.routes target ≡ Some other → IsVehicleOf s (Node kind u target) other
  own-second other there = ap₂ (λ (o q : Option ℕ). is_in (both (listed o) (listed q)) other) of_client there ∙ in-second a other

  pub node-one : All (IsVehicleOf s (Node kind u target)) (a ∷ [])
  node-one = All-cons (IsVehicleOf s (Node kind u target)) a [] own-first (All-nil (IsVehicleOf s (Node kind u target)))

  pub node-two : (other : ℕ) → target_vehicle s.problem s.routes target ≡ Some other → All (IsVehicleOf s (Node kind u target)) (a ∷ other ∷ [])
  node-two other there =
      All-cons (IsVehicleOf s (Node kind u target)) a (other ∷ []) own-first
      (All-cons (IsVehicleOf s (Node kind u target)) other [] (own-second other there) (All-nil (IsVehicleOf s (Node kind u target))))

-- the vehicle of the place that a target names
pub aim-vehicle : (s : SearchState) → IsSound s → (target : Target) (aim : Aim) → IsAim s target aim → target_vehicle s.problem s.routes target ≡ Some aim.vehicle
aim-vehicle s sound (After v) aim at = vehicle_of-at s.routes v aim.vehicle (aim.place - 1) (lawful-once s.problem s.routes sound.lawful v) at.names.stands
aim-vehicle s sound (StartOf v) aim at = vehicle_of-at s.routes v aim.vehicle 0 (lawful-once s.problem s.routes sound.lawful v) at.names.stands
aim-vehicle s sound (Empty type) aim at = at.names.found
