-- A missing client put in anywhere: the plan stays sound, and the list one that a vehicle can have.
use Rattle.std.proofs.Common.{◌≡◌, ◌∙◌, ℕ, zero, suc, ◌+◌, ◌<◌, ◌≤◌, List, [], ◌∷◌, ◌++◌, length, get_or, insert, remove, ap, arith, refl, subst, sym}
use Rattle.std.specs.Prelude.{flat_map, take}
use Rattle.std.proofs.lemmas.Grind.{flat_map-append}
use Rattle.std.proofs.lemmas.List.{append-nil, get_or-set_same, take_more}
use Rattle.problem_data.specs.declared.problem.Problem.{Problem}
use Rattle.problem_data.specs.declared.visit.Visit.{Visit}
use Rattle.problem_data.specs.declared.visit.Visit.TheVariants.{Client}
use Rattle.routing_model.specs.declared.weights.Weights.{Weights}
use Rattle.routing_model.specs.Listed.{IsListed}
use Rattle.routing_model.specs.Routes.{Routes, list_at}
use Rattle.random_model.proofs.Dealing.{vehicles_some}
use Rattle.genetic_model.proofs.SoundChildren.{IsSound}
use Rattle.genetic_model.proofs.SoundInsertion.{inserted-completion}
use Rattle.least_insertions.specs.inside.Places.{IsMissingIn, with_client}
use Rattle.least_insertions.proofs.SoundLists.{sound-listed}

pub remove-insert : (xs : List Visit) (i : ℕ) (x : Visit) → i ≤ length xs → remove (insert xs i x) i ≡ xs
remove-insert [] zero x h = refl
remove-insert [] (suc i) x h = absurd (omega arith)
remove-insert (y ∷ xs) zero x h = refl
remove-insert (y ∷ xs) (suc i) x h = ap (λ (ys : List Visit). y ∷ ys) (remove-insert xs i x (omega arith))

module _ (p : Problem) (w : Weights) (routes : Routes) (c v i : ℕ) (missing : IsMissingIn p routes c) (inside : v < length routes) where
  pub inserted-sound : IsSound p (with_client routes c v i)
  inserted-sound =
      (inserted-completion p w missing.valid (vehicles_some p missing.valid) routes (with_client routes c v i) c missing.sound missing.client missing.missing
      (record { vehicle = v; position = i; there = inside; is = refl })).sound

  pub inserted-listed : IsListed p (insert (list_at routes v) i (Client c))
  inserted-listed =
      let made : Routes = with_client routes c v i in
      let e = inserted-sound.one_list_each in
      let k = missing.sound.one_list_each in
      subst (IsListed p) (get_or-set_same routes v (insert (list_at routes v) i (Client c)) [] inside)
      (sound-listed p (with_client routes c v i) missing.valid inserted-sound v [] (omega arith))

-- the plans of some vehicles' insertions, one vehicle more
pub flat-next : {Y : Type 0} (f : ℕ → List Y) (xs : List ℕ) (k : ℕ) → k < length xs → flat_map f (take k xs) ++ f (get_or xs k 0) ≡ flat_map f (take (k + 1) xs)
flat-next f xs k inside =
    sym (ap (flat_map f) (take_more xs k 0 inside) ∙ (flat_map-append f (take k xs) (get_or xs k 0 ∷ []) ∙ ap (λ (ys : List _). flat_map f (take k xs) ++ ys) (append-nil (f (get_or xs k 0)))))
