use Rattle.std.proofs.Common.{◌≡◌, ◌∙◌, ℕ, Bool, false, ◌&&◌, List, [], ◌∷◌, ap₂, refl}
use Rattle.std.specs.Prelude.{◌==◌}
use Rattle.std.specs.Cmp.Lexicographic.{pointwise}
use Rattle.problem_data.specs.declared.visit.Visit.{Visit}
use Rattle.problem_data.specs.declared.visit.Visit.TheVariants.{Client, Reload}
use Rattle.routing_model.specs.Routes.{is_same_list, is_same_visit}
use Rattle.compared_plans.proofs.duplicates.is_same_list.Goals as goal

-- a comparison of lists by one of visits
module _ (E : Visit → Visit → Bool) (clients : (a b : ℕ) → E (Client a) (Client b) ≡ (a == b)) (reload : (a b : ℕ) → E (Client a) (Reload b) ≡ false) (client : (a b : ℕ) → E (Reload a) (Client b) ≡ false)
    (reloads : (a b : ℕ) → E (Reload a) (Reload b) ≡ (a == b)) where
  visit-same : (x y : Visit) → E x y ≡ is_same_visit x y
  visit-same (Client a) (Client b) = clients a b
  visit-same (Client a) (Reload b) = reload a b
  visit-same (Reload a) (Client b) = client a b
  visit-same (Reload a) (Reload b) = reloads a b

  list-same : (xs ys : List Visit) → pointwise E xs ys ≡ is_same_list xs ys
  list-same [] [] = refl
  list-same [] (y ∷ ys) = refl
  list-same (x ∷ xs) [] = refl
  list-same (x ∷ xs) (y ∷ ys) = ap₂ (λ (a b : Bool). a && b) (visit-same x y) (list-same xs ys)

pub returns : goal.returns
returns c = c.eq.ensures ∙ list-same _ (λ a b. refl) (λ a b. refl) (λ a b. refl) (λ a b. refl) c.args.a.now c.args.b.now
