-- Lists that are put in.
use Rattle.std.proofs.Common.{◌≡◌, ◌∙◌, ℕ, Bool, true, false, cond, List, [], ◌∷◌, All, IsTrue, Option, Some, None, ap, filter, refl, subst, sym}
use Rattle.std.specs.Prelude.{nat_eq, option_map, unwrap_or}
use Rattle.std.specs.List.{list_all}
use Rattle.std.proofs.lemmas.List.Elements.{All-head, All-tail}
use Rattle.problem_data.specs.declared.problem.Problem.{Problem}
use Rattle.problem_data.specs.declared.problem.VehicleType.{VehicleType}
use Rattle.problem_data.specs.declared.visit.Visit.{Visit}
use Rattle.problem_data.specs.Places.{type_at, type_of}
use Rattle.routing_model.specs.Lawful.{is_allowed, names_place}
use Rattle.routing_model.specs.Routes.{Routes, list_at}
use Rattle.genetic_model.specs.RouteChildren.{child_list, fitted, without_clashes}
use Rattle.genetic_model.proofs.ListEdits.{all-first, all-kept}
use Rattle.exchange_children.specs.inside.Givers.{giver_in}
use Rattle.exchange_children.proofs.Givers.{giver-step}

some-is : (m n : ℕ) → Some m ≡ Some n → m ≡ n
some-is m n e = ap (λ (o : Option ℕ). unwrap_or o 0) e

none-some : (n : ℕ) → None ≡ Some n → ⊥
none-some n e = cc

-- what holds of all givers holds of the one that is found
pub giver-among : (P : ℕ → Type 0) (into from : List ℕ) (v g : ℕ) → All P from → giver_in into from v ≡ Some g → P g
giver-among P [] from v g all e = absurd (none-some g e)
giver-among P (x ∷ into) [] v g all e = absurd (none-some g e)
giver-among P (x ∷ into) (y ∷ from) v g all e = by (nat_eq x v) (sym (giver-step x y into from v) ∙ e) (λ h. giver-among P into from v g (All-tail P y from all) h)
  where
    by : (b : Bool) → cond b (Some y) (giver_in into from v) ≡ Some g → (giver_in into from v ≡ Some g → P g) → P g
    by true h later = subst P (some-is y g h) (All-head P y from all)
    by false h later = later h

-- fitting keeps places
pub fitted-named : (p : Problem) (t : VehicleType) (visits : List Visit) → IsTrue (list_all (names_place p) visits) → IsTrue (list_all (names_place p) (fitted t visits))
fitted-named p t visits h = all-first (names_place p) t.reloads (filter (is_allowed t) visits) (all-kept (names_place p) (is_allowed t) visits h)

module _ (p : Problem) (a b : Routes) (kept put : List ℕ) (v : ℕ) where
  -- the list of a vehicle that gets one
  pub put-list : (o : Option (ℕ × ℕ)) (g : ℕ) → option_map (λ (pair : ℕ × ℕ). pair.1) o ≡ Some g → child_list p a b kept put v o ≡ without_clashes p put (fitted (type_at p (type_of p v)) (list_at b g))
  put-list None g e = absurd (none-some g e)
  put-list (Some pair) g e = ap (λ (u : ℕ). without_clashes p put (fitted (type_at p (type_of p v)) (list_at b u))) (some-is pair.1 g e)

  -- and of one that keeps its own
  pub kept-list : (o : Option (ℕ × ℕ)) → option_map (λ (pair : ℕ × ℕ). pair.1) o ≡ None → child_list p a b kept put v o ≡ without_clashes p kept (list_at a v)
  kept-list None e = refl
  kept-list (Some pair) e = absurd (none-some pair.1 (sym e))
