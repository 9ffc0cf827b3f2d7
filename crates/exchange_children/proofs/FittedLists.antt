-- Fitting a list to a type, one visit after the other.
use Rattle.std.proofs.Common.{◌≡◌, ◌∙◌, ℕ, zero, suc, ◌+◌, ◌-◌, ◌<◌, ◌&&◌, Bool, true, false, cond, List, [], ◌∷◌, ◌++◌, Option, Some, None, filter, length, get_or, drop, refl, sym, ap, append_assoc, arith}
use Rattle.std.specs.Prelude.{nat_lt}
use Rattle.std.proofs.lemmas.Bool.Decides.{nat_tests}
use Rattle.std.proofs.lemmas.List.{at_drop_more}
use Rattle.problem_data.specs.declared.problem.VehicleType.{VehicleType}
use Rattle.problem_data.specs.declared.visit.Visit.{Visit}
use Rattle.problem_data.specs.declared.visit.Visit.TheVariants.{Client, Reload}
use Rattle.routing_model.specs.Lawful.{is_allowed}
use Rattle.genetic_model.specs.RouteChildren.{first_reloads}
use Rattle.exchange_children.specs.inside.Fitting.{left_behind}

-- what a list that may have so many reloads becomes
abbrev pub fitted_within : VehicleType → ℕ → List Visit → List Visit
fitted_within t left visits = first_reloads left (filter (is_allowed t) visits)

-- a visit and what comes behind it, by how many reloads are left there
abbrev pub behind_it : VehicleType → ℕ → Visit → List Visit → Option ℕ → List Visit
behind_it t left v rest None = fitted_within t left rest
behind_it t left v rest (Some fewer) = v ∷ fitted_within t fewer rest

fitted-step : (t : VehicleType) (left : ℕ) (v : Visit) (rest : List Visit) → fitted_within t left (v ∷ rest) ≡ behind_it t left v rest (left_behind t left v)
fitted-step t left (Client c) rest = refl
fitted-step t left (Reload d) rest = by left (is_allowed t (Reload d))
  where
    by : (n : ℕ) (b : Bool) →
        first_reloads n (cond b (Reload d ∷ filter (is_allowed t) rest) (filter (is_allowed t) rest))
        ≡ behind_it t n (Reload d) rest (cond (nat_lt 0 n && b) (Some (n - 1)) None)
    by zero true = refl
    by zero false = refl
    by (suc n) b =
        kept b ∙ ap (λ (some : Bool). behind_it t (suc n) (Reload d) rest (cond (some && b) (Some (suc n - 1)) None)) (sym (positive n))
      where
        positive : (m : ℕ) → nat_lt 0 (suc m) ≡ true
        positive m = grind (arith, nat_tests)

        kept : (c : Bool) →
            first_reloads (suc n) (cond c (Reload d ∷ filter (is_allowed t) rest) (filter (is_allowed t) rest))
            ≡ behind_it t (suc n) (Reload d) rest (cond c (Some (suc n - 1)) None)
        kept true = let less : n ≡ suc n - 1 = omega arith in ap (λ (k : ℕ). Reload d ∷ fitted_within t k rest) less
        kept false = refl

module _ (t : VehicleType) (visits done : List Visit) (left at : ℕ) (v d : Visit) (inside : at < length visits) (is : get_or visits at d ≡ v) where
  next : (o : Option ℕ) → left_behind t left v ≡ o → fitted_within t left (drop at visits) ≡ behind_it t left v (drop (at + 1) visits) o
  next o e =
      at_drop_more (fitted_within t left) visits at d inside
      ∙ (ap (λ (w : Visit). fitted_within t left (w ∷ drop (at + 1) visits)) is
      ∙ (fitted-step t left v (drop (at + 1) visits) ∙ ap (behind_it t left v (drop (at + 1) visits)) e))

  -- a visit that stays
  pub fitted-kept : (fewer : ℕ) → left_behind t left v ≡ Some fewer →
      done ++ fitted_within t left (drop at visits) ≡ (done ++ v ∷ []) ++ fitted_within t fewer (drop (at + 1) visits)
  fitted-kept fewer e = ap (λ (xs : List Visit). done ++ xs) (next (Some fewer) e) ∙ sym (append_assoc done (v ∷ []) (fitted_within t fewer (drop (at + 1) visits)))

  -- and one that goes
  pub fitted-gone : left_behind t left v ≡ None → done ++ fitted_within t left (drop at visits) ≡ done ++ fitted_within t left (drop (at + 1) visits)
  fitted-gone e = ap (λ (xs : List Visit). done ++ xs) (next None e)
