-- A plan that a candidate gives is lawful and costs less.
use Rattle.std.proofs.Common.{◌≡◌, ◌∙◌, ℕ, ◌<◌, Bool, true, false, cond, Option, Some, None, refl, ap, subst, arith}
use Rattle.std.specs.Prelude.{nat_lt, option_and_then}
use Rattle.std.proofs.lemmas.Bool.Decides.{nat_tests}
use Rattle.problem_data.specs.declared.problem.Problem.{Problem}
use Rattle.routing_model.specs.declared.weights.Weights.{Weights}
use Rattle.routing_model.specs.Cost.{solution_cost}
use Rattle.routing_model.specs.Lawful.{is_lawful}
use Rattle.routing_model.specs.Routes.{Routes}
use Rattle.routing_model.specs.Tidy.{tidied_routes}
use Rattle.search_model.specs.declared.candidate.Candidate.{Candidate}
use Rattle.search_model.specs.Moves.{if_lawful, made, moved}
use Rattle.gain_model.specs.Operators.{bettered}

lawful_if : (p : Problem) (x m : Routes) (t : Bool) → is_lawful p (tidied_routes x) ≡ t → cond t (Some (tidied_routes x)) None ≡ Some m → is_lawful p m ≡ true
lawful_if p x m true l k = let s : tidied_routes x ≡ m = cc in subst (λ (z : Routes). is_lawful p z ≡ true) s l
lawful_if p x m false l k = cc

lawful_made : (p : Problem) (m : Routes) (o : Option Routes) → option_and_then (if_lawful p) o ≡ Some m → is_lawful p m ≡ true
lawful_made p m None h = cc
lawful_made p m (Some x) h = lawful_if p x m (is_lawful p (tidied_routes x)) refl h

is_less : (k n : ℕ) → nat_lt k n ≡ true → k < n
is_less k n h = grind (arith, nat_tests)

-- the plan, and that it costs less and is lawful
pub record IsBetter (p : Problem) (w : Weights) (plan : Routes) (c : Candidate) (m : Routes) : Type 0 where
  pub is : moved p w plan c ≡ Some m
  pub less : solution_cost p w m < solution_cost p w plan
  pub lawful : is_lawful p m ≡ true

pick : (p : Problem) (w : Weights) (plan m x : Routes) (c : Candidate) → moved p w plan c ≡ Some x → (t : Bool) → nat_lt (solution_cost p w x) (solution_cost p w plan) ≡ t →
    cond t (Some x) None ≡ Some m → IsBetter p w plan c m
pick p w plan m x c k true l h = let s : x ≡ m = cc in
    record {
      is = k ∙ ap (λ (z : Routes). Some z) s;
      less = subst (λ (z : Routes). solution_cost p w z < solution_cost p w plan) s (is_less (solution_cost p w x) (solution_cost p w plan) l);
      lawful = lawful_made p m (made p w plan c) (k ∙ ap (λ (z : Routes). Some z) s);
    }
pick p w plan m x c k false l h = absurd (none h)
  where
    none : None ≡ Some m → ⊥
    none h = cc

pub better : (p : Problem) (w : Weights) (plan : Routes) (c : Candidate) (m : Routes) → bettered p w plan c ≡ Some m → IsBetter p w plan c m
better p w plan c m e = by (moved p w plan c) refl e
  where
    by : (o : Option Routes) → moved p w plan c ≡ o →
        option_and_then (λ (x : Routes). cond (nat_lt (solution_cost p w x) (solution_cost p w plan)) (Some x) None) o ≡ Some m → IsBetter p w plan c m
    by None k h = absurd (none h)
      where
        none : None ≡ Some m → ⊥
        none h = cc
    by (Some x) k h = pick p w plan m x c k (nat_lt (solution_cost p w x) (solution_cost p w plan)) refl h
