-- What a used vehicle costs, by its totals.
use Rattle.std.proofs.Common.{◌≡◌, ◌+◌, ◌-◌, ◌*◌, ◌<◌, Bool, true, false, cond, List, [], ◌∷◌, length, refl, sym, ◌∙◌, ap, arith}
use Rattle.std.specs.Prelude.{◌≤◌, nat_eq, not, suc, ℕ, if◌then◌else◌}
use Rattle.std.proofs.lemmas.Bool.Decides.{nat_tests}
use Rattle.problem_data.specs.declared.problem.Problem.{Problem}
use Rattle.problem_data.specs.declared.problem.VehicleType.{VehicleType}
use Rattle.problem_data.specs.declared.visit.Visit.{Visit}
use Rattle.problem_data.specs.declared.visit.Visit.TheVariants.{Client, Reload}
use Rattle.routing_model.specs.declared.weights.Weights.{Weights}
use Rattle.routing_model.specs.Cost.{excess_time, route_cost, used_cost}
use Rattle.routing_model.specs.Routes.{is_used}
use Rattle.routing_model.specs.Tidy.{is_tidy}
use Rattle.penalty_cost.specs.declared.totals.Totals.{Totals}
use Rattle.joined_views.specs.Views.{is_some_list}
use Rattle.penalty_cost.specs.inside.Totals.{AreTotals, cost_of}

-- a tidy list that isn't empty has a client
pub tidy-used : (visits : List Visit) → 0 < length visits → is_tidy visits ≡ true → is_used visits ≡ true
tidy-used [] some tidy = absurd (omega arith)
tidy-used (Client place ∷ rest) some tidy = refl
tidy-used (Reload depot ∷ rest) some tidy = cc

used_cost-is : (p : Problem) (t : VehicleType) (visits : List Visit) (w : Weights) (totals : Totals) → AreTotals p t visits totals → cost_of w t totals ≡ used_cost p w t visits
used_cost-is p t visits w totals h = λ i.
    t.fixed + t.unit_distance * h.distance i + t.unit_duration * h.duration i
    + w.load * h.excess_load i + w.warp * excess_time t (record { duration = h.duration i; warp = h.warp i }) + w.distance * (h.distance i - t.max_distance)

pub route_cost-is : (p : Problem) (t : VehicleType) (visits : List Visit) (w : Weights) (totals : Totals) → 0 < length visits → is_tidy visits ≡ true →
    AreTotals p t visits totals → cost_of w t totals ≡ route_cost p w t visits
route_cost-is p t visits w totals some tidy h =
    used_cost-is p t visits w totals h ∙ ap (λ (b : Bool). cond b (used_cost p w t visits) 0) (sym (tidy-used visits some tidy))

-- a tidy list costs at least what a vehicle costs to use, where it isn't empty
pub least-is : (p : Problem) (t : VehicleType) (visits : List Visit) (w : Weights) → is_tidy visits ≡ true → (if is_some_list visits then t.fixed else 0) ≤ route_cost p w t visits
least-is p t [] w tidy = omega arith
least-is p t (visit ∷ rest) w tidy =
    let used = tidy-used (visit ∷ rest) (omega arith) tidy in
    rw used (omega arith)

-- an empty list costs nothing
pub route_cost-none : (p : Problem) (t : VehicleType) (visits : List Visit) (w : Weights) → is_some_list visits ≡ false → 0 ≡ route_cost p w t visits
route_cost-none p t [] w h = refl
route_cost-none p t (visit ∷ rest) w h = absurd (never h)
  where
    never : true ≡ false → ⊥
    never h = cc

pub some-list : (visits : List Visit) → is_some_list visits ≡ true → 0 < length visits
some-list [] h = cc
some-list (visit ∷ rest) h = omega arith

-- a list isn't empty where its length isn't 0
pub not-empty : (visits : List Visit) → not (nat_eq (length visits) 0) ≡ is_some_list visits
not-empty [] = refl
not-empty (visit ∷ rest) = some (length rest)
  where
    some : (n : ℕ) → not (nat_eq (suc n) 0) ≡ true
    some n = grind (arith, nat_tests)
