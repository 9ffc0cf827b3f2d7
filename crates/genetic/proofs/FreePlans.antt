-- Plans without excess.
use Rattle.std.proofs.Common.{◌≡◌, ◌==◌, ◌&&◌, ◌∙◌, ℕ, zero, suc, Bool, ap, arith, refl, subst, sym}
use Rattle.std.specs.Prelude.{IsTrue, pos}
use Rattle.std.specs.Ordering.{int_eq}
use Rattle.std.proofs.lemmas.Int.{ints}
use Rattle.problem_data.specs.declared.problem.Problem.{Problem}
use Rattle.routing_model.specs.declared.weights.Assessment.{Assessment}
use Rattle.routing_model.specs.Feasible.{assessment, is_feasible, total_excess_distance, total_excess_load, total_excess_time}
use Rattle.routing_model.specs.Lawful.{is_lawful}
use Rattle.routing_model.specs.Routes.{Routes}

-- nothing is exceeded
abbrev pub is_free : Assessment → Bool
is_free a = int_eq a.load (pos 0) && int_eq a.warp (pos 0) && int_eq a.distance (pos 0)

none-of : (n : ℕ) → int_eq (pos n) (pos 0) ≡ (n == 0)
none-of zero = refl
none-of (suc n) = grind (arith, ints)

-- a lawful plan is feasible where nothing is exceeded
pub free-is_feasible : (p : Problem) (routes : Routes) → IsTrue (is_lawful p routes) → is_free (assessment p routes) ≡ is_feasible p routes
free-is_feasible p routes lawful =
    let load = total_excess_load p routes in
    let warp = total_excess_time p routes in
    let distance = total_excess_distance p routes in
    subst (λ (b : Bool). is_free (assessment p routes) ≡ (b && (load == 0) && (warp == 0) && (distance == 0))) (sym lawful)
    (λ i. none-of load i && none-of warp i && none-of distance i)

-- so it is where its assessment says so
pub is_feasible-by : (p q : Problem) (routes : Routes) (excess : Assessment) (b : Bool) → IsTrue (is_lawful p routes) → q ≡ p →
    excess ≡ assessment q routes → b ≡ is_free excess → is_feasible p routes ≡ b
is_feasible-by p q routes excess b lawful same known asked =
    sym (free-is_feasible p routes lawful) ∙ ap (λ (x : Problem). is_free (assessment x routes)) (sym same) ∙ ap is_free (sym known) ∙ sym asked
