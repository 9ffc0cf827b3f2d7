-- An operator may read the legs between the visits of two tails, where the profiles differ.
use Rattle.std.proofs.Common.{◌≡◌, ◌≢◌, ℕ, ◌+◌, ◌-◌, ◌*◌, ◌≤◌, Bool, false, ◌||◌, ◌⊎◌, inl, inr, cond, not, [], ◌∷◌, length, sym, ap, arith}
use Rattle.std.specs.Prelude.{nat_eq}
use Rattle.std.proofs.lemmas.Bool.{cases_eq}
use Rattle.std.proofs.lemmas.List.Sums.{sum_by-cons}
use Rattle.problem_data.specs.declared.problem.Problem.{Problem}
use Rattle.routing_model.specs.Routes.{Routes, list_at}
use Rattle.gain_model.specs.CandidateVehicles.{both, longest_list, visits_together}
use Rattle.gain_model.specs.MoveReads.{move_reads, profile_of}
use Rattle.gain_model.specs.RouteReads.{run_reads}
use Rattle.gain_model.proofs.StandsOnce.{other_test, same_test}

-- two vehicles
pub both-vehicles : (a b : ℕ) → b ≢ a → both (a ∷ []) (b ∷ []) ≡ a ∷ b ∷ []
both-vehicles a b apart = ap (λ (t : Bool). a ∷ cond (not (t || false)) (b ∷ []) []) (other_test b a apart)

together-two : (routes : Routes) (a b : ℕ) → visits_together routes (a ∷ b ∷ []) ≡ length (list_at routes a) + length (list_at routes b)
together-two routes a b =
    let first = sum_by-cons (λ v. length (list_at routes v)) a (b ∷ []) in
    let second = sum_by-cons (λ v. length (list_at routes v)) b [] in
    omega arith

-- by two profiles: so many visits may come to each vehicle
by-profiles : (x y m n runs all : ℕ) → m + n ≤ all →
    12 + cond (nat_eq y x) 0 m + cond (nat_eq x y) 0 n + 8 ≤ (100 + 4 * runs + cond (not (nat_eq y x) || false) (2 * all) 0) - 24
by-profiles x y m n runs all fits = by (cases_eq y x)
  where
    by : (y ≡ x) ⊎ (y ≢ x) → 12 + cond (nat_eq y x) 0 m + cond (nat_eq x y) 0 n + 8 ≤ (100 + 4 * runs + cond (not (nat_eq y x) || false) (2 * all) 0) - 24
    by (inl e) = rw (same_test y x e, same_test x y (sym e)) (omega arith)
    by (inr other) = rw (other_test y x other, other_test x y (λ e. other (sym e))) (omega arith)

pub tail-room : (p : Problem) (routes : Routes) (a b m n : ℕ) → m ≤ length (list_at routes b) → n ≤ length (list_at routes a) →
    12 + cond (nat_eq (profile_of p b) (profile_of p a)) 0 m + cond (nat_eq (profile_of p a) (profile_of p b)) 0 n + 8 ≤ move_reads p routes (a ∷ b ∷ []) - 24
tail-room p routes a b m n few few' =
    let all = together-two routes a b in
    by-profiles (profile_of p a) (profile_of p b) m n (run_reads (longest_list routes (a ∷ b ∷ []) + 1)) (visits_together routes (a ∷ b ∷ [])) (omega (arith, all, few, few'))
