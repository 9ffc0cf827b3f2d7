-- Two plans differ in the same number, whichever comes first.
use Rattle.std.proofs.Common.{◌≡◌, ℕ, ◌+◌, Bool, not, cond, List, [], ◌∷◌, refl, sym, ◌∙◌, ap, ap₂, arith}
use Rattle.std.specs.Prelude.{◌==◌, count_by}
use Rattle.std.proofs.lemmas.Bool.Decides.{nat_tests}
use Rattle.std.proofs.lemmas.List.Sums.{sum_by-cons}
use Rattle.problem_data.specs.Places.{client_places}
use Rattle.genetic_model.specs.BrokenPairs.{Neighbour, client, depot, none, Side, left, right, is_same_neighbour, neighbour_of, triples}
use Rattle.plan_differences.specs.Laws.{BrokenPairsAreMutual}

same-number : (m n : ℕ) → (m == n) ≡ (n == m)
same-number m n = grind (arith, nat_tests)

same-both : (x y : Neighbour) → is_same_neighbour x y ≡ is_same_neighbour y x
same-both (client c) (client d) = same-number c d
same-both (client c) depot = refl
same-both (client c) none = refl
same-both depot (client d) = refl
same-both depot depot = refl
same-both depot none = refl
same-both none (client d) = refl
same-both none depot = refl
same-both none none = refl

-- tests that agree count alike
pub count-alike : (f g : ℕ → Bool) → ((c : ℕ) → f c ≡ g c) → (xs : List ℕ) → count_by f xs ≡ count_by g xs
count-alike f g same [] = refl
count-alike f g same (x ∷ xs) =
    sum_by-cons (λ c. cond (f c) 1 0) x xs
    ∙ (ap₂ (λ (b : Bool) (n : ℕ). cond b 1 0 + n) (same x) (count-alike f g same xs) ∙ sym (sum_by-cons (λ c. cond (g c) 1 0) x xs))

pub pairs-mutual : BrokenPairsAreMutual
pairs-mutual p a b = ap₂ (λ (m n : ℕ). m + n) (on left) (on right)
  where
    on : (side : Side) → count_by (λ c. not (is_same_neighbour (neighbour_of (triples a) side c) (neighbour_of (triples b) side c))) (client_places p)
        ≡ count_by (λ c. not (is_same_neighbour (neighbour_of (triples b) side c) (neighbour_of (triples a) side c))) (client_places p)
    on side = count-alike _ _ (λ c. ap not (same-both (neighbour_of (triples a) side c) (neighbour_of (triples b) side c))) (client_places p)
