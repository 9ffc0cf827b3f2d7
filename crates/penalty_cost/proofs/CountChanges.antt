-- How often a plan visits a client where the lists of one vehicle, or of two, are replaced.
use Rattle.std.proofs.Common.{◌≡◌, ◌≢◌, ℕ, zero, suc, ◌+◌, ◌<◌, ◌≤◌, Bool, true, false, ◌||◌, ◌⊎◌, inl, inr, List, [], ◌∷◌, length, get_or, set, refl, sym, ◌∙◌, ap, arith, length-set}
use Rattle.std.specs.Prelude.{IsFalse, IsTrue, nat_le, sum_by}
use Rattle.std.specs.List.{list_any}
use Rattle.std.proofs.lemmas.Bool.Decides.{nat_tests}
use Rattle.std.proofs.lemmas.Grind.{get_or-set_at}
use Rattle.std.proofs.lemmas.List.{get_or-set_other}
use Rattle.std.proofs.lemmas.List.Sums.{sum_by-cons, sum_by-set}
use Rattle.std.proofs.lemmas.Option.{unwrap_or-slice_get}
use Rattle.list_words.specs.Lists.{is_in}
use Rattle.problem_data.specs.declared.visit.Visit.{Visit}
use Rattle.routing_model.specs.Routes.{Routes, has_client, list_at, visit_count}
use Rattle.routing_model.proofs.VisitCounts.{has_client-count}
use Rattle.penalty_cost.proofs.PrizeChanges.{times}

-- a sum of nothing but zeros
zeros : (f : List Visit → ℕ) (routes : Routes) → ((k : ℕ) → k < length routes → f (get_or routes k []) ≡ 0) → sum_by f routes ≡ 0
zeros f [] each = refl
zeros f (x ∷ xs) each =
    let s = sum_by-cons f x xs in
    let first = each 0 (omega arith) in
    let rest = zeros f xs (λ k h. each (suc k) (omega arith)) in
    omega arith

-- a list without a client visits it never
none-times : (c : ℕ) (visits : List Visit) → IsFalse (has_client c visits) → times c visits ≡ 0
none-times c visits h = none (times c visits) (sym (has_client-count c visits) ∙ h)
  where
    none : (n : ℕ) → nat_le 1 n ≡ false → n ≡ 0
    none n h = grind (arith, nat_tests)

some-times : (c : ℕ) (visits : List Visit) → 1 ≤ times c visits → has_client c visits ≡ true
some-times c visits h = has_client-count c visits ∙ some (times c visits) h
  where
    some : (n : ℕ) → 1 ≤ n → nat_le 1 n ≡ true
    some n h = grind (arith, nat_tests)

either-way : (n : ℕ) → (n ≡ 0) ⊎ (1 ≤ n)
either-way n = grind arith

same-or-not : (i j : ℕ) → (i ≡ j) ⊎ (i ≢ j)
same-or-not zero zero = inl refl
same-or-not zero (suc j) = inr (λ e. omega arith)
same-or-not (suc i) zero = inr (λ e. omega arith)
same-or-not (suc i) (suc j) = elim (same-or-not i j) as (λ _. (suc i ≡ suc j) ⊎ (suc i ≢ suc j)) [ inl e ↦ inl (ap suc e) | inr d ↦ inr (λ e. d (omega arith)) ]

not-in-one : (i k : ℕ) → k ≢ i → IsFalse (is_in (i ∷ []) k)
not-in-one i k apart = grind (arith, nat_tests)

not-in-two : (i j k : ℕ) → k ≢ i → k ≢ j → IsFalse (is_in (i ∷ j ∷ []) k)
not-in-two i j k apart other = grind (arith, nat_tests)

is-list : (routes : Routes) (k : ℕ) → get_or routes k [] ≡ list_at routes k
is-list routes k = sym (unwrap_or-slice_get routes k [])

module _ (routes : Routes) (once : (client : ℕ) → visit_count routes client ≤ 1) (i : ℕ) (xs : List Visit) (inside : i < length routes) where
  -- one list replaced
  pub once-one : ((client : ℕ) → visit_count (xs ∷ []) client ≤ 1) →
      ((client vehicle : ℕ) → IsTrue (list_any (has_client client) (xs ∷ [])) → IsFalse (is_in (i ∷ []) vehicle) → IsFalse (has_client client (list_at routes vehicle))) →
      (client : ℕ) → visit_count (set routes i xs) client ≤ 1
  once-one once_new elsewhere c =
      let changed = sum_by-set (times c) routes i xs [] inside in
      let now = once c in
      let new = once_new c in
      let sum = sum_by-cons (times c) xs [] in
      elim (either-way (times c xs)) as (λ _. visit_count (set routes i xs) c ≤ 1) [
        | inl none ↦ omega arith
        | inr some ↦
            let emptied = sum_by-set (times c) routes i [] [] inside in
            let nothing = zeros (times c) (set routes i []) (λ k h. elsewhere_none k h (there c some)) in
            omega arith
      ]
    where
      there : (c : ℕ) → 1 ≤ times c xs → IsTrue (list_any (has_client c) (xs ∷ []))
      there c some = first (has_client c xs) (some-times c xs some)
        where
          first : (b : Bool) → b ≡ true → IsTrue (b || false)
          first b h = cc

      elsewhere_none : (k : ℕ) → k < length (set routes i []) → IsTrue (list_any (has_client c) (xs ∷ [])) → times c (get_or (set routes i []) k []) ≡ 0
      elsewhere_none k h some = elim (same-or-not k i) as (λ _. times c (get_or (set routes i []) k []) ≡ 0) [
        | inl same ↦ ap (times c) (get_or-set_at routes i k [] [] same inside)
        | inr apart ↦ ap (times c) (get_or-set_other routes i k [] [] apart ∙ is-list routes k) ∙ none-times c (list_at routes k) (elsewhere c k some (not-in-one i k apart))
      ]

  -- two lists replaced
  module _ (j : ℕ) (ys : List Visit) (inside_other : j < length routes) (apart : j ≢ i) where
    pub once-two : ((client : ℕ) → visit_count (xs ∷ ys ∷ []) client ≤ 1) →
        ((client vehicle : ℕ) → IsTrue (list_any (has_client client) (xs ∷ ys ∷ [])) → IsFalse (is_in (i ∷ j ∷ []) vehicle) → IsFalse (has_client client (list_at routes vehicle))) →
        (client : ℕ) → visit_count (set (set routes i xs) j ys) client ≤ 1
    once-two once_new elsewhere c =
        let long = length-set routes i xs in
        let long_other : j < length (set routes i xs) = omega arith in
        let changed = sum_by-set (times c) routes i xs [] inside in
        let changed_other = sum_by-set (times c) (set routes i xs) j ys [] long_other in
        let kept : times c (get_or (set routes i xs) j []) ≡ times c (get_or routes j []) = ap (times c) (get_or-set_other routes i j xs [] apart) in
        let now = once c in
        let new = once_new c in
        let sum = sum_by-cons (times c) xs (ys ∷ []) in
        let sum_rest = sum_by-cons (times c) ys [] in
        elim (either-way (times c xs + times c ys)) as (λ _. visit_count (set (set routes i xs) j ys) c ≤ 1) [
          | inl none ↦ omega arith
          | inr some ↦
              let long_empty = length-set routes i [] in
              let long_empty_other : j < length (set routes i []) = omega arith in
              let emptied = sum_by-set (times c) routes i [] [] inside in
              let emptied_other = sum_by-set (times c) (set routes i []) j [] [] long_empty_other in
              let kept_empty : times c (get_or (set routes i []) j []) ≡ times c (get_or routes j []) = ap (times c) (get_or-set_other routes i j [] [] apart) in
              let nothing = zeros (times c) (set (set routes i []) j []) (λ k h. elsewhere_none k long_empty_other (there some)) in
              omega arith
        ]
      where
        there : 1 ≤ times c xs + times c ys → IsTrue (list_any (has_client c) (xs ∷ ys ∷ []))
        there some = elim (either-way (times c xs)) as (λ _. IsTrue (list_any (has_client c) (xs ∷ ys ∷ []))) [
          | inl none ↦ second (has_client c xs) (has_client c ys) (some-times c ys (omega arith))
          | inr one ↦ first (has_client c xs) (has_client c ys) (some-times c xs one)
        ]
          where
            first : (a b : Bool) → a ≡ true → IsTrue (a || (b || false))
            first a b h = cc

            second : (a b : Bool) → b ≡ true → IsTrue (a || (b || false))
            second true b h = refl
            second false true h = refl
            second false false h = cc

        elsewhere_none : (k : ℕ) → j < length (set routes i []) → IsTrue (list_any (has_client c) (xs ∷ ys ∷ [])) → times c (get_or (set (set routes i []) j []) k []) ≡ 0
        elsewhere_none k long some = elim (same-or-not k j) as (λ _. times c (get_or (set (set routes i []) j []) k []) ≡ 0) [
          | inl same ↦ ap (times c) (get_or-set_at (set routes i []) j k [] [] same long)
          | inr other ↦ elim (same-or-not k i) as (λ _. times c (get_or (set (set routes i []) j []) k []) ≡ 0) [
            | inl same ↦ ap (times c) (get_or-set_other (set routes i []) j k [] [] other ∙ get_or-set_at routes i k [] [] same inside)
            | inr away ↦ ap (times c) (get_or-set_other (set routes i []) j k [] [] other ∙ (get_or-set_other routes i k [] [] away ∙ is-list routes k))
                ∙ none-times c (list_at routes k) (elsewhere c k some (not-in-two i j k away other))
          ]
        ]
