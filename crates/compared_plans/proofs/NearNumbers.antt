-- The numbers of a plan with the others of its list, with one plan more or less.
use Rattle.std.proofs.Common.{◌≡◌, ◌∙◌, ℕ, zero, suc, ◌+◌, ◌<◌, ◌≤◌, ◌⊎◌, inl, inr, Bool, true, false, cond, List, [], ◌∷◌, ◌++◌, length, map, get_or, take, refl, sym, ap, subst, arith}
use Rattle.std.specs.Prelude.{nat_lt, Contains, if◌then◌else◌}
use Rattle.std.specs.List.{insert, remove}
use Rattle.std.specs.List.Sorted.{IsPermutation}
use Rattle.std.proofs.lemmas.Bool.{cases_lt}
use Rattle.std.proofs.lemmas.Bool.Decides.{nat_tests}
use Rattle.std.proofs.lemmas.List.{append-nil, drop_all, get_or_append_left, length-map, map-append, take_more}
use Rattle.std.proofs.lemmas.List.Edits.{get_or-insert_above, get_or-insert_below, length-remove, remove-append_left}
use Rattle.std.proofs.lemmas.List.Sorted.{IsPermutation-insert, IsPermutation-map}
use Rattle.list_words.specs.Order.{put_in_order, sorted_by}
use Rattle.list_words.proofs.Sorting.{length-sorted}
use Rattle.problem_data.specs.declared.problem.Problem.{Problem}
use Rattle.routing_model.specs.Routes.{Routes}
use Rattle.genetic_model.specs.BrokenPairs.{broken_pairs}
use Rattle.genetic_model.specs.Fitness.{item_at, nearest}
use Rattle.sorted_numbers.proofs.SortedLists.{numbers-total, sorted-more, sorted-same}

suc-is : (n : ℕ) → suc n ≡ n + 1
suc-is n = omega arith

-- a list without one item, where another was put in
remove-below : {X : Type 0} (xs : List X) (k place : ℕ) (r : X) → k ≤ place → k < length xs → remove (insert xs (suc place) r) k ≡ insert (remove xs k) place r
remove-below [] k place r order inside = absurd (let h : ⊥ = omega arith in h)
remove-below (x ∷ xs) zero place r order inside = refl
remove-below (x ∷ xs) (suc k) zero r order inside = absurd (let h : ⊥ = omega arith in h)
remove-below (x ∷ xs) (suc k) (suc place) r order inside = ap (λ (ys : List _). x ∷ ys) (remove-below xs k place r (omega arith) (omega arith))

remove-above : {X : Type 0} (xs : List X) (k place : ℕ) (r : X) → place ≤ k → k < length xs → remove (insert xs place r) (suc k) ≡ insert (remove xs k) place r
remove-above [] k place r order inside = absurd (let h : ⊥ = omega arith in h)
remove-above (x ∷ xs) k zero r order inside = refl
remove-above (x ∷ xs) zero (suc place) r order inside = absurd (let h : ⊥ = omega arith in h)
remove-above (x ∷ xs) (suc k) (suc place) r order inside = ap (λ (ys : List _). x ∷ ys) (remove-above xs k place r (omega arith) (omega arith))

-- and put back, it is as before
pub put-back : {X : Type 0} (xs : List X) (k : ℕ) (d : X) → k < length xs → insert (remove xs k) k (get_or xs k d) ≡ xs
put-back [] k d inside = absurd (let h : ⊥ = omega arith in h)
put-back (x ∷ xs) zero d inside = refl
put-back (x ∷ xs) (suc k) d inside = ap (λ (ys : List _). x ∷ ys) (put-back xs k d (omega arith))

-- where the k-th item stands when another one is put in
abbrev pub behind : ℕ → ℕ → ℕ
behind place k = if nat_lt k place then k else k + 1

lt-true : (m n : ℕ) → m < n → nat_lt m n ≡ true
lt-true m n h = grind (arith, nat_tests)

lt-false : (m n : ℕ) → n ≤ m → nat_lt m n ≡ false
lt-false m n h = grind (arith, nat_tests)

-- the others are those without it, and the new one
others-with : (plans : List Routes) (gone : Routes) (place k : ℕ) → place ≤ length plans → k < length plans → IsPermutation (gone ∷ remove plans k) (remove (insert plans place gone) (behind place k))
others-with plans gone place k fits inside = by place (cases_lt k place)
  where
    by : (at : ℕ) → (k < at) ⊎ (at ≤ k) → IsPermutation (gone ∷ remove plans k) (remove (insert plans at gone) (behind at k))
    by zero (inl h) = absurd (let l : ⊥ = omega arith in l)
    by (suc at) (inl h) =
        subst (λ (xs : List Routes). IsPermutation (gone ∷ remove plans k) xs)
        (sym (ap (λ (b : Bool). remove (insert plans (suc at) gone) (cond b k (k + 1))) (lt-true k (suc at) h) ∙ remove-below plans k at gone (omega arith) inside)) (IsPermutation-insert (remove plans k) at gone)
    by at (inr h) =
        subst (λ (xs : List Routes). IsPermutation (gone ∷ remove plans k) xs)
        (sym (ap (λ (b : Bool). remove (insert plans at gone) (cond b k (k + 1))) (lt-false k at h)
        ∙ (ap (λ (n : ℕ). remove (insert plans at gone) n) (sym (suc-is k)) ∙ remove-above plans k at gone h inside)))
        (IsPermutation-insert (remove plans k) at gone)

item-with : (plans : List Routes) (gone : Routes) (place k : ℕ) → place ≤ length plans → k < length plans → item_at (insert plans place gone) (behind place k) ≡ item_at plans k
item-with plans gone place k fits inside = by (cases_lt k place)
  where
    by : (k < place) ⊎ (place ≤ k) → item_at (insert plans place gone) (behind place k) ≡ item_at plans k
    by (inl h) = ap (λ (b : Bool). item_at (insert plans place gone) (cond b k (k + 1))) (lt-true k place h) ∙ get_or-insert_below plans place gone [] k h fits
    by (inr h) = ap (λ (b : Bool). item_at (insert plans place gone) (cond b k (k + 1))) (lt-false k place h) ∙ get_or-insert_above plans place gone [] k h fits

module _ (p : Problem) where
  -- with a plan at a place, its number is one of them
  pub nearest-with : (plans : List Routes) (gone : Routes) (place k : ℕ) → place ≤ length plans → k < length plans →
      nearest p (insert plans place gone) (behind place k) ≡ put_in_order nat_lt (broken_pairs p (item_at plans k) gone) (nearest p plans k)
  nearest-with plans gone place k fits inside =
      ap (λ (r : Routes). sorted_by nat_lt (map (broken_pairs p r) (remove (insert plans place gone) (behind place k)))) (item-with plans gone place k fits inside)
      ∙ sorted-same (map (broken_pairs p (item_at plans k)) (gone ∷ remove plans k)) (map (broken_pairs p (item_at plans k)) (remove (insert plans place gone) (behind place k)))
      (IsPermutation-map (broken_pairs p (item_at plans k)) (gone ∷ remove plans k) (remove (insert plans place gone) (behind place k)) (others-with plans gone place k fits inside))

  -- with a plan more at the end
  pub nearest-more : (plans : List Routes) (r : Routes) (k : ℕ) → k < length plans →
      put_in_order nat_lt (broken_pairs p (item_at plans k) r) (nearest p plans k) ≡ nearest p (plans ++ r ∷ []) k
  nearest-more plans r k inside =
      sorted-more (map (broken_pairs p (item_at plans k)) (remove plans k)) (broken_pairs p (item_at plans k) r)
      ∙ (ap (sorted_by nat_lt)
      (sym (map-append (broken_pairs p (item_at plans k)) (remove plans k) (r ∷ [])) ∙ ap (map (broken_pairs p (item_at plans k))) (sym (remove-append_left plans (r ∷ []) k inside)))
      ∙ ap (λ (x : Routes). sorted_by nat_lt (map (broken_pairs p x) (remove (plans ++ r ∷ []) k))) (sym (get_or_append_left plans (r ∷ []) [] k inside)))

  -- the numbers of the last plan
  pub nearest-last : (plans : List Routes) (last : ℕ) → length plans ≡ last + 1 → sorted_by nat_lt (map (broken_pairs p (item_at plans last)) (take last plans)) ≡ nearest p plans last
  nearest-last plans last long =
      ap (λ (xs : List Routes). sorted_by nat_lt (map (broken_pairs p (item_at plans last)) xs))
      (sym (append-nil (take last plans)) ∙ ap (λ (xs : List Routes). take last plans ++ xs) (sym (drop_all (suc last) plans (omega arith))))

  -- the numbers of a plan with some others, one more
  pub numbers-more : (plans : List Routes) (r : Routes) (k : ℕ) → k < length plans →
      put_in_order nat_lt (broken_pairs p r (item_at plans k)) (sorted_by nat_lt (map (broken_pairs p r) (take k plans))) ≡ sorted_by nat_lt (map (broken_pairs p r) (take (k + 1) plans))
  numbers-more plans r k inside =
      sorted-more (map (broken_pairs p r) (take k plans)) (broken_pairs p r (item_at plans k))
      ∙ ap (sorted_by nat_lt) (sym (map-append (broken_pairs p r) (take k plans) (item_at plans k ∷ [])) ∙ ap (map (broken_pairs p r)) (sym (take_more plans k [] inside)))

  -- how many numbers there are
  pub nearest-few : (plans : List Routes) (k : ℕ) → k < length plans → length (nearest p plans k) + 1 ≡ length plans
  nearest-few plans k inside =
      ap (λ (n : ℕ). n + 1) (length-sorted nat_lt numbers-total (map (broken_pairs p (item_at plans k)) (remove plans k)) ∙ length-map (remove plans k) (broken_pairs p (item_at plans k)))
      ∙ length-remove plans k inside

-- a number that was put in is there
pub put-there : (x : ℕ) (ys : List ℕ) → Contains (put_in_order nat_lt x ys) x
put-there x [] = (0, omega arith, refl)
put-there x (y ∷ ys) = by (nat_lt y x) (put-there x ys)
  where
    by : (b : Bool) → Contains (put_in_order nat_lt x ys) x → Contains (cond b (y ∷ put_in_order nat_lt x ys) (x ∷ y ∷ ys)) x
    by true h = (suc h.0, (let l = h.1 in omega arith), h.2)
    by false h = (0, omega arith, refl)
