-- Numbers of items, one comparison more.
use Rattle.std.proofs.Common.{◌≡◌, ◌≢◌, ◌∙◌, ℕ, zero, suc, ◌+◌, ◌<◌, ◌≤◌, ◌⊎◌, inl, inr, Bool, true, false, cond, List, [], ◌∷◌, ◌++◌, length, map, get_or, take, refl, sym, ap, ap₂, subst, arith}
use Rattle.std.specs.Prelude.{nat_lt, IsTrue}
use Rattle.std.specs.List.{insert, remove}
use Rattle.std.proofs.lemmas.Bool.{cases_eq, cases_lt}
use Rattle.std.proofs.lemmas.Bool.Decides.{nat_tests}
use Rattle.std.proofs.lemmas.List.{get_or-take, get_or_append_left, get_or_push, length-append, length-map, length-take, take_all, take_at, take_more}
use Rattle.std.proofs.lemmas.List.Edits.{get_or-remove_above, get_or-remove_below, length-remove}
use Rattle.list_words.specs.Order.{put_in_order, sorted_by}
use Rattle.list_words.proofs.Sorting.{length-sorted}
use Rattle.problem_data.specs.declared.problem.Problem.{Problem}
use Rattle.routing_model.specs.Lawful.{is_lawful}
use Rattle.routing_model.specs.Routes.{Routes}
use Rattle.genetic_model.specs.BrokenPairs.{broken_pairs}
use Rattle.genetic_model.specs.Fitness.{item_at, nearest}
use Rattle.plan_differences.specs.Beside.{AreFlanks}
use Rattle.plan_differences.proofs.MutualPairs.{pairs-mutual}
use Rattle.sorted_numbers.proofs.SortedLists.{numbers-total}
use Rattle.compared_plans.specs.declared.item.ComparedPlan.{ComparedPlan}
use Rattle.compared_plans.specs.Compared.{AreComparedBy, IsComparedPlan, plans_in}
use Rattle.compared_plans.specs.inside.Numbers.{near_while_comparing, near_while_removing, with_numbers}
use Rattle.compared_plans.proofs.ComparedItems.{as-many, item-plan, same-item, with-other, with-same}
use Rattle.compared_plans.proofs.NearNumbers.{behind, nearest-few, nearest-last, nearest-more, nearest-with, numbers-more, put-back}

lt-true : (m n : ℕ) → m < n → nat_lt m n ≡ true
lt-true m n h = grind (arith, nat_tests)

lt-false : (m n : ℕ) → n ≤ m → nat_lt m n ≡ false
lt-false m n h = grind (arith, nat_tests)

-- while the last plan is compared with the others
module _ (p : Problem) (plans : List Routes) (last : ℕ) (long : length plans ≡ last + 1) where
  abbrev newest : Routes
  newest = item_at plans last

  whole : plans ≡ take last plans ++ newest ∷ []
  whole = sym (take_all (last + 1) plans (omega arith)) ∙ take_more plans last [] (omega arith)

  before : length (take last plans) ≡ last
  before = let l = length-take last plans in omega arith

  numbers-done : (at k : ℕ) → k < at → near_while_comparing p plans last at k ≡ nearest p plans k
  numbers-done at k h =
      ap (λ (b : Bool). cond b (nearest p plans k) (cond (nat_lt k last) (nearest p (take last plans) k) (sorted_by nat_lt (map (broken_pairs p newest) (take at plans))))) (lt-true k at h)

  pub numbers-left : (at k : ℕ) → at ≤ k → k < last → near_while_comparing p plans last at k ≡ nearest p (take last plans) k
  numbers-left at k h l =
      ap₂ (λ (b c : Bool). cond b (nearest p plans k) (cond c (nearest p (take last plans) k) (sorted_by nat_lt (map (broken_pairs p newest) (take at plans))))) (lt-false k at h) (lt-true k last l)

  pub numbers-newest : (at : ℕ) → at ≤ last → near_while_comparing p plans last at last ≡ sorted_by nat_lt (map (broken_pairs p newest) (take at plans))
  numbers-newest at h =
      ap₂ (λ (b c : Bool). cond b (nearest p plans last) (cond c (nearest p (take last plans) last) (sorted_by nat_lt (map (broken_pairs p newest) (take at plans))))) (lt-false last at h)
      (lt-false last last (omega arith))

  -- the numbers of a plan that is compared with the last one
  grown : (k : ℕ) → k < last → put_in_order nat_lt (broken_pairs p (item_at plans k) newest) (nearest p (take last plans) k) ≡ nearest p plans k
  grown k h =
      let inside : k < length (take last plans) = let b = before in omega arith in
      ap (λ (r : Routes). put_in_order nat_lt (broken_pairs p r newest) (nearest p (take last plans) k)) (sym (get_or-take last plans k [] h))
      ∙ (nearest-more p (take last plans) newest k inside ∙ ap (λ (ps : List Routes). nearest p ps k) (sym whole))

  module _ (at broken : ℕ) (inside : at < last) (is : broken ≡ broken_pairs p (item_at plans at) newest) where
    at-place : put_in_order nat_lt broken (near_while_comparing p plans last at at) ≡ near_while_comparing p plans last (at + 1) at
    at-place = ap₂ (λ (n : ℕ) (xs : List ℕ). put_in_order nat_lt n xs) is (numbers-left at at (omega arith) inside) ∙ (grown at inside ∙ sym (numbers-done (at + 1) at (omega arith)))

    at-last : put_in_order nat_lt broken (near_while_comparing p plans last at last) ≡ near_while_comparing p plans last (at + 1) last
    at-last =
        ap₂ (λ (n : ℕ) (xs : List ℕ). put_in_order nat_lt n xs) (is ∙ pairs-mutual p (item_at plans at) newest) (numbers-newest at (omega arith))
        ∙ (numbers-more p plans newest at (omega arith) ∙ sym (numbers-newest (at + 1) (omega arith)))

    elsewhere : (k : ℕ) → k ≢ at → k < last → near_while_comparing p plans last at k ≡ near_while_comparing p plans last (at + 1) k
    elsewhere k n h = by (cases_lt k at)
      where
        by : (k < at) ⊎ (at ≤ k) → near_while_comparing p plans last at k ≡ near_while_comparing p plans last (at + 1) k
        by (inl l) = numbers-done at k l ∙ sym (numbers-done (at + 1) k (omega arith))
        by (inr l) = numbers-left at k l h ∙ sym (numbers-left (at + 1) k (omega arith) h)

    -- both numbers are noted
    pub noted-both : (k : ℕ) → k < last + 1 →
        with_numbers (with_numbers (near_while_comparing p plans last at) at (put_in_order nat_lt broken (near_while_comparing p plans last at at))) last
        (put_in_order nat_lt broken (with_numbers (near_while_comparing p plans last at) at (put_in_order nat_lt broken (near_while_comparing p plans last at at)) last)) k
        ≡ near_while_comparing p plans last (at + 1) k
    noted-both k low = by (cases_eq k last)
      where
        apart : last ≢ at
        apart e = omega arith

        there : with_numbers (near_while_comparing p plans last at) at (put_in_order nat_lt broken (near_while_comparing p plans last at at)) last ≡ near_while_comparing p plans last at last
        there = with-other (near_while_comparing p plans last at) at (put_in_order nat_lt broken (near_while_comparing p plans last at at)) last apart

        by : (k ≡ last) ⊎ (k ≢ last) →
            with_numbers (with_numbers (near_while_comparing p plans last at) at (put_in_order nat_lt broken (near_while_comparing p plans last at at))) last
            (put_in_order nat_lt broken (with_numbers (near_while_comparing p plans last at) at (put_in_order nat_lt broken (near_while_comparing p plans last at at)) last)) k
            ≡ near_while_comparing p plans last (at + 1) k
        by (inl e) =
            ap (with_numbers (with_numbers (near_while_comparing p plans last at) at (put_in_order nat_lt broken (near_while_comparing p plans last at at))) last
            (put_in_order nat_lt broken (with_numbers (near_while_comparing p plans last at) at (put_in_order nat_lt broken (near_while_comparing p plans last at at)) last))) e
            ∙ (with-same (with_numbers (near_while_comparing p plans last at) at (put_in_order nat_lt broken (near_while_comparing p plans last at at))) last
            (put_in_order nat_lt broken (with_numbers (near_while_comparing p plans last at) at (put_in_order nat_lt broken (near_while_comparing p plans last at at)) last))
            ∙ (ap (put_in_order nat_lt broken) there ∙ (at-last ∙ ap (near_while_comparing p plans last (at + 1)) (sym e))))
        by (inr n) =
            with-other (with_numbers (near_while_comparing p plans last at) at (put_in_order nat_lt broken (near_while_comparing p plans last at at))) last
            (put_in_order nat_lt broken (with_numbers (near_while_comparing p plans last at) at (put_in_order nat_lt broken (near_while_comparing p plans last at at)) last)) k n
            ∙ other (cases_eq k at)
          where
            other : (k ≡ at) ⊎ (k ≢ at) → with_numbers (near_while_comparing p plans last at) at (put_in_order nat_lt broken (near_while_comparing p plans last at at)) k ≡ near_while_comparing p plans last (at + 1) k
            other (inl e) =
                ap (with_numbers (near_while_comparing p plans last at) at (put_in_order nat_lt broken (near_while_comparing p plans last at at))) e
                ∙ (with-same (near_while_comparing p plans last at) at (put_in_order nat_lt broken (near_while_comparing p plans last at at)) ∙ (at-place ∙ ap (near_while_comparing p plans last (at + 1)) (sym e)))
            other (inr m) = with-other (near_while_comparing p plans last at) at (put_in_order nat_lt broken (near_while_comparing p plans last at at)) k m ∙ elsewhere k m (omega arith)

  -- the last plan was compared with all others
  pub all-noted : (at k : ℕ) → last ≤ at → at ≤ last → k < last + 1 → near_while_comparing p plans last at k ≡ nearest p plans k
  all-noted at k low high inside = by (cases_lt k last)
    where
      by : (k < last) ⊎ (last ≤ k) → near_while_comparing p plans last at k ≡ nearest p plans k
      by (inl h) = numbers-done at k (omega arith)
      by (inr h) =
          let e : k ≡ last = omega arith in
          let f : at ≡ last = omega arith in
          ap₂ (λ (n m : ℕ). near_while_comparing p plans last m n) e f ∙ (numbers-newest last (omega arith) ∙ (nearest-last p plans last long ∙ ap (nearest p plans) (sym e)))

  -- how many numbers there are before they are noted
  pub few-left : (at : ℕ) → at < last → length (near_while_comparing p plans last at at) < last
  few-left at h =
      let inside : at < length (take last plans) = let b = before in omega arith in
      let few = nearest-few p (take last plans) at inside in
      let b = before in
      let e : length (near_while_comparing p plans last at at) ≡ length (nearest p (take last plans) at) = ap length (numbers-left at at (omega arith) h) in
      omega arith

  pub few-newest : (at : ℕ) → at < last → length (near_while_comparing p plans last at last) < last
  few-newest at h =
      let e : length (near_while_comparing p plans last at last) ≡ length (take at plans) =
      ap length (numbers-newest at (omega arith)) ∙ (length-sorted nat_lt numbers-total (map (broken_pairs p newest) (take at plans)) ∙ length-map (take at plans) (broken_pairs p newest)) in
      let l = length-take at plans in
      omega arith

-- a plan that has no numbers yet stands behind the others
pub compared-push : (p : Problem) (items : List ComparedPlan) (item : ComparedPlan) (last : ℕ) → last ≡ length items → IsTrue (is_lawful p item.plan.routes) → AreFlanks p item.plan.routes item.flanks.items → item.near ≡ [] →
    AreComparedBy p (nearest p (plans_in items)) items → AreComparedBy p (near_while_comparing p (plans_in (items ++ item ∷ [])) last 0) (items ++ item ∷ [])
compared-push p items item last long lawful beside none is = record { each = λ k d low. by k d low (cases_lt k last) }
  where
    many : length (plans_in (items ++ item ∷ [])) ≡ last + 1
    many = let e = as-many (items ++ item ∷ []) in let f = length-append items (item ∷ []) in omega arith

    front : take last (plans_in (items ++ item ∷ [])) ≡ plans_in items
    front = ap (take last) (mapped items) ∙ take_at (plans_in items) (item.plan.routes ∷ []) last (as-many items ∙ sym long)
      where
        mapped : (xs : List ComparedPlan) → plans_in (xs ++ item ∷ []) ≡ plans_in xs ++ item.plan.routes ∷ []
        mapped [] = refl
        mapped (x ∷ xs) = ap (λ (ps : List Routes). x.plan.routes ∷ ps) (mapped xs)

    by : (k : ℕ) (d : ComparedPlan) → k < length (items ++ item ∷ []) → (k < last) ⊎ (last ≤ k) →
        IsComparedPlan p (near_while_comparing p (plans_in (items ++ item ∷ [])) last 0 k) (get_or (items ++ item ∷ []) k d)
    by k d low (inl h) =
        let inside : k < length items = omega arith in
        subst (λ (x : ComparedPlan). IsComparedPlan p (near_while_comparing p (plans_in (items ++ item ∷ [])) last 0 k) x) (sym (get_or_append_left items (item ∷ []) d k inside))
        (same-item p (nearest p (plans_in items) k) (near_while_comparing p (plans_in (items ++ item ∷ [])) last 0 k) (get_or items k d)
        (sym (numbers-left p (plans_in (items ++ item ∷ [])) last many 0 k (omega arith) h ∙ ap (λ (ps : List Routes). nearest p ps k) front)) (is.each k d inside))
    by k d low (inr h) =
        let e : k ≡ last = let f = length-append items (item ∷ []) in omega arith in
        subst (λ (x : ComparedPlan). IsComparedPlan p (near_while_comparing p (plans_in (items ++ item ∷ [])) last 0 k) x) (sym (get_or_push items item d k (sym long ∙ sym e)))
        (record { lawful = lawful; beside = beside; numbered = none ∙ sym (ap (near_while_comparing p (plans_in (items ++ item ∷ [])) last 0) e ∙ numbers-newest p (plans_in (items ++ item ∷ [])) last many 0 (omega arith)) })

-- while a plan is forgotten by the others
module _ (p : Problem) (plans : List Routes) (gone : Routes) (place : ℕ) where
  forgotten-done : (at k : ℕ) → k < at → near_while_removing p plans gone place at k ≡ nearest p plans k
  forgotten-done at k h = ap (λ (b : Bool). cond b (nearest p plans k) (nearest p (insert plans place gone) (behind place k))) (lt-true k at h)

  forgotten-left : (at k : ℕ) → at ≤ k → near_while_removing p plans gone place at k ≡ nearest p (insert plans place gone) (behind place k)
  forgotten-left at k h = ap (λ (b : Bool). cond b (nearest p plans k) (nearest p (insert plans place gone) (behind place k))) (lt-false k at h)

  pub has-number : (at : ℕ) → place ≤ length plans → at < length plans → near_while_removing p plans gone place at at ≡ put_in_order nat_lt (broken_pairs p (item_at plans at) gone) (nearest p plans at)
  has-number at fits inside = forgotten-left at at (omega arith) ∙ nearest-with p plans gone place at fits inside

  pub forgotten-more : (at k : ℕ) → with_numbers (near_while_removing p plans gone place at) at (nearest p plans at) k ≡ near_while_removing p plans gone place (at + 1) k
  forgotten-more at k = by (cases_eq k at)
    where
      other : (k < at) ⊎ (at ≤ k) → k ≢ at → near_while_removing p plans gone place at k ≡ near_while_removing p plans gone place (at + 1) k
      other (inl h) n = forgotten-done at k h ∙ sym (forgotten-done (at + 1) k (omega arith))
      other (inr h) n = forgotten-left at k h ∙ sym (forgotten-left (at + 1) k (omega arith))

      by : (k ≡ at) ⊎ (k ≢ at) → with_numbers (near_while_removing p plans gone place at) at (nearest p plans at) k ≡ near_while_removing p plans gone place (at + 1) k
      by (inl e) =
          ap (with_numbers (near_while_removing p plans gone place at) at (nearest p plans at)) e
          ∙ (with-same (near_while_removing p plans gone place at) at (nearest p plans at) ∙ (ap (nearest p plans) (sym e) ∙ sym (forgotten-done (at + 1) k (omega arith))))
      by (inr n) = with-other (near_while_removing p plans gone place at) at (nearest p plans at) k n ∙ other (cases_lt k at) n

  pub all-forgotten : (at k : ℕ) → k < at → near_while_removing p plans gone place at k ≡ nearest p plans k
  all-forgotten at k h = forgotten-done at k h

pub plans-without : (items : List ComparedPlan) (place : ℕ) → plans_in (remove items place) ≡ remove (plans_in items) place
plans-without [] zero = refl
plans-without [] (suc place) = refl
plans-without (x ∷ items) zero = refl
plans-without (x ∷ items) (suc place) = ap (λ (ps : List Routes). x.plan.routes ∷ ps) (plans-without items place)

-- a plan was taken out, and the others have its numbers still
pub compared-without : (p : Problem) (items : List ComparedPlan) (gone : ComparedPlan) (place : ℕ) → place < length items → gone ≡ get_or items place gone →
    AreComparedBy p (nearest p (plans_in items)) items → AreComparedBy p (near_while_removing p (plans_in (remove items place)) gone.plan.routes place 0) (remove items place)
compared-without p items gone place inside is_gone is = record { each = λ k d low. by k d low (cases_lt k place) }
  where
    back : insert (plans_in (remove items place)) place gone.plan.routes ≡ plans_in items
    back =
        ap₂ (λ (ps : List Routes) (r : Routes). insert ps place r) (plans-without items place) (ap (λ (x : ComparedPlan). x.plan.routes) is_gone ∙ sym (item-plan items place gone inside))
        ∙ put-back (plans_in items) place [] (let m = as-many items in omega arith)

    numbers : (k : ℕ) → near_while_removing p (plans_in (remove items place)) gone.plan.routes place 0 k ≡ nearest p (plans_in items) (behind place k)
    numbers k = forgotten-left p (plans_in (remove items place)) gone.plan.routes place 0 k (omega arith) ∙ ap (λ (ps : List Routes). nearest p ps (behind place k)) back

    by : (k : ℕ) (d : ComparedPlan) → k < length (remove items place) → (k < place) ⊎ (place ≤ k) →
        IsComparedPlan p (near_while_removing p (plans_in (remove items place)) gone.plan.routes place 0 k) (get_or (remove items place) k d)
    by k d low (inl h) =
        subst (λ (x : ComparedPlan). IsComparedPlan p (near_while_removing p (plans_in (remove items place)) gone.plan.routes place 0 k) x) (sym (get_or-remove_below items place d k h inside))
        (same-item p (nearest p (plans_in items) k) (near_while_removing p (plans_in (remove items place)) gone.plan.routes place 0 k) (get_or items k d)
        (sym (numbers k ∙ ap (λ (b : Bool). nearest p (plans_in items) (cond b k (k + 1))) (lt-true k place h))) (is.each k d (omega arith)))
    by k d low (inr h) =
        let fewer = length-remove items place inside in
        subst (λ (x : ComparedPlan). IsComparedPlan p (near_while_removing p (plans_in (remove items place)) gone.plan.routes place 0 k) x) (sym (get_or-remove_above items place d k h inside))
        (same-item p (nearest p (plans_in items) (k + 1)) (near_while_removing p (plans_in (remove items place)) gone.plan.routes place 0 k) (get_or items (k + 1) d)
        (sym (numbers k ∙ ap (λ (b : Bool). nearest p (plans_in items) (cond b k (k + 1))) (lt-false k place h))) (is.each (k + 1) d (omega arith)))
