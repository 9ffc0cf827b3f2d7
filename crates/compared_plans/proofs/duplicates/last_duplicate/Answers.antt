use Rattle.std.proofs.Common.{◌≡◌, ◌∙◌, ◌+◌, ◌<◌, ℕ, Bool, true, false, cond, List, [], ◌∷◌, ◌++◌, Option, None, Some, ap, arith, refl, subst, sym}
use Rattle.std.specs.Prelude.{filter, IfSome}
use Rattle.std.specs.List.{last_or, range_with_len}
use Rattle.std.proofs.lemmas.List.{append-nil, map-id}
use Rattle.std.proofs.lemmas.List.Elements.{filter-append}
use Rattle.std.proofs.lemmas.List.FromFn.{map-range_with_len_more}
use Rattle.genetic_model.specs.Population.{is_duplicate}
use Rattle.compared_plans.specs.Compared.{plans_in}
use Rattle.compared_plans.proofs.duplicates.last_duplicate.Goals as goal
use Rattle.compared_plans.proofs.duplicates.last_duplicate.Goals.{then-is_duplicate, else-is_duplicate}

range-more : (n : ℕ) → range_with_len 0 (n + 1) ≡ range_with_len 0 n ++ n ∷ []
range-more n = sym (map-id (range_with_len 0 (n + 1))) ∙ (map-range_with_len_more (λ k. k) 0 n n (omega arith) ∙ ap (λ (ks : List ℕ). ks ++ n ∷ []) (map-id (range_with_len 0 n)))

last-push : (o : Option ℕ) (xs : List ℕ) (x : ℕ) → last_or o (xs ++ x ∷ []) ≡ Some x
last-push o [] x = refl
last-push o (y ∷ xs) x = last-push (Some y) xs x

-- the last number that passes, of one number more
more : (p : ℕ → Bool) (n : ℕ) → filter p (range_with_len 0 (n + 1)) ≡ filter p (range_with_len 0 n) ++ cond (p n) (n ∷ []) []
more p n = ap (filter p) (range-more n) ∙ filter-append p (range_with_len 0 n) (n ∷ [])

passes : (p : ℕ → Bool) (n : ℕ) (b : Bool) → b ≡ p n → b ≡ true → Some n ≡ last_or None (filter p (range_with_len 0 (n + 1)))
passes p n b e h =
    sym (ap (last_or None) (more p n ∙ ap (λ (t : Bool). filter p (range_with_len 0 n) ++ cond t (n ∷ []) []) (sym e ∙ h)) ∙ last-push None (filter p (range_with_len 0 n)) n)

fails : (p : ℕ → Bool) (n : ℕ) (b : Bool) (last : Option ℕ) → b ≡ p n → b ≡ false → last ≡ last_or None (filter p (range_with_len 0 n)) → last ≡ last_or None (filter p (range_with_len 0 (n + 1)))
fails p n b last e h so_far =
    so_far ∙ sym (ap (last_or None) (more p n ∙ (ap (λ (t : Bool). filter p (range_with_len 0 n) ++ cond t (n ∷ []) []) (sym e ∙ h) ∙ append-nil (filter p (range_with_len 0 n)))))

within-more : (o : Option ℕ) (n : ℕ) → IfSome o (λ place. place < n) → IfSome o (λ place. place < n + 1)
within-more None n h = h
within-more (Some place) n h = omega arith

pub loop-place-preserved : goal.loop-place-preserved
loop-place-preserved c =
    let p = is_duplicate (plans_in c.args.items.now) in
    let n = c.loop-place.place in
    let is = c.loop-place.invariant in
    elim c.if-is_duplicate.branch [
      | then-is_duplicate w ↦ record {
        latest = w.last-is ∙ passes p n c.is_duplicate.result c.is_duplicate.ensures w.if-is_duplicate.true;
        there = subst (λ (o : Option ℕ). IfSome o (λ place. place < n + 1)) (sym w.last-is) (latest-within n);
      }
      | else-is_duplicate w ↦ record {
        latest = w.last-is ∙ fails p n c.is_duplicate.result c.loop-place.last c.is_duplicate.ensures w.if-is_duplicate.false is.latest;
        there = subst (λ (o : Option ℕ). IfSome o (λ place. place < n + 1)) (sym w.last-is) (within-more c.loop-place.last n is.there);
      }
    ]
  where
    latest-within : (n : ℕ) → n < n + 1
    latest-within n = omega arith
