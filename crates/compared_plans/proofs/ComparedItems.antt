-- Items of a list whose numbers change.
use Rattle.std.proofs.Common.{◌≡◌, ◌≢◌, ◌∙◌, ℕ, zero, suc, ◌<◌, Bool, true, false, cond, List, [], ◌∷◌, length, get_or, set, refl, sym, ap, subst, arith}
use Rattle.std.specs.Prelude.{◌==◌}
use Rattle.std.proofs.lemmas.Bool.Decides.{nat_tests}
use Rattle.std.proofs.lemmas.List.{get_or-set_other, get_or-set_same, length-map, length-set}
use Rattle.problem_data.specs.declared.problem.Problem.{Problem}
use Rattle.routing_model.specs.Routes.{Routes}
use Rattle.genetic_model.specs.Fitness.{item_at}
use Rattle.compared_plans.specs.declared.item.ComparedPlan.{ComparedPlan}
use Rattle.compared_plans.specs.Compared.{AreComparedBy, IsComparedPlan, plans_in}
use Rattle.compared_plans.specs.inside.Numbers.{with_numbers}

-- an item with other numbers
abbrev pub renumbered : ComparedPlan → List ℕ → ComparedPlan
renumbered item numbers = record { plan = item.plan; flanks = item.flanks; near = numbers }

pub plans-stay : (items : List ComparedPlan) (at : ℕ) (x : ComparedPlan) (numbers : List ℕ) → plans_in (set items at (renumbered (get_or items at x) numbers)) ≡ plans_in items
plans-stay [] at x numbers = refl
plans-stay (i ∷ items) zero x numbers = refl
plans-stay (i ∷ items) (suc at) x numbers = ap (λ (plans : List Routes). i.plan.routes ∷ plans) (plans-stay items at x numbers)

-- the plan of an item
pub item-plan : (items : List ComparedPlan) (k : ℕ) (d : ComparedPlan) → k < length items → item_at (plans_in items) k ≡ (get_or items k d).plan.routes
item-plan [] k d inside = absurd (let h : ⊥ = omega arith in h)
item-plan (i ∷ items) zero d inside = refl
item-plan (i ∷ items) (suc k) d inside = item-plan items k d (omega arith)

pub as-many : (items : List ComparedPlan) → length (plans_in items) ≡ length items
as-many items = length-map items (λ (item : ComparedPlan). item.plan.routes)

-- numbers at a place, and elsewhere
pub with-same : (numbers : ℕ → List ℕ) (at : ℕ) (others : List ℕ) → with_numbers numbers at others at ≡ others
with-same numbers at others = ap (λ (b : Bool). cond b others (numbers at)) (same at)
  where
    same : (n : ℕ) → (n == n) ≡ true
    same n = grind (arith, nat_tests)

pub with-other : (numbers : ℕ → List ℕ) (at : ℕ) (others : List ℕ) (k : ℕ) → k ≢ at → with_numbers numbers at others k ≡ numbers k
with-other numbers at others k n = ap (λ (b : Bool). cond b others (numbers k)) (apart k at n)
  where
    apart : (m n : ℕ) → m ≢ n → (m == n) ≡ false
    apart m n h = grind (arith, nat_tests)

pub same-item : (p : Problem) (numbers others : List ℕ) (item : ComparedPlan) → numbers ≡ others → IsComparedPlan p numbers item → IsComparedPlan p others item
same-item p numbers others item e is = record { lawful = is.lawful; beside = is.beside; numbered = is.numbered ∙ e }

-- the same numbers at each place that is there
pub compared-same : (p : Problem) (numbers others : ℕ → List ℕ) (items : List ComparedPlan) → ((k : ℕ) → k < length items → numbers k ≡ others k) → AreComparedBy p numbers items → AreComparedBy p others items
compared-same p numbers others items same is = record { each = λ k d low. same-item p (numbers k) (others k) (get_or items k d) (same k low) (is.each k d low) }

-- an item gets other numbers
pub compared-set : (p : Problem) (numbers : ℕ → List ℕ) (items : List ComparedPlan) (at : ℕ) (x : ComparedPlan) (found others : List ℕ) → at < length items → found ≡ others → AreComparedBy p numbers items →
    AreComparedBy p (with_numbers numbers at others) (set items at (renumbered (get_or items at x) found))
compared-set p numbers items at x found others inside e is = record { each = λ k d low. by k d low (k == at) refl }
  where
    same : (m n : ℕ) → (m == n) ≡ true → n ≡ m
    same m n h = grind (arith, nat_tests)

    other : (m n : ℕ) → (m == n) ≡ false → m ≢ n
    other m n h k = grind (arith, nat_tests)

    here : IsComparedPlan p others (renumbered (get_or items at x) found)
    here = let old = is.each at x inside in record { lawful = old.lawful; beside = old.beside; numbered = e }

    by : (k : ℕ) (d : ComparedPlan) → k < length (set items at (renumbered (get_or items at x) found)) → (b : Bool) → (k == at) ≡ b →
        IsComparedPlan p (with_numbers numbers at others k) (get_or (set items at (renumbered (get_or items at x) found)) k d)
    by k d low true t =
        subst (λ (i : ℕ). IsComparedPlan p (with_numbers numbers at others i) (get_or (set items at (renumbered (get_or items at x) found)) i d)) (same k at t)
        (same-item p others (with_numbers numbers at others at) (get_or (set items at (renumbered (get_or items at x) found)) at d) (sym (with-same numbers at others))
        (subst (IsComparedPlan p others) (sym (get_or-set_same items at (renumbered (get_or items at x) found) d inside)) here))
    by k d low false f =
        let long = length-set items at (renumbered (get_or items at x) found) in
        same-item p (numbers k) (with_numbers numbers at others k) (get_or (set items at (renumbered (get_or items at x) found)) k d) (sym (with-other numbers at others k (other k at f)))
        (subst (IsComparedPlan p (numbers k)) (sym (get_or-set_other items at k (renumbered (get_or items at x) found) d (other k at f))) (is.each k d (omega arith)))
