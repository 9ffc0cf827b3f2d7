-- Sides at which two plans differ, by the entries of one client after the other.
use Rattle.std.proofs.Common.{◌≡◌, ℕ, ◌+◌, ◌-◌, ◌≤◌, Bool, true, false, not, cond, List, [], ◌∷◌, ◌++◌, refl, sym, ◌∙◌, ap, ap₂, arith}
use Rattle.std.specs.Prelude.{◌==◌, count_by}
use Rattle.std.specs.List.{range_with_len}
use Rattle.std.proofs.lemmas.Bool.Decides.{nat_tests}
use Rattle.std.proofs.lemmas.List.{map-id}
use Rattle.std.proofs.lemmas.List.FromFn.{map-range_with_len_more}
use Rattle.std.proofs.lemmas.List.Sums.{sum_by_push}
use Rattle.routing_model.specs.Routes.{Routes}
use Rattle.genetic_model.specs.BrokenPairs.{Neighbour, client, depot, none, Side, left, right, is_same_neighbour, neighbour_of, triples}
use Rattle.plan_differences.specs.declared.flanks.Flanks.{Flanks}
use Rattle.plan_differences.specs.declared.flanks.TheConstants.{DEPOT, NONE}
use Rattle.plan_differences.specs.Beside.{SaysBeside, beside_of}
use Rattle.plan_differences.specs.inside.Comparing.{sides_apart}

-- two numbers say the same neighbour just where they are equal
pub same-said : (a b : ℕ) → is_same_neighbour (beside_of a) (beside_of b) ≡ (a == b)
same-said a b = by (a == DEPOT) (a == NONE) (b == DEPOT) (b == NONE) refl refl refl refl
  where
    by : (t u v w : Bool) → (a == DEPOT) ≡ t → (a == NONE) ≡ u → (b == DEPOT) ≡ v → (b == NONE) ≡ w →
        is_same_neighbour (cond t depot (cond u none (client a))) (cond v depot (cond w none (client b))) ≡ (a == b)
    by true u true w e f g h = grind (arith, nat_tests)
    by true u false true e f g h = grind (arith, nat_tests)
    by true u false false e f g h = grind (arith, nat_tests)
    by false true true w e f g h = grind (arith, nat_tests)
    by false true false true e f g h = grind (arith, nat_tests)
    by false true false false e f g h = grind (arith, nat_tests)
    by false false true w e f g h = grind (arith, nat_tests)
    by false false false true e f g h = grind (arith, nat_tests)
    by false false false false e f g h = refl

-- whether a client's neighbours on a side differ
abbrev pub differ : Routes → Routes → Side → ℕ → Bool
differ x y side c = not (is_same_neighbour (neighbour_of (triples x) side c) (neighbour_of (triples y) side c))

-- one where it holds
abbrev tally : Bool → ℕ
tally b = cond b 1 0

turned : (b : Bool) → cond b 0 1 ≡ tally (not b)
turned true = refl
turned false = refl

side-is : (a b : ℕ) (x y : Neighbour) → beside_of a ≡ x → beside_of b ≡ y → cond (a == b) 0 1 ≡ tally (not (is_same_neighbour x y))
side-is a b x y e f =
    turned (a == b) ∙ ap (λ (t : Bool). tally (not t)) (sym (same-said a b) ∙ ap₂ (λ (m n : Neighbour). is_same_neighbour m n) e f)

pub sides-are : (x y : Routes) (c : ℕ) (here there : Flanks) → SaysBeside x c here → SaysBeside y c there →
    sides_apart here there ≡ cond (differ x y left c) 1 0 + cond (differ x y right c) 1 0
sides-are x y c here there is is' =
    ap₂ (λ (m n : ℕ). m + n)
    (side-is here.left there.left (neighbour_of (triples x) left c) (neighbour_of (triples y) left c) is.on_left is'.on_left)
    (side-is here.right there.right (neighbour_of (triples x) right c) (neighbour_of (triples y) right c) is.on_right is'.on_right)

few-of : (b : Bool) → cond b 0 1 ≤ 1
few-of true = omega arith
few-of false = omega arith

pub sides-few : (here there : Flanks) → sides_apart here there ≤ 2
sides-few here there =
    let l = few-of (here.left == there.left) in
    let r = few-of (here.right == there.right) in
    omega arith

range-next : (a k n : ℕ) → a + k ≡ n → range_with_len a (k + 1) ≡ range_with_len a k ++ n ∷ []
range-next a k n e = sym (map-id (range_with_len a (k + 1))) ∙ (map-range_with_len_more (λ i. i) a k n e ∙ ap (λ (ks : List ℕ). ks ++ n ∷ []) (map-id (range_with_len a k)))

-- a count over places, with one place more
count-next : (f : ℕ → Bool) (a place : ℕ) → a ≤ place → count_by f (range_with_len a (place + 1 - a)) ≡ count_by f (range_with_len a (place - a)) + cond (f place) 1 0
count-next f a place begun =
    ap (λ (n : ℕ). count_by f (range_with_len a n)) (more a place begun)
    ∙ (ap (count_by f) (range-next a (place - a) place (omega arith)) ∙ sum_by_push (λ c. cond (f c) 1 0) (range_with_len a (place - a)) place)
  where
    more : (m n : ℕ) → m ≤ n → n + 1 - m ≡ n - m + 1
    more m n h = omega arith

pub counts-next : (f g : ℕ → Bool) (a place broken one : ℕ) → a ≤ place → broken ≡ count_by f (range_with_len a (place - a)) + count_by g (range_with_len a (place - a)) →
    one ≡ cond (f place) 1 0 + cond (g place) 1 0 → broken + one ≡ count_by f (range_with_len a (place + 1 - a)) + count_by g (range_with_len a (place + 1 - a))
counts-next f g a place broken one begun so_far is =
    let m = count-next f a place begun in
    let n = count-next g a place begun in
    omega arith
