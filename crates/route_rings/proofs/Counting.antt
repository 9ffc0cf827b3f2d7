-- Clients that are in just one of two sets, one place after the other.
use Rattle.std.proofs.Common.{◌≡◌, ℕ, ◌+◌, ◌-◌, ◌<◌, ◌≤◌, Bool, true, false, cond, not, List, [], ◌∷◌, ◌++◌, length, get_or, refl, sym, ◌∙◌, ap, ap₂, arith}
use Rattle.std.specs.Prelude.{count_by}
use mathlib.Core.Bool.{beq}
use mir.Val.{bool_byte}
use Rattle.std.specs.List.{range_with_len}
use Rattle.std.proofs.lemmas.List.{map-id}
use Rattle.std.proofs.lemmas.List.FromFn.{map-range_with_len_more}
use Rattle.genetic_model.specs.RouteSelection.{is_in_one}
use Rattle.genetic_model.proofs.RouteTotals.{count-append, count-cons}
use Rattle.route_rings.specs.Marks.{AreMarks}

pub range-next : (a k n : ℕ) → a + k ≡ n → range_with_len a (k + 1) ≡ range_with_len a k ++ n ∷ []
range-next a k n e = sym (map-id (range_with_len a (k + 1))) ∙ (map-range_with_len_more (λ i. i) a k n e ∙ ap (λ (ks : List ℕ). ks ++ n ∷ []) (map-id (range_with_len a k)))

-- whether a place is in just one of the sets, by its marks
apart : (b c : Bool) → not (beq b c) ≡ cond b (not c) c
apart true true = refl
apart true false = refl
apart false true = refl
apart false false = refl

byte : (b : Bool) → bool_byte b ≡ cond b 1 0
byte true = refl
byte false = refl

pub byte-few : (b : Bool) → bool_byte b ≤ 1
byte-few true = omega arith
byte-few false = omega arith

pub apart-by_marks : (marks others : List Bool) (xs ys : List ℕ) (place : ℕ) → place < length marks → place < length others → AreMarks marks xs → AreMarks others ys →
    bool_byte (not (beq (get_or marks place false) (get_or others place false))) ≡ cond (is_in_one xs ys place) 1 0
apart-by_marks marks others xs ys place inside inside' are are' =
    byte (not (beq (get_or marks place false) (get_or others place false)))
    ∙ (ap (λ (b : Bool). cond b 1 0) (apart (get_or marks place false) (get_or others place false))
    ∙ ap₂ (λ (b c : Bool). cond (cond b (not c) c) 1 0) (are place inside) (are' place inside'))

pub count-next : (xs ys : List ℕ) (a place difference one : ℕ) → a ≤ place →
    difference ≡ count_by (is_in_one xs ys) (range_with_len a (place - a)) → one ≡ cond (is_in_one xs ys place) 1 0 →
    difference + one ≡ count_by (is_in_one xs ys) (range_with_len a (place + 1 - a))
count-next xs ys a place difference one begun so_far is =
    ap₂ (λ (m n : ℕ). m + n) so_far (is ∙ sym (count-cons (is_in_one xs ys) place [] ∙ last (is_in_one xs ys place)))
    ∙ (sym (count-append (is_in_one xs ys) (range_with_len a (place - a)) (place ∷ []))
    ∙ (ap (count_by (is_in_one xs ys)) (sym (range-next a (place - a) place (omega arith))) ∙ ap (λ (n : ℕ). count_by (is_in_one xs ys) (range_with_len a n)) (more a place begun)))
  where
    more : (m n : ℕ) → m ≤ n → n - m + 1 ≡ n + 1 - m
    more m n h = omega arith

    last : (b : Bool) → cond b 1 0 + 0 ≡ cond b 1 0
    last true = refl
    last false = refl
