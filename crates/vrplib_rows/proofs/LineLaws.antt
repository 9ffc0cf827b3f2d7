-- A line and its first colon.
use Rattle.std.proofs.Common.{◌≡◌, ℕ, ◌+◌, ◌<◌, ◌≤◌, Bool, true, false, cond, List, [], ◌∷◌, length, take, drop, refl, sym, ◌∙◌, ap, arith}
use Rattle.std.specs.Prelude.{not, ◌||◌, ◌==◌}
use Rattle.std.specs.List.{after_first, before_first, list_any, onto_first, position_or_len, slice_split}
use Rattle.std.specs.Str.Lines.{lines, lines_of_parts, strip_carriage_return}
use Rattle.std.proofs.lemmas.Bool.Decides.{nat_tests}
use Rattle.std.proofs.lemmas.List.Splits.{slice_split_first}

-- a test passes on some element exactly where it passes before the end
pub list_any-place : {X : Type 0} (p : X → Bool) (xs : List X) → position_or_len p xs < length xs → list_any p xs ≡ true
list_any-place p [] h = absurd (omega (arith, h))
list_any-place p (x ∷ xs) h =
    elim (p x) as (λ v. cond (not v) (1 + position_or_len p xs) 0 < length (x ∷ xs) → (v || list_any p xs) ≡ true) [
      | true ↦ λ _. refl
      | false ↦ λ below. list_any-place p xs (omega (arith, below))
    ] h

pub list_any-no_place : {X : Type 0} (p : X → Bool) (xs : List X) → length xs ≤ position_or_len p xs → list_any p xs ≡ false
list_any-no_place p [] h = refl
list_any-no_place p (x ∷ xs) h =
    elim (p x) as (λ v. length (x ∷ xs) ≤ cond (not v) (1 + position_or_len p xs) 0 → (v || list_any p xs) ≡ false) [
      | true ↦ λ above. absurd (omega (arith, above))
      | false ↦ λ above. list_any-no_place p xs (omega (arith, above))
    ] h

-- a split has a part
split_is_some : (p : ℕ → Bool) (text : List ℕ) → (y : List ℕ) × (more : List (List ℕ)) × (slice_split p text ≡ y ∷ more)
split_is_some p [] = ([], [], refl)
split_is_some p (c ∷ text) =
    let rest = split_is_some p text in
    elim (p c) as (λ b. (y : List ℕ) × (more : List (List ℕ)) × (cond b ([] ∷ slice_split p text) (onto_first c (slice_split p text)) ≡ y ∷ more)) [
      | true ↦ ([], slice_split p text, refl)
      | false ↦ (c ∷ rest.0, rest.1, ap (onto_first c) rest.2)
    ]

-- a text is cut at its first line feed
pub lines-cut : (text line behind : List ℕ) (n : ℕ) → n ≡ position_or_len (λ b. b == 10) text → n < length text → line ≡ strip_carriage_return (take n text)
    → behind ≡ drop (n + 1) text → lines text ≡ line ∷ lines behind
lines-cut text line behind n at within front back =
    let place : position_or_len (λ b. b == 10) text < length text = omega (arith, at, within) in
    let some = split_is_some (λ b. b == 10) (after_first (λ b. b == 10) text) in
    let first : strip_carriage_return (before_first (λ b. b == 10) text) ≡ line = rw (← at) (sym front) in
    let rest : after_first (λ b. b == 10) text ≡ behind = rw (← at) (sym back) in
    ap lines_of_parts (slice_split_first (λ b. b == 10) text 0 place ∙ ap (λ parts. before_first (λ b. b == 10) text ∷ parts) some.2)
    ∙ (ap (λ line. line ∷ lines_of_parts (some.0 ∷ some.1)) first ∙ ap (λ lines. line ∷ lines) (ap lines_of_parts (sym some.2) ∙ ap lines rest))

or_parts : (a b : Bool) → (a || b) ≡ false → (a ≡ false) × (b ≡ false)
or_parts true b e = absurd (cc)
or_parts false b e = (refl, e)

split-whole : (p : ℕ → Bool) (text : List ℕ) → list_any p text ≡ false → slice_split p text ≡ text ∷ []
split-whole p [] e = refl
split-whole p (c ∷ text) e =
    let parts = or_parts (p c) (list_any p text) e in
    rw (parts.0, split-whole p text parts.1) refl

not_zero : (n : ℕ) → 0 < n → (n == 0) ≡ false
not_zero n some = grind (arith, nat_tests)

filled : (text : List ℕ) → 0 < length text → lines_of_parts (text ∷ []) ≡ text ∷ []
filled text some = rw (not_zero (length text) some) refl

-- a text without a line feed is one line
pub lines-one : (text : List ℕ) (n : ℕ) → n ≡ position_or_len (λ b. b == 10) text → length text ≤ n → 0 < length text → lines text ≡ text ∷ []
lines-one text n at past some =
    let none : list_any (λ b. b == 10) text ≡ false = list_any-no_place (λ b. b == 10) text (omega (arith, at, past)) in
    ap lines_of_parts (split-whole (λ b. b == 10) text none) ∙ filled text some
