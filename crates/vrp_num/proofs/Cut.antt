-- A text cut into the parts of a number.
use Rattle.std.proofs.Common.{◌≡◌, ℕ, ◌+◌, ◌≤◌, Bool, true, false, not, cond, ltb, lt-ltb, ◌||◌, suc, List, [], ◌∷◌, length, take, drop, refl, ◌∙◌, ap, ap₂, arith, Some, None, Err, Result}
use Rattle.std.specs.Prelude.{slice_index, if◌then◌else◌}
use Rattle.std.specs.Char.{is_ascii_digit}
use Rattle.std.specs.List.{list_all, list_any, position_or_len, before_first, after_first}
use Rattle.std.specs.Str.Parse.{AllDigits}
use Rattle.std.proofs.lemmas.Bool.{and_parts}
use Rattle.std.proofs.lemmas.Bool.Decides.{nat_tests}
use Rattle.std.proofs.lemmas.List.Sums.{prefix_len-le-length}
use Rattle.vrp_num.specs.declared.decimal.Decimal.{Decimal}
use Rattle.vrp_num.specs.declared.decimal.NumberFault.{NumberFault}
use Rattle.vrp_num.specs.declared.decimal.NumberFault.TheVariants.{NotNumber}
use Rattle.vrp_num.specs.declared.spelled.Spelled.{Spelled}
use Rattle.vrp_num.specs.DecimalText.{Parts, AreDigits, parts_of, are_of_number, is_number, is_minus, is_point, is_exponent_mark, unsigned, spells_whole, held, read, spelled}

pub place_within : (p : ℕ → Bool) (text : List ℕ) (k : ℕ) → k ≡ position_or_len p text → k ≤ length text
place_within p text k e = omega (arith, e, prefix_len-le-length (λ b. not (p b)) text)

next_is : (n m : ℕ) → ltb (1 + n) (suc m) ≡ ltb n m
next_is n m = grind (arith, nat_tests)

there_step : (here rest : Bool) (n m : ℕ) → ltb n m ≡ rest → ltb (cond (not here) (1 + n) 0) (suc m) ≡ (here || rest)
there_step true rest n m e = lt-ltb 0 (suc m) (omega arith)
there_step false rest n m e = next_is n m ∙ e

-- a byte that passes stands in the text where its place is before the end
is_there : (p : ℕ → Bool) (text : List ℕ) → ltb (position_or_len p text) (length text) ≡ list_any p text
is_there p [] = refl
is_there p (b ∷ text) = there_step (p b) (list_any p text) (position_or_len p text) (length text) (is_there p text)

pub parts_are : (text mantissa exponent digits whole fraction rest : List ℕ) (mark : ℕ) (is_negative is_small : Bool) → mark ≡ position_or_len is_exponent_mark text →
    mantissa ≡ take mark text → exponent ≡ drop (mark + 1) text → digits ≡ unsigned mantissa → whole ≡ before_first is_point digits → fraction ≡ after_first is_point digits →
    is_negative ≡ is_minus (slice_index mantissa 0) → is_small ≡ is_minus (slice_index exponent 0) → rest ≡ unsigned exponent →
    (let p : Parts = record { is_negative = is_negative; whole = whole; fraction = fraction; is_small = is_small; exponent = rest } in p) ≡ parts_of text
unfolding parts_of
parts_are text mantissa exponent digits whole fraction rest mark is_negative is_small e f g h i j k l m =
    rw (k, i, j, l, m, h, f, g, e) refl

pub number_is : (text : List ℕ) (mark : ℕ) (has_mark answer : Bool) (p : Parts) → mark ≡ position_or_len is_exponent_mark text → p ≡ parts_of text →
    has_mark ≡ ltb mark (length text) → answer ≡ are_of_number has_mark p → answer ≡ is_number text
unfolding is_number
number_is text mark has_mark answer p e f g h =
    h ∙ ap₂ are_of_number (g ∙ ap (λ k. ltb k (length text)) e ∙ is_there is_exponent_mark text) f

digits_all : (ds : List ℕ) → list_all is_ascii_digit ds ≡ true → AllDigits 10 ds
digits_all [] h = tt
digits_all (d ∷ ds) h =
    let both = and_parts (is_ascii_digit d) (list_all is_ascii_digit ds) h in
    (grind (arith, nat_tests, both.0), digits_all ds both.1)

digits_of_number : (has_mark : Bool) (p : Parts) → are_of_number has_mark p ≡ true → AreDigits p
digits_of_number has_mark p h =
    let a = and_parts _ _ h in
    let b = and_parts _ _ a.0 in
    let c = and_parts _ _ b.0 in
    let d = and_parts _ _ c.0 in
    (digits_all p.whole d.1, digits_all p.fraction c.1, digits_all p.exponent b.1)

pub are_digits : (text : List ℕ) (p : Parts) → is_number text ≡ true → p ≡ parts_of text → AreDigits p
unfolding is_number
are_digits text p h e = digits_of_number (list_any is_exponent_mark text) p (rw (← e) at h)

abbrev pub given : Parts → Spelled
given p = record { is_negative = p.is_negative; is_whole = spells_whole p; decimal = held p }

pub spelled_is : (text : List ℕ) (p : Parts) (is_negative is_whole : Bool) (decimal : Result Decimal NumberFault) → is_number text ≡ true → p ≡ parts_of text →
    is_negative ≡ p.is_negative → is_whole ≡ spells_whole p → decimal ≡ held p →
    Some (let s : Spelled = record { is_negative = is_negative; is_whole = is_whole; decimal = decimal } in s) ≡ spelled text
unfolding spelled
spelled_is text p is_negative is_whole decimal h e f g k = rw (h, f, g, k, e) refl

pub nothing_spelled : (text : List ℕ) → is_number text ≡ false → spelled text ≡ None
unfolding spelled
nothing_spelled text h = rw h refl

pub spelled_from : (text : List ℕ) (s : Spelled) → Some s ≡ spelled text → s ≡ given (parts_of text)
unfolding spelled
spelled_from text s = elim (is_number text) as (λ b. Some s ≡ (if b then Some (given (parts_of text)) else None) → s ≡ given (parts_of text)) [
  | true ↦ λ e. cc
  | false ↦ λ e. cc
]

pub read_spelled : (text : List ℕ) (s : Spelled) → Some s ≡ spelled text → s.decimal ≡ read text
unfolding read spelled
read_spelled text s = elim (is_number text) as (λ b. Some s ≡ (if b then Some (given (parts_of text)) else None) → s.decimal ≡ (if not b then Err NotNumber else held (parts_of text))) [
  | true ↦ λ e. let same : s ≡ given (parts_of text) = cc in ap (λ x. x.decimal) same
  | false ↦ λ e. cc
]

pub read_nothing : (text : List ℕ) → None ≡ spelled text → Err NotNumber ≡ read text
unfolding read spelled
read_nothing text = elim (is_number text) as (λ b. None ≡ (if b then Some (given (parts_of text)) else None) → Err NotNumber ≡ (if not b then Err NotNumber else held (parts_of text))) [
  | true ↦ λ e. cc
  | false ↦ λ e. refl
]
