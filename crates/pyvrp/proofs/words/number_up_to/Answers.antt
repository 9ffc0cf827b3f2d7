use Rattle.std.proofs.Common.{◌≡◌, ℕ, ◌^◌, ◌<◌, ◌≤◌, Bool, true, false, ◌&&◌, List, [], ◌∷◌, length, refl, ◌∙◌, ap, arith}
use Rattle.std.specs.Prelude.{Some, None, Ok, Err, nat_le, nat_lt, if◌then◌else◌}
use Rattle.std.specs.Str.{all_ascii_digits}
use Rattle.std.specs.Str.Parse.{AllDigits, IsNumeral, ParsesUnsigned, digits_value, without_leading_plus}
use Rattle.std.specs.declared.num.ParseIntError.{ParseIntError}
use Rattle.std.proofs.lemmas.Bool.{leb-true, le-leb}
use Rattle.std.proofs.lemmas.Bool.Decides.{nat_tests}
use Rattle.std.proofs.lemmas.Str.Parse.{tells_digits, tells_all_ascii_digits}
use Rattle.command_model.specs.Words.{is_numeral, number_up_to}
use Rattle.pyvrp.proofs.words.number_up_to.Goals as goal

-- digits pass the test of digits
digits-pass : (ds : List ℕ) → AllDigits 10 ds → all_ascii_digits ds ≡ true
digits-pass [] h = refl
digits-pass (d ∷ ds) h = let parts = tells_digits.parts d ds h in tells_all_ascii_digits.more d ds parts.0 (digits-pass ds parts.1)

-- what passes the test is digits
passes-digits : (ds : List ℕ) → all_ascii_digits ds ≡ true → AllDigits 10 ds
passes-digits [] h = tt
passes-digits (d ∷ ds) h = let parts = tells_all_ascii_digits.parts d ds h in tells_digits.more d ds parts.0 (passes-digits ds parts.1)

and_true : (a b : Bool) → (a && b) ≡ true → (a ≡ true) × (b ≡ true)
and_true true b h = (refl, h)
and_true false b h = cc

both : (a b : Bool) → a ≡ true → b ≡ true → (a && b) ≡ true
both a b h k = rw (h, k) refl

numeral-passes : (ds : List ℕ) → IsNumeral 10 ds → is_numeral ds ≡ true
numeral-passes ds h = both (all_ascii_digits ds) (nat_lt 0 (length ds)) (digits-pass ds h.1) (let some = h.0 in grind (arith, nat_tests))

passes-numeral : (ds : List ℕ) → is_numeral ds ≡ true → IsNumeral 10 ds
passes-numeral ds h = let parts = and_true (all_ascii_digits ds) (nat_lt 0 (length ds)) h in
    let some = parts.1 in
    (grind (arith, nat_tests), passes-digits ds parts.0)

chosen : (b : Bool) (n : ℕ) → b ≡ true → Some n ≡ (if b then Some n else None)
chosen true n h = refl
chosen false n h = cc

passed_over : (b : Bool) (n : ℕ) → ¬ (b ≡ true) → None ≡ (if b then Some n else None)
passed_over true n h = absurd (h refl)
passed_over false n h = refl

-- what a parse reads and is within the limit is the number that the text spells
number-taken : (most : ℕ) (text : List ℕ) (n : ℕ) → ParsesUnsigned {E = ParseIntError} 32 10 text (Ok n) → n ≤ most → Some n ≡ number_up_to most text
number-taken most text n h small =
    let digits = without_leading_plus text in
    let value : n ≡ digits_value 10 digits = h.1 in
    let within : digits_value 10 digits ≤ most = rw (← value) small in
    ap Some value ∙ chosen _ (digits_value 10 digits) (both _ _ (numeral-passes digits h.0.0) (le-leb (digits_value 10 digits) most within))

-- what a parse reads and is above the limit is none
number-above : (most : ℕ) (text : List ℕ) (n : ℕ) → ParsesUnsigned {E = ParseIntError} 32 10 text (Ok n) → most < n → None ≡ number_up_to most text
number-above most text n h large =
    let digits = without_leading_plus text in
    let value : n ≡ digits_value 10 digits = h.1 in
    passed_over _ (digits_value 10 digits) (λ taken. let parts = and_true (is_numeral digits) (nat_le (digits_value 10 digits) most) taken in
    let within : digits_value 10 digits ≤ most = leb-true (digits_value 10 digits) most parts.1 in omega arith)

-- what a parse refuses is none
number-refused : (most : ℕ) (text : List ℕ) (e : ParseIntError) → ParsesUnsigned {E = ParseIntError} 32 10 text (Err e) → most < 2 ^ 32 → None ≡ number_up_to most text
number-refused most text e h small =
    let digits = without_leading_plus text in
    passed_over _ (digits_value 10 digits) (λ taken. let parts = and_true (is_numeral digits) (nat_le (digits_value 10 digits) most) taken in
    let within : digits_value 10 digits ≤ most = leb-true (digits_value 10 digits) most parts.1 in
    h (passes-numeral digits parts.0, omega arith))

pub returns-then-number-most : goal.returns-then-number-most
returns-then-number-most c = number-taken c.args.most c.args.text.now c.in-Ok.number c.in-Ok.ensures.value.0 c.if-number-most.true

pub returns-else-number-most : goal.returns-else-number-most
returns-else-number-most c = number-above c.args.most c.args.text.now c.in-Ok.number c.in-Ok.ensures.value.0 c.if-number-most.false

pub returns-in-Err : goal.returns-in-Err
returns-in-Err c = number-refused c.args.most c.args.text.now c.in-Err.field-0 c.in-Err.ensures.value.0 c.ranges.most.fits
