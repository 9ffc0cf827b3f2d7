-- The numbers in a row or value: what each must be, and the rule that it breaks else.
use Rattle.std.specs.Prelude.{ℕ, zero, suc, ◌/◌, ◌%◌, ◌^◌, ◌≤◌, Bool, false, not, ◌&&◌, ◌||◌, ◌==◌, nat_le, if◌then◌else◌, List, [], ◌∷◌, ℤ, pos, negsuc, nat_abs, Option, Some, None, Result, Ok, Err}
use Rattle.problem_data.specs.Limits.{largest, unlimited}
use Rattle.vrp_num.specs.declared.rounding.Rounding.{Rounding}
use Rattle.vrp_num.specs.declared.decimal.Decimal.{Decimal}
use Rattle.vrp_num.specs.declared.decimal.NumberFault.{NumberFault}
use Rattle.vrp_num.specs.declared.decimal.NumberFault.TheVariants.{TooLarge}
use Rattle.vrp_num.specs.DecimalText.{parts_of, spells_whole, read}
use Rattle.vrp_num.specs.Rounding.{rounded}
pub use Rattle.vrplib_model.specs.declared.field.Field.{Field}
pub use Rattle.vrplib_model.specs.declared.field.Field.TheVariants.{Number as number, Exactly as exactly, Whole as whole, Between as between, Rounded as rounding, RoundedOr as rounding_or, Coordinate as coordinate, NodeOrEnd as node_or_end}
use Rattle.vrplib_model.specs.declared.rule.Rule.{Rule}
use Rattle.vrplib_model.specs.declared.rule.Rule.TheVariants.{BadNumber, Limit}

-- the first step's answer handed to the next, or its rule
infixl 10 ◌|>◌
abbrev pub ◌|>◌ : {A B : Type 0} → Result A Rule → (A → Result B Rule) → Result B Rule
(Ok x) |> f = f x
(Err e) |> f = Err e

-- a token's number in millionths, or the rule that its refusal breaks, `too_large` for one that is too large
abbrev pub number_or : Rule → Result Decimal NumberFault → Result ℤ Rule
number_or too_large (Ok d) = Ok d.micro
number_or too_large (Err TooLarge) = Err too_large
number_or too_large (Err _) = Err BadNumber

-- a token's number in millionths
abbrev pub millionths : List ℕ → Result ℤ Rule
millionths token = number_or Limit (read token)

-- the rule that a token breaks whose number is too large: that it is negative or not whole is judged before its size
abbrev pub too_large_rule : Field → Bool → Bool → Rule
too_large_rule coordinate is_negative is_whole = Limit
too_large_rule (exactly n) is_negative is_whole = BadNumber
too_large_rule (rounding limit) is_negative is_whole = if is_negative then BadNumber else Limit
too_large_rule (rounding_or limit other) is_negative is_whole = if is_negative then BadNumber else Limit
too_large_rule _ is_negative is_whole = if is_negative || not is_whole then BadNumber else Limit

-- a token's number in millionths in a field
abbrev pub number_in : Field → List ℕ → Result ℤ Rule
number_in field token = let p = parts_of token in number_or (too_large_rule field p.is_negative (spells_whole p)) (read token)

-- the number is -1
abbrev pub is_minus_one : ℤ → Bool
is_minus_one (pos n) = false
is_minus_one (negsuc n) = n == 999999

-- the number is there, and is -1
abbrev pub are_minus_one : Result ℤ Rule → Bool
are_minus_one (Ok z) = is_minus_one z
are_minus_one (Err rule) = false

-- the token is -1
abbrev pub is_minus_one_token : List ℕ → Bool
is_minus_one_token token = are_minus_one (millionths token)

-- a number that isn't negative, in millionths
abbrev pub at_least_zero : ℤ → Result ℕ Rule
at_least_zero (pos n) = Ok n
at_least_zero (negsuc n) = Err BadNumber

-- a whole number
abbrev pub as_whole : ℕ → Result ℕ Rule
as_whole micro = if micro % 10 ^ 6 == 0 then Ok (micro / 10 ^ 6) else Err BadNumber

-- a number that passes a test, or else breaks the rule
abbrev pub checked : Rule → (ℕ → Bool) → ℕ → Result ℕ Rule
checked rule test n = if test n then Ok n else Err rule

-- a number of at most the limit
abbrev pub at_most : ℕ → ℕ → Result ℕ Rule
at_most limit = checked Limit (λ n. nat_le n limit)

-- a number that is not negative
abbrev pub as_number : ℕ → Result ℤ Rule
as_number n = Ok (pos n)

-- a number in millionths as the field holds it, or the rule that it breaks
abbrev pub held_value : Rounding → Field → ℤ → Result ℤ Rule
held_value mode number z = at_least_zero z |> as_whole |> as_number
held_value mode (exactly n) z = at_least_zero z |> as_whole |> checked BadNumber (λ m. m == n) |> as_number
held_value mode (whole limit) z = at_least_zero z |> as_whole |> at_most limit |> as_number
held_value mode (between low high) z = at_least_zero z |> as_whole |> checked Limit (λ m. nat_le low m && nat_le m high) |> as_number
held_value mode (rounding limit) z = at_least_zero z |> (λ micro. at_most limit (rounded mode micro)) |> as_number
held_value mode (rounding_or limit other) z =
    if is_minus_one z then as_number other else (at_least_zero z |> (λ micro. at_most limit (rounded mode micro)) |> as_number)
held_value mode coordinate z = if nat_le (nat_abs z) largest then Ok z else Err Limit
held_value mode node_or_end z = if is_minus_one z then Ok (negsuc 0) else (at_least_zero z |> as_whole |> as_number)

-- a token's number in a field, or the rule that it breaks
unfoldable pub field_value : Rounding → Field → List ℕ → Result ℤ Rule
field_value mode field token = number_in field token |> held_value mode field

-- the numbers that a field of rounded numbers may hold are at most what stands for no maximum, so they fit 64 bits with a sign
abbrev pub IsHeldField : Field → Type 0
IsHeldField (rounding limit) = limit ≤ unlimited
IsHeldField (rounding_or limit other) = (limit ≤ unlimited) × (other ≤ unlimited)
IsHeldField _ = Unit {0}

-- the numbers of a row's tokens in its fields, each or the rule that it breaks
abbrev pub field_values : Rounding → List Field → List (List ℕ) → List (Result ℤ Rule)
field_values mode [] tokens = []
field_values mode (field ∷ fields) [] = []
field_values mode (field ∷ fields) (token ∷ tokens) = field_value mode field token ∷ field_values mode fields tokens

-- the first rule that is broken, from the left
abbrev pub first_broken : List (Result ℤ Rule) → Option Rule
first_broken [] = None
first_broken (Ok z ∷ rest) = first_broken rest
first_broken (Err rule ∷ rest) = Some rule

-- the numbers where no rule is broken
abbrev pub numbers : List (Result ℤ Rule) → List ℤ
numbers [] = []
numbers (Ok z ∷ rest) = z ∷ numbers rest
numbers (Err rule ∷ rest) = numbers rest

-- the k-th number of a row, from 0
abbrev pub int_at : ℕ → List ℤ → ℤ
int_at k [] = pos 0
int_at zero (z ∷ row) = z
int_at (suc k) (z ∷ row) = int_at k row

-- the k-th number of a row, where it isn't negative
abbrev pub number_at : ℕ → List ℤ → ℕ
number_at k row = nat_abs (int_at k row)
