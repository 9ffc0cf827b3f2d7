-- What the keywords' values are behind one line more.
use Rattle.std.proofs.Common.{◌≡◌, ℕ, ◌≤◌, Bool, true, false, cond, refl, ◌∙◌, ap, subst, Option, Some, None, Ok, ℤ, pos, negsuc, List, [], ◌∷◌, arith}
use Rattle.std.specs.Prelude.{◌≤ℤ◌, find, bytes_eq, ◌||◌}
use Rattle.std.specs.List.{AllByRecursion}
use Rattle.std.proofs.lemmas.Int.{ints}
use Rattle.std.proofs.lemmas.Slice.Eq.{bytes_eq-Decides}
use Rattle.vrp_num.specs.declared.rounding.Rounding.{Rounding}
use Rattle.vrplib_model.specs.declared.rule.Rule.{Rule}
use Rattle.vrplib_rows.specs.declared.keywords.Keywords.{Keywords}
use Rattle.vrplib_model.specs.declared.rule.Rule.TheVariants.{Repeated, Unsupported}
use Rattle.vrplib_model.specs.Checks.{broken_if, first_of}
use Rattle.vrplib_model.specs.inside.FaultlessRows.{IsBetween}
use Rattle.vrplib_rows.specs.KnownKeywords.{KnowsKeywords, keyword_line_fault}
use Rattle.vrplib_model.specs.declared.keyword.Keyword.{Keyword}
use Rattle.vrplib_model.specs.declared.keyword.Keyword.TheVariants.{Dimension as dimension, EdgeWeightType as edge_weight_type, EdgeWeightFormat as edge_weight_format, Capacity as capacity, Vehicles as vehicles, ServiceTime as service_time, MaxDuration as max_duration, MaxDistance as max_distance}
use Rattle.vrplib_model.specs.Keywords.{keyword_name, keyword_of, keywords, is_distance, is_of_vehicles}
use Rattle.vrplib_model.specs.LineKinds.{Line, keyword_line}
use Rattle.vrplib_model.specs.declared.field.Field.{Field}
use Rattle.vrplib_model.specs.declared.field.Field.TheVariants.{Whole as whole, Between as between, Rounded as rounding}
use Rattle.vrplib_model.specs.Numbers.{field_value}
use Rattle.vrplib_rows.specs.inside.KeywordValues.{is_quantity, IsWithin}
use Rattle.vrplib_model.specs.Values.{value_tokens}
use Rattle.vrplib_model.specs.WordFaults.{repeats_keyword, is_unsupported_value, known_value_rule}
use Rattle.vrplib_model.proofs.RowBounds.{field-bound}

-- a number in a field without negative numbers
pub record Quantity (f : Field) (z : ℤ) : Type 0 where
  pub size : ℕ
  pub same : z ≡ pos size
  pub within : IsWithin f size

from_zero : (z : ℤ) → pos 0 ≤ℤ z → (n : ℕ) × (z ≡ pos n)
from_zero (pos n) h = (n, refl)
from_zero (negsuc n) h = absurd (omega (arith, ints, h))

up_to : (f : Field) (low high : ℕ) (z : ℤ) → IsBetween low high z → ((n : ℕ) → low ≤ n → n ≤ high → IsWithin f n) → Quantity f z
up_to f low high z h within =
    let least : pos 0 ≤ℤ z = omega (arith, ints, h.least) in
    let found = from_zero z least in
    record { size = found.0; same = found.1; within = within found.0 (omega (arith, ints, h.least, found.1)) (omega (arith, ints, h.most, found.1)) }

pub quantity-value : (mode : Rounding) (f : Field) (token : List ℕ) (z : ℤ) → is_quantity f ≡ true → field_value mode f token ≡ Ok z → Quantity f z
quantity-value mode (whole limit) token z q e = up_to (whole limit) 0 limit z (field-bound mode (whole limit) token z e) (λ n low high. high)
quantity-value mode (between low high) token z q e = up_to (between low high) low high z (field-bound mode (between low high) token z e) (λ n least most. (least, most))
quantity-value mode (rounding limit) token z q e = up_to (rounding limit) 0 limit z (field-bound mode (rounding limit) token z e) (λ n low high. high)
quantity-value mode _ token z q e = absurd (cc)

-- the first element that passes a test passes it, and where none is found none passes
pub find-passes : {X : Type 0} (p : X → Bool) (xs : List X) (x : X) → find p xs ≡ Some x → p x ≡ true
find-passes p [] x e = absurd (cc)
find-passes p (y ∷ ys) x e =
    elim (p y) as (λ v. p y ≡ v → cond v (Some y) (find p ys) ≡ Some x → p x ≡ true) [
      | true ↦ λ h f. let same : y ≡ x = cc in subst (λ z. p z ≡ true) same h
      | false ↦ λ h f. find-passes p ys x f
    ] refl e

pub find-none : {X : Type 0} (p : X → Bool) (xs : List X) → find p xs ≡ None → AllByRecursion (λ x. p x ≡ false) xs
find-none p [] e = tt
find-none p (y ∷ ys) e =
    elim (p y) as (λ v. p y ≡ v → cond v (Some y) (find p ys) ≡ None → (p y ≡ false) × AllByRecursion (λ x. p x ≡ false) ys) [
      | true ↦ λ h f. absurd (cc)
      | false ↦ λ h f. (h, find-none p ys f)
    ] refl e

pub same_bytes : (xs ys : List ℕ) → bytes_eq xs ys ≡ true → xs ≡ ys
same_bytes xs ys e = (bytes_eq-Decides xs ys).0 e

-- a known keyword's key is its name, and no other's
pub keyword_of-name : (key : List ℕ) (k : Keyword) → keyword_of key ≡ Some k → keyword_name k ≡ key
unfolding keyword_of
keyword_of-name key k e = same_bytes (keyword_name k) key (find-passes (λ k. bytes_eq (keyword_name k) key) keywords k e)

pub keyword_of-unknown : (key : List ℕ) → keyword_of key ≡ None → (k : Keyword) → bytes_eq (keyword_name k) key ≡ false
unfolding keyword_of
keyword_of-unknown key e k =
    let none = find-none (λ k. bytes_eq (keyword_name k) key) keywords e in
    elim k as (λ k. bytes_eq (keyword_name k) key ≡ false) [
      | dimension ↦ none.0
      | edge_weight_type ↦ none.1.0
      | edge_weight_format ↦ none.1.1.0
      | capacity ↦ none.1.1.1.0
      | vehicles ↦ none.1.1.1.1.0
      | service_time ↦ none.1.1.1.1.1.0
      | max_duration ↦ none.1.1.1.1.1.1.0
      | max_distance ↦ none.1.1.1.1.1.1.1.0
    ]

-- lines that give the same values are known by the same
pub knows-same : (mode : Rounding) (before after : List Line) (w : Keywords) → ((k : Keyword) → value_tokens k after ≡ value_tokens k before)
    → KnowsKeywords mode before w → KnowsKeywords mode after w
knows-same mode before after w same h = record {
  given = λ k. rw (same k) (h.given k);
  dimension = rw (same dimension) h.dimension;
  capacity = rw (same capacity) h.capacity;
  vehicles = rw (same vehicles) h.vehicles;
  service_time = rw (same service_time) h.service_time;
  max_duration = rw (same max_duration) h.max_duration;
  max_distance = rw (same max_distance) h.max_distance;
  euclidean = rw (same edge_weight_type) h.euclidean;
  explicit = rw (same edge_weight_type) h.explicit;
  full = rw (same edge_weight_format) h.full;
  lower = rw (same edge_weight_format) h.lower;
  upper = rw (same edge_weight_format) h.upper;
}

-- an unknown keyword gives no value
pub unknown-value : (key : List ℕ) (value : List (List ℕ)) (before : List Line) (k : Keyword) → keyword_of key ≡ None
    → value_tokens k (keyword_line key value ∷ before) ≡ value_tokens k before
unknown-value key value before k e = rw (keyword_of-unknown key e k) refl

-- the first of two checks, and of one more
found-early : (rule : Rule) (a b c : Option Rule) → Some rule ≡ first_of (a ∷ b ∷ []) → Some rule ≡ first_of (a ∷ b ∷ c ∷ [])
found-early rule (Some r) b c e = e
found-early rule None (Some r) c e = e
found-early rule None None c e = absurd (cc)

passed-early : (a b c : Option Rule) → None ≡ first_of (a ∷ b ∷ []) → c ≡ first_of (a ∷ b ∷ c ∷ [])
passed-early (Some r) b c e = absurd (cc)
passed-early None (Some r) c e = absurd (cc)
passed-early None None (Some r) e = refl
passed-early None None None e = refl

-- a keyword's line that is faulty before its value is read, and one that isn't
abbrev early_fault : Option Keyword → List ℕ → List (List ℕ) → List Line → Option Rule
early_fault keyword key value before = first_of (
    broken_if (repeats_keyword keyword before) Repeated
    ∷ broken_if (is_distance key || is_of_vehicles key || is_unsupported_value keyword value) Unsupported
    ∷ [])

pub keyword_line-found : (mode : Rounding) (keyword : Option Keyword) (key : List ℕ) (value : List (List ℕ)) (before : List Line) (rule : Rule)
    → keyword ≡ keyword_of key → Some rule ≡ early_fault keyword key value before → Some rule ≡ keyword_line_fault mode key value before
keyword_line-found mode keyword key value before rule same e =
    found-early rule (broken_if (repeats_keyword (keyword_of key) before) Repeated)
    (broken_if (is_distance key || is_of_vehicles key || is_unsupported_value (keyword_of key) value) Unsupported)
    (known_value_rule mode (keyword_of key) value) (e ∙ ap (λ keyword. early_fault keyword key value before) same)

pub keyword_line-passed : (mode : Rounding) (keyword : Option Keyword) (key : List ℕ) (value : List (List ℕ)) (before : List Line)
    → keyword ≡ keyword_of key → None ≡ early_fault keyword key value before → known_value_rule mode keyword value ≡ keyword_line_fault mode key value before
keyword_line-passed mode keyword key value before same e =
    ap (λ keyword. known_value_rule mode keyword value) same ∙
    passed-early (broken_if (repeats_keyword (keyword_of key) before) Repeated)
    (broken_if (is_distance key || is_of_vehicles key || is_unsupported_value (keyword_of key) value) Unsupported)
    (known_value_rule mode (keyword_of key) value) (e ∙ ap (λ keyword. early_fault keyword key value before) same)
