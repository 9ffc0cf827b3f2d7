-- What reading a keyword's value does to the values that are kept.
use Rattle.std.specs.Prelude.{ℕ, ◌≤◌, Bool, true, false, List, ◌∷◌}
use Rattle.vrp_num.specs.declared.rounding.Rounding.{Rounding}
use Rattle.vrplib_model.specs.declared.keyword.Keyword.{Keyword}
use Rattle.vrplib_model.specs.Keywords.{keyword_name}
use Rattle.vrplib_model.specs.LineKinds.{Line, keyword_line}
use Rattle.vrplib_model.specs.declared.field.Field.{Field}
use Rattle.vrplib_model.specs.declared.field.Field.TheVariants.{Whole as whole, Between as between, Rounded as rounding}
use Rattle.vrplib_rows.specs.declared.keywords.Keywords.{Keywords}
use Rattle.vrplib_rows.specs.KnownKeywords.{KnowsKeywords}

-- a field without negative numbers, which has limits
abbrev pub is_quantity : Field → Bool
is_quantity (whole limit) = true
is_quantity (between low high) = true
is_quantity (rounding limit) = true
is_quantity _ = false

-- a number within the limits of a field
abbrev pub IsWithin : Field → ℕ → Type 0
IsWithin (whole limit) n = n ≤ limit
IsWithin (between low high) n = (low ≤ n) × (n ≤ high)
IsWithin (rounding limit) n = n ≤ limit
IsWithin _ n = Unit {0}

-- the values behind a line of the keyword
abbrev pub AddsValue : Rounding → Keyword → List (List ℕ) → Keywords → Keywords → Type 0
AddsValue mode k value old new =
    (before : List Line) → KnowsKeywords mode before old → KnowsKeywords mode (keyword_line (keyword_name k) value ∷ before) new
