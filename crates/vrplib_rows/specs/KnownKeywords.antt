-- What the values of the keywords read so far say of the lines, which are given the nearest first.
use Rattle.std.specs.Prelude.{◌≡◌, ℕ, Bool, true, false, ◌||◌, List, [], ◌∷◌, Option, Some, is_some, codes}
use Rattle.vrp_num.specs.declared.rounding.Rounding.{Rounding}
use Rattle.vrplib_model.specs.declared.rule.Rule.{Rule}
use Rattle.vrplib_model.specs.declared.rule.Rule.TheVariants.{Repeated, Unsupported}
use Rattle.vrplib_model.specs.declared.keyword.Keyword.{Keyword}
use Rattle.vrplib_model.specs.declared.keyword.Keyword.TheVariants.{Dimension as dimension, EdgeWeightType as edge_weight_type, EdgeWeightFormat as edge_weight_format, Capacity as capacity, Vehicles as vehicles, ServiceTime as service_time, MaxDuration as max_duration, MaxDistance as max_distance}
use Rattle.vrplib_model.specs.Keywords.{keyword_of, is_distance, is_of_vehicles}
use Rattle.vrplib_model.specs.LineKinds.{Line}
use Rattle.vrplib_model.specs.Values.{has_keyword, has_value, keyword_number, is_euclidean, is_explicit}
use Rattle.vrplib_model.specs.Checks.{broken_if, first_of}
use Rattle.vrplib_model.specs.WordFaults.{repeats_keyword, is_unsupported_value, known_value_rule}
use Rattle.vrplib_rows.specs.declared.keywords.Keywords.{Keywords}
use Rattle.vrplib_rows.specs.declared.weight_type.WeightType.{WeightType}
use Rattle.vrplib_rows.specs.declared.weight_type.WeightType.TheVariants.{Euclidean, Explicit}
use Rattle.vrplib_rows.specs.declared.weight_format.WeightFormat.{WeightFormat}
use Rattle.vrplib_rows.specs.declared.weight_format.WeightFormat.TheVariants.{FullMatrix, LowerRow, UpperRow, Other}

-- a type of legs is this one
abbrev pub is_weight_type : WeightType → Option WeightType → Bool
is_weight_type Euclidean (Some Euclidean) = true
is_weight_type Explicit (Some Explicit) = true
is_weight_type _ _ = false

-- a format of legs is this one
abbrev pub is_format : WeightFormat → Option WeightFormat → Bool
is_format FullMatrix (Some FullMatrix) = true
is_format LowerRow (Some LowerRow) = true
is_format UpperRow (Some UpperRow) = true
is_format Other (Some Other) = true
is_format _ _ = false

-- a keyword was given
abbrev pub is_given : Keywords → Keyword → Bool
is_given w dimension = is_some w.dimension
is_given w edge_weight_type = is_some w.weight_type
is_given w edge_weight_format = is_some w.weight_format
is_given w capacity = is_some w.capacity
is_given w vehicles = is_some w.vehicles
is_given w service_time = is_some w.service_time
is_given w max_duration = is_some w.max_duration
is_given w max_distance = is_some w.max_distance

-- the values of the keywords are known
pub record KnowsKeywords (mode : Rounding) (before : List Line) (w : Keywords) : Type 0 where
  pub given : (k : Keyword) → has_keyword k before ≡ is_given w k
  pub dimension : keyword_number mode dimension before ≡ w.dimension
  pub capacity : keyword_number mode capacity before ≡ w.capacity
  pub vehicles : keyword_number mode vehicles before ≡ w.vehicles
  pub service_time : keyword_number mode service_time before ≡ w.service_time
  pub max_duration : keyword_number mode max_duration before ≡ w.max_duration
  pub max_distance : keyword_number mode max_distance before ≡ w.max_distance
  pub euclidean : is_euclidean before ≡ is_weight_type Euclidean w.weight_type
  pub explicit : is_explicit before ≡ is_weight_type Explicit w.weight_type
  pub full : has_value edge_weight_format (codes "FULL_MATRIX") before ≡ is_format FullMatrix w.weight_format
  pub lower : has_value edge_weight_format (codes "LOWER_ROW") before ≡ is_format LowerRow w.weight_format
  pub upper : has_value edge_weight_format (codes "UPPER_ROW") before ≡ is_format UpperRow w.weight_format

-- a fact for all lines whose values are these
abbrev pub ForLines : Keywords → (Rounding → List Line → Type 0) → Type 0
ForLines w P = (mode : Rounding) (before : List Line) → KnowsKeywords mode before w → P mode before

-- the first check that a keyword's line fails, but for the rows of the section that it ends
abbrev pub keyword_line_fault : Rounding → List ℕ → List (List ℕ) → List Line → Option Rule
keyword_line_fault mode key value before = first_of (
    broken_if (repeats_keyword (keyword_of key) before) Repeated
    ∷ broken_if (is_distance key || is_of_vehicles key || is_unsupported_value (keyword_of key) value) Unsupported
    ∷ known_value_rule mode (keyword_of key) value
    ∷ [])
