-- The values of keywords in the lines read so far, which are given the nearest first.
use Rattle.std.specs.Prelude.{ℕ, Bool, false, if◌then◌else◌, List, [], ◌∷◌, ℤ, nat_abs, Option, Some, None, Result, Ok, Err, is_some, option_map, option_and_then, unwrap_or, codes, bytes_eq}
use Rattle.problem_data.specs.Limits.{largest, most_places, most_vehicles}
use Rattle.vrp_num.specs.declared.rounding.Rounding.{Rounding}
use Rattle.vrplib_model.specs.declared.rule.Rule.{Rule}
use Rattle.vrplib_model.specs.declared.rule.Rule.TheVariants.{BadNumber}
use Rattle.vrplib_model.specs.Keywords.{Keyword, keyword_name, dimension, edge_weight_type, edge_weight_format, capacity, vehicles, service_time, max_duration, max_distance}
use Rattle.vrplib_model.specs.LineKinds.{Line, keyword_line}
use Rattle.vrplib_model.specs.Numbers.{Field, whole, between, rounding, field_value}

-- what the value of a keyword must be, where it is a number
abbrev pub keyword_field : Keyword → Option Field
keyword_field dimension = Some (between 2 most_places)
keyword_field edge_weight_type = None
keyword_field edge_weight_format = None
keyword_field capacity = Some (whole largest)
keyword_field vehicles = Some (between 1 most_vehicles)
keyword_field service_time = Some (rounding largest)
keyword_field max_duration = Some (rounding largest)
keyword_field max_distance = Some (rounding largest)

-- the rule that a number breaks, if any
abbrev pub rule_of : Result ℤ Rule → Option Rule
rule_of (Ok z) = None
rule_of (Err rule) = Some rule

-- the rule that a value of the keyword breaks: it is one token
abbrev pub value_rule : Rounding → Keyword → List (List ℕ) → Option Rule
value_rule mode k (token ∷ []) = option_and_then (λ field. rule_of (field_value mode field token)) (keyword_field k)
value_rule mode k _ = Some BadNumber

-- the tokens of a keyword's value, where a line gives one
abbrev pub value_tokens : Keyword → List Line → Option (List (List ℕ))
value_tokens k [] = None
value_tokens k (keyword_line key value ∷ older) = if bytes_eq (keyword_name k) key then Some value else value_tokens k older
value_tokens k (_ ∷ older) = value_tokens k older

-- some line gives the keyword
abbrev pub has_keyword : Keyword → List Line → Bool
has_keyword k lines = is_some (value_tokens k lines)

-- the value is this one token
abbrev pub is_token : List ℕ → List (List ℕ) → Bool
is_token word (token ∷ []) = bytes_eq word token
is_token word _ = false

-- the keyword's value is this one token
abbrev pub has_value : Keyword → List ℕ → List Line → Bool
has_value k word lines = unwrap_or (option_map (is_token word) (value_tokens k lines)) false

-- a number's size, where it breaks no rule
abbrev pub size_of : Result ℤ Rule → Option ℕ
size_of (Ok z) = Some (nat_abs z)
size_of (Err rule) = None

-- the number of a value's first token
abbrev pub token_number : Rounding → Field → List (List ℕ) → Option ℕ
token_number mode field [] = None
token_number mode field (token ∷ _) = size_of (field_value mode field token)

-- the number of a keyword's value, or none where no line gives it
abbrev pub keyword_number : Rounding → Keyword → List Line → Option ℕ
keyword_number mode k lines = option_and_then (λ field. option_and_then (token_number mode field) (value_tokens k lines)) (keyword_field k)

-- the number of nodes, or 0 where no line gives it
abbrev pub node_count : Rounding → List Line → ℕ
node_count mode lines = unwrap_or (keyword_number mode dimension lines) 0

-- the legs come from the coordinates
abbrev pub is_euclidean : List Line → Bool
is_euclidean lines = has_value edge_weight_type (codes "EUC_2D") lines

-- the legs come from the text
abbrev pub is_explicit : List Line → Bool
is_explicit lines = has_value edge_weight_type (codes "EXPLICIT") lines
