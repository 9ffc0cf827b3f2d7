-- Checks of the lines that open or end sections, by the lines before them, which are given the nearest first.
use Rattle.std.specs.Prelude.{ℕ, ◌-◌, ◌*◌, ◌/◌, Bool, true, false, not, ◌&&◌, ◌||◌, nat_lt, if◌then◌else◌, List, [], ◌∷◌, length, Option, Some, None, codes}
use Rattle.vrp_num.specs.declared.rounding.Rounding.{Rounding}
use Rattle.vrplib_model.specs.declared.rule.Rule.{Rule}
use Rattle.vrplib_model.specs.declared.rule.Rule.TheVariants.{Missing}
use Rattle.vrplib_model.specs.declared.rule.Key.TheVariants.{Dimension, EdgeWeightType, EdgeWeightFormat}
use Rattle.vrplib_model.specs.Keywords.{Keyword, keyword_of, is_distance, is_of_vehicles, dimension, edge_weight_type, edge_weight_format}
use Rattle.vrplib_model.specs.Sections.{Section, section_of, is_by_node, edge_weight_section, depot_section}
use Rattle.vrplib_model.specs.LineKinds.{Line, section_line, keyword_line, word_line, row}
use Rattle.vrplib_model.specs.Values.{has_keyword, has_value, is_token, node_count, is_explicit, value_rule}
use Rattle.vrplib_model.specs.Rows.{Position, outside, within, next_position, rows_of, numbers_of, has_section}
use Rattle.vrplib_model.specs.Checks.{broken_if, first_of}

-- how many numbers the legs in the text have: a whole table, or one half without the diagonal
abbrev pub weight_count : Rounding → List Line → ℕ
weight_count mode lines =
    let n = node_count mode lines in
    if has_value edge_weight_format (codes "FULL_MATRIX") lines then n * n else n * (n - 1) / 2

-- the section in which the next line stands has too few rows or numbers
abbrev pub is_section_short : Rounding → Section → List Line → Bool
is_section_short mode edge_weight_section lines = nat_lt (length (numbers_of mode edge_weight_section lines)) (weight_count mode lines)
is_section_short mode depot_section lines = false
is_section_short mode s lines = nat_lt (length (rows_of mode s lines)) (if is_by_node s then node_count mode lines else 1)

-- the section that a position stands in, if any, has too few
abbrev pub is_position_short : Rounding → Position → List Line → Bool
is_position_short mode (within s) lines = is_section_short mode s lines
is_position_short mode _ lines = false

-- the section that is open behind these lines has too few rows or numbers
abbrev pub is_short : Rounding → List Line → Bool
is_short mode lines = is_position_short mode (next_position lines) lines

-- a row in no section, or a word line that is none of the others, unless it is passed over
abbrev pub is_stray : Line → Position → Bool
is_stray (row _) outside = true
is_stray word_line outside = true
is_stray word_line (within _) = true
is_stray _ _ = false

-- a known keyword comes again
abbrev pub repeats_keyword : Option Keyword → List Line → Bool
repeats_keyword None before = false
repeats_keyword (Some k) before = has_keyword k before

-- a known section comes again
abbrev pub repeats_section : Option Section → List Line → Bool
repeats_section None before = false
repeats_section (Some s) before = has_section s before

-- the line is a keyword or section that comes again
abbrev pub is_repeated : Line → List Line → Bool
is_repeated (keyword_line key _) before = repeats_keyword (keyword_of key) before
is_repeated (section_line key) before = repeats_section (section_of key) before
is_repeated _ before = false

-- what a section lacks above it: each needs the dimension, and legs in the text need their type and format
abbrev pub section_lacks : Option Section → List Line → Option Rule
section_lacks None before = None
section_lacks (Some edge_weight_section) before = first_of (
    broken_if (not (has_keyword dimension before)) (Missing Dimension)
    ∷ broken_if (not (has_keyword edge_weight_type before)) (Missing EdgeWeightType)
    ∷ broken_if (is_explicit before && not (has_keyword edge_weight_format before)) (Missing EdgeWeightFormat) ∷ [])
section_lacks (Some s) before = broken_if (not (has_keyword dimension before)) (Missing Dimension)

-- what a line lacks above it
abbrev pub lacks : Line → List Line → Option Rule
lacks (section_line key) before = section_lacks (section_of key) before
lacks _ before = None

-- a type of legs that is supported
abbrev pub is_known_type : List (List ℕ) → Bool
is_known_type value = is_token (codes "EUC_2D") value || is_token (codes "EXPLICIT") value

-- the format of legs is a supported one
abbrev pub has_known_format : List Line → Bool
has_known_format lines = has_value edge_weight_format (codes "FULL_MATRIX") lines || has_value edge_weight_format (codes "LOWER_ROW") lines
    || has_value edge_weight_format (codes "UPPER_ROW") lines

-- the value of a keyword isn't supported
abbrev pub is_unsupported_value : Option Keyword → List (List ℕ) → Bool
is_unsupported_value (Some edge_weight_type) value = not (is_known_type value)
is_unsupported_value _ value = false

-- a section comes under a value that isn't supported
abbrev pub is_unsupported_section : Option Section → List Line → Bool
is_unsupported_section (Some edge_weight_section) before = is_explicit before && not (has_known_format before)
is_unsupported_section _ before = false

-- the line is a keyword, a section or a value that isn't supported
abbrev pub is_unsupported : Line → List Line → Bool
is_unsupported (keyword_line key value) before = is_distance key || is_of_vehicles key || is_unsupported_value (keyword_of key) value
is_unsupported (section_line key) before = is_of_vehicles key || is_unsupported_section (section_of key) before
is_unsupported _ before = false

-- the rule that a known keyword's value breaks
abbrev pub known_value_rule : Rounding → Option Keyword → List (List ℕ) → Option Rule
known_value_rule mode None value = None
known_value_rule mode (Some k) value = value_rule mode k value

-- the rule that the value of a keyword line breaks
abbrev pub keyword_fault : Rounding → Line → Option Rule
keyword_fault mode (keyword_line key value) = known_value_rule mode (keyword_of key) value
keyword_fault mode _ = None
