-- The legs that a text gives, by coordinates (TSPLIB 95, EUC_2D) or as numbers (EXPLICIT), and the profiles over them.
use Rattle.std.specs.Prelude.{ℕ, ◌+◌, ◌-◌, ◌*◌, ◌/◌, ◌==◌, nat_lt, if◌then◌else◌, List, [], ◌∷◌, length, map, flat_map, ℤ, codes}
use Rattle.problem_data.specs.declared.problem.Profile.{Profile}
use Rattle.problem_data.specs.Matrix.{Table}
use Rattle.vrp_num.specs.declared.rounding.Rounding.{Rounding}
use Rattle.vrp_num.specs.Rounding.{distance}
use Rattle.vrplib_model.specs.Keywords.{edge_weight_format}
use Rattle.vrplib_model.specs.Sections.{edge_weight_section, profile_section}
use Rattle.vrplib_model.specs.LineKinds.{Line}
use Rattle.vrplib_model.specs.Numbers.{number_at}
use Rattle.vrplib_model.specs.Values.{has_value, node_count, is_explicit}
use Rattle.vrplib_model.specs.Rows.{rows_of, numbers_of, has_section}
use Rattle.vrplib_model.specs.Entries.{nodes, coordinates}

-- where the leg from node i to node j stands among the weights of a whole table, row by row
abbrev pub full_place : ℕ → ℕ → ℕ → ℕ
full_place n i j = (i - 1) * n + (j - 1)

-- the same in the lower triangle without its diagonal, where j is less than i
abbrev pub lower_place : ℕ → ℕ → ℕ
lower_place i j = (i - 1) * (i - 2) / 2 + (j - 1)

-- the same in the upper triangle without its diagonal, where i is less than j
abbrev pub upper_place : ℕ → ℕ → ℕ → ℕ
upper_place n i j = (i - 1) * (2 * n - i) / 2 + (j - i - 1)

-- the same by the format; a triangle has one number for both directions
abbrev pub weight_place : List Line → ℕ → ℕ → ℕ → ℕ
weight_place lines n i j =
    if has_value edge_weight_format (codes "FULL_MATRIX") lines then full_place n i j
    else (if has_value edge_weight_format (codes "LOWER_ROW") lines
    then (if nat_lt j i then lower_place i j else lower_place j i)
    else (if nat_lt i j then upper_place n i j else upper_place n j i))

-- the leg that the text gives
abbrev pub explicit_leg : Rounding → List Line → ℕ → ℕ → ℕ
explicit_leg mode lines i j = number_at (weight_place lines (node_count mode lines) i j) (numbers_of mode edge_weight_section lines)

-- the distance of the two nodes' coordinates
abbrev pub euclidean_leg : Rounding → List Line → ℕ → ℕ → ℕ
euclidean_leg mode lines i j =
    let a = coordinates mode lines i in
    let b = coordinates mode lines j in
    distance mode (a.x, a.y) (b.x, b.y)

-- the leg from node i to node j, before a profile's factor
unfoldable pub base_leg : Rounding → List Line → ℕ → ℕ → ℕ
base_leg mode lines i j = if i == j then 0 else (if is_explicit lines then explicit_leg mode lines i j else euclidean_leg mode lines i j)

-- the table of the legs of all nodes, by a function of two nodes
abbrev pub table_of : List ℕ → (ℕ → ℕ → ℕ) → Table
table_of list leg = record { size = length list; entries = flat_map (λ i. map (leg i) list) list }

-- the profile that a row gives: the base legs times the factors, in thousandths, cut
abbrev pub profile_of_row : Rounding → List Line → List ℤ → Profile
profile_of_row mode lines numbers = record {
  distances = table_of (nodes mode lines) (λ i j. base_leg mode lines i j * number_at 1 numbers / 1000);
  durations = table_of (nodes mode lines) (λ i j. base_leg mode lines i j * number_at 2 numbers / 1000);
}

-- the one profile where no row gives one
abbrev pub only_profile : Rounding → List Line → Profile
only_profile mode lines = record {
  distances = table_of (nodes mode lines) (base_leg mode lines);
  durations = table_of (nodes mode lines) (base_leg mode lines);
}

-- the profiles
abbrev pub profiles : Rounding → List Line → List Profile
profiles mode lines = if has_section profile_section lines then map (profile_of_row mode lines) (rows_of mode profile_section lines)
    else only_profile mode lines ∷ []
