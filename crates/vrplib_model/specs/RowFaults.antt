-- Checks of a section's row, by the lines before it, which are given the nearest first.
use Rattle.std.specs.Prelude.{ℕ, ◌+◌, Bool, true, false, not, ◌&&◌, ◌||◌, ◌==◌, nat_lt, nat_le, List, [], ◌∷◌, ◌++◌, length, drop, flat_map, ℤ, Option, None}
use Rattle.problem_data.specs.Limits.{most_groups, most_profiles, most_types}
use Rattle.vrp_num.specs.declared.rounding.Rounding.{Rounding}
use Rattle.vrplib_model.specs.declared.rule.Rule.{Rule}
use Rattle.vrplib_model.specs.declared.rule.Rule.TheVariants.{RowCount, BadNode, Limit, EmptyWindow, BadVehicle, BadGroup}
use Rattle.vrplib_model.specs.Sections.{Section, is_by_node, node_coord_section, time_window_section, edge_weight_section, depot_section, group_section, profile_section, vehicle_types_section}
use Rattle.vrplib_model.specs.LineKinds.{Line}
use Rattle.vrplib_model.specs.Numbers.{is_minus_one_token, field_values, first_broken, number_at}
use Rattle.vrplib_model.specs.Values.{node_count}
use Rattle.vrplib_model.specs.Rows.{fields, row_numbers, rows_of, nodes_of}
use Rattle.vrplib_model.specs.Checks.{broken_if, first_of, has_repeated, has_node_outside}
use Rattle.vrplib_model.specs.WordFaults.{weight_count}

-- a token of -1 with a further token behind it
abbrev pub goes_on_after_end : List (List ℕ) → Bool
goes_on_after_end [] = false
goes_on_after_end (token ∷ []) = false
goes_on_after_end (token ∷ next ∷ rest) = is_minus_one_token token || goes_on_after_end (next ∷ rest)

-- a row of the section may have these tokens
abbrev pub has_right_length : Section → List (List ℕ) → Bool
has_right_length node_coord_section tokens = length tokens == 3
has_right_length time_window_section tokens = length tokens == 3
has_right_length edge_weight_section tokens = true
has_right_length depot_section tokens = not (goes_on_after_end tokens)
has_right_length group_section tokens = nat_le 2 (length tokens)
has_right_length profile_section tokens = length tokens == 3
has_right_length vehicle_types_section tokens = nat_le 14 (length tokens)
has_right_length s tokens = length tokens == 2

-- the rule that a row more, or a number more, breaks, given how many nodes and weights the text has and the rows before it
abbrev pub excess : Section → List (List ℕ) → ℕ → ℕ → List (List ℤ) → Option Rule
excess edge_weight_section tokens nodes weights rows = broken_if (nat_lt weights (length (flat_map (λ numbers. numbers) rows) + length tokens)) RowCount
excess depot_section tokens nodes weights rows = None
excess group_section tokens nodes weights rows = broken_if (nat_le most_groups (length rows)) Limit
excess profile_section tokens nodes weights rows = broken_if (nat_le most_profiles (length rows)) Limit
excess vehicle_types_section tokens nodes weights rows = broken_if (nat_le most_types (length rows)) Limit
excess s tokens nodes weights rows = broken_if (nat_le nodes (length rows)) RowCount

-- the nodes that a row of the section names, of the n nodes
abbrev pub nodes_named : Section → List ℤ → List ℕ
nodes_named edge_weight_section numbers = []
nodes_named profile_section numbers = []
nodes_named depot_section numbers = nodes_of numbers
nodes_named group_section numbers = nodes_of (drop 1 numbers)
nodes_named vehicle_types_section numbers = number_at 3 numbers ∷ number_at 4 numbers ∷ nodes_of (drop 14 numbers)
nodes_named s numbers = number_at 0 numbers ∷ []

-- the section names each node at most once
abbrev pub names_once : Section → Bool
names_once depot_section = true
names_once s = is_by_node s

-- a node doesn't exist, or comes again in a section that names each at most once
abbrev pub has_bad_node : ℕ → Section → List ℤ → List (List ℤ) → Bool
has_bad_node n s numbers rows =
    has_node_outside n (nodes_named s numbers)
    || (names_once s && has_repeated (nodes_named s numbers ++ flat_map (nodes_named s) rows))

-- a window ends before it begins
abbrev pub has_empty_window : Section → List ℤ → Bool
has_empty_window time_window_section numbers = nat_lt (number_at 2 numbers) (number_at 1 numbers)
has_empty_window vehicle_types_section numbers = nat_lt (number_at 9 numbers) (number_at 8 numbers)
has_empty_window s numbers = false

-- depots follow where reloads is 0, or none follows where it is above 0
abbrev pub has_other_reloads : ℕ → List ℤ → Bool
has_other_reloads reloads [] = nat_lt 0 reloads
has_other_reloads reloads (_ ∷ _) = reloads == 0

-- types are numbered in order, reload depots differ, and there are some exactly where reloads is above 0
abbrev pub is_bad_vehicle : Section → List ℤ → List (List ℤ) → Bool
is_bad_vehicle vehicle_types_section numbers rows =
    not (number_at 0 numbers == length rows + 1)
    || has_repeated (nodes_of (drop 14 numbers))
    || has_other_reloads (number_at 13 numbers) (drop 14 numbers)
is_bad_vehicle s numbers rows = false

-- groups are numbered in order, and no node is in a group twice or in two
abbrev pub is_bad_group : Section → List ℤ → List (List ℤ) → Bool
is_bad_group group_section numbers rows =
    not (number_at 0 numbers == length rows + 1)
    || has_repeated (nodes_named group_section numbers ++ flat_map (nodes_named group_section) rows)
is_bad_group s numbers rows = false

-- the first check that a row of the section fails, given how many nodes and weights the text has and the rows before it
unfoldable pub fault_of_row : Rounding → Section → List (List ℕ) → ℕ → ℕ → List (List ℤ) → Option Rule
fault_of_row mode s tokens nodes weights rows =
    let numbers = row_numbers mode s rows tokens in
    first_of (
    broken_if (not (has_right_length s tokens)) RowCount
    ∷ excess s tokens nodes weights rows
    ∷ first_broken (field_values mode (fields s rows (length tokens)) tokens)
    ∷ broken_if (has_bad_node nodes s numbers rows) BadNode
    ∷ broken_if (has_empty_window s numbers) EmptyWindow
    ∷ broken_if (is_bad_vehicle s numbers rows) BadVehicle
    ∷ broken_if (is_bad_group s numbers rows) BadGroup
    ∷ [])

-- the first check that a row of the section fails
abbrev pub row_fault : Rounding → Section → List (List ℕ) → List Line → Option Rule
row_fault mode s tokens before = fault_of_row mode s tokens (node_count mode before) (weight_count mode before) (rows_of mode s before)
