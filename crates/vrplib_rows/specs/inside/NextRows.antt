-- The row that comes next in a section.
use Rattle.std.specs.Prelude.{◌≡◌, ℕ, ◌+◌, ◌-◌, List, [], ◌∷◌, length, ℤ, Option}
use Rattle.problem_data.specs.Limits.{most_vehicles}
use Rattle.vrp_num.specs.declared.rounding.Rounding.{Rounding}
use Rattle.vrplib_model.specs.declared.rule.Rule.{Rule}
use Rattle.vrplib_model.specs.declared.rule.Rule.TheVariants.{BadNode, EmptyWindow, BadVehicle, BadGroup}
use Rattle.vrplib_rows.specs.declared.next_row.NextRow.{NextRow}
use Rattle.vrplib_model.specs.Checks.{broken_if, first_of}
use Rattle.vrplib_model.specs.Numbers.{field_values, first_broken}
use Rattle.vrplib_model.specs.RowFaults.{has_bad_node, has_empty_window, is_bad_group, is_bad_vehicle}
use Rattle.vrplib_model.specs.declared.section.Section.{Section}
use Rattle.vrplib_model.specs.declared.section.Section.TheVariants.{VehicleTypes as vehicle_types_section}
use Rattle.vrplib_model.specs.Rows.{fields, row_numbers, vehicle_count}

-- the next row comes behind these rows
pub record Follows (next : NextRow) (rows : List (List ℤ)) : Type 0 where
  pub number : next.number ≡ length rows + 1
  pub vehicles : next.section ≡ vehicle_types_section → next.vehicles_left ≡ most_vehicles - vehicle_count rows

-- the first rule that a token of the row breaks
abbrev pub token_fault : Rounding → Section → List (List ℕ) → List (List ℤ) → Option Rule
token_fault mode s tokens rows = first_broken (field_values mode (fields s rows (length tokens)) tokens)

-- the first rule that the row's numbers break, with the rows before it
abbrev pub numbers_fault : ℕ → Section → List ℤ → List (List ℤ) → Option Rule
numbers_fault nodes s row rows = first_of (
    broken_if (has_bad_node nodes s row rows) BadNode
    ∷ broken_if (has_empty_window s row) EmptyWindow
    ∷ broken_if (is_bad_vehicle s row rows) BadVehicle
    ∷ broken_if (is_bad_group s row rows) BadGroup
    ∷ [])

-- the first rule that the row's tokens break, or else its numbers
abbrev pub later_fault : Rounding → Section → List (List ℕ) → ℕ → List (List ℤ) → Option Rule
later_fault mode s tokens nodes rows = first_of (token_fault mode s tokens rows ∷ numbers_fault nodes s (row_numbers mode s rows tokens) rows ∷ [])
