-- What is kept of rows that name more nodes than there are.
use Rattle.std.specs.Prelude.{◌≡◌, ℕ, ◌<◌, List, length, drop, get_or, ℤ, pos, Option, Some, None}
use Rattle.vrplib_rows.specs.declared.long_row.Tail.{Tail}
use Rattle.vrplib_model.specs.Checks.{has_node_outside}
use Rattle.vrplib_rows.specs.inside.NextRows.{token_fault}
use Rattle.vrplib_model.specs.Rows.{nodes_of, row_numbers}
use Rattle.vrp_num.specs.declared.rounding.Rounding.{Rounding}
use Rattle.vrplib_model.specs.declared.section.Section.{Section}
use Rattle.vrplib_model.specs.declared.section.Section.TheVariants.{Depot as depot_section, Group as group_section, VehicleTypes as vehicle_types_section}

-- where the nodes begin that end a row of the section, in sections whose rows name any number of them
abbrev pub nodes_from : Section → Option ℕ
nodes_from depot_section = Some 0
nodes_from group_section = Some 1
nodes_from vehicle_types_section = Some 14
nodes_from _ = None

-- the first numbers of a row, and 0 where it has none
pub record AreHead (head row : List ℤ) : Type 0 where
  pub each : (k : ℕ) → k < length head → get_or head k (pos 0) ≡ get_or row k (pos 0)

-- the nodes that end a row, from a place on, of the n nodes
pub record IsTail (first n : ℕ) (row : List ℤ) (tail : Tail) : Type 0 where
  pub count : tail.count ≡ length (nodes_of (drop first row))
  pub outside : tail.outside ≡ has_node_outside n (nodes_of (drop first row))

-- this is kept of the row of these tokens, and none of them breaks a rule
pub record IsKeptOf (mode : Rounding) (s : Section) (rows : List (List ℤ)) (tokens : List (List ℕ)) (first n : ℕ) (head : List ℤ) (tail : Tail) : Type 0 where
  pub unbroken : token_fault mode s tokens rows ≡ None
  pub heads : AreHead head (row_numbers mode s rows tokens)
  pub tails : IsTail first n (row_numbers mode s rows tokens) tail
