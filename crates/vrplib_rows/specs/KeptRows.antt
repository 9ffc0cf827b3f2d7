-- The rows of a section that are kept, and the first of them that names a node.
use Rattle.std.specs.Prelude.{ℕ, List, map, position, ℤ, Option}
use Rattle.vrplib_model.specs.declared.section.Section.{Section}
use Rattle.vrplib_model.specs.Checks.{contains}
use Rattle.vrplib_model.specs.RowFaults.{nodes_named}

-- the rows of a section, in a text of so many nodes
pub record Listed : Type 0 where
  pub section : Section
  pub nodes : ℕ
  pub rows : List (List ℤ)

-- the nodes that each row names
abbrev pub names : Listed → List (List ℕ)
names l = map (nodes_named l.section) l.rows

-- the first row that names a node
abbrev pub first_naming : Listed → ℕ → Option ℕ
first_naming l node = position (contains node) (names l)
