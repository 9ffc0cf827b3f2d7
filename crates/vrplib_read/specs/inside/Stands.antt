-- How what the reader keeps stands to the lines read so far, which are given the nearest first.
use Rattle.std.specs.Prelude.{◌≡◌, true, false, List, [], Option, Some, None}
use Rattle.indexmap.specs.IndexMap.{get}
use Rattle.vrp_num.specs.declared.rounding.Rounding.{Rounding}
use Rattle.vrplib_read.specs.declared.reading.Reading.{Reading}
use Rattle.vrplib_model.specs.declared.section.Section.{Section}
use Rattle.vrplib_model.specs.Sections.{same_section}
use Rattle.vrplib_model.specs.LineKinds.{Line}
use Rattle.vrplib_model.specs.Rows.{next_position, rows_of, has_section}
use Rattle.vrplib_model.specs.Values.{node_count}
use Rattle.vrplib_rows.specs.KnownKeywords.{KnowsKeywords}
use Rattle.vrplib_rows.specs.KeptRows.{Listed}

-- the rows of a section are known
abbrev pub KnowsSection : Rounding → List Line → Section → Option Listed → Type 0
KnowsSection mode before s None = (has_section s before ≡ false) × (rows_of mode s before ≡ [])
KnowsSection mode before s (Some listed) =
    (has_section s before ≡ true) × (listed ≡ record { section = s; nodes = node_count mode before; rows = rows_of mode s before })

-- all that later lines are judged by is known
pub record Stands (mode : Rounding) (before : List Line) (r : Reading) : Type 0 where
  pub same_mode : r.mode ≡ mode
  pub position : r.position ≡ next_position before
  pub keywords : KnowsKeywords mode before r.keywords
  pub sections : (s : Section) → KnowsSection mode before s (get same_section r.sections s)
