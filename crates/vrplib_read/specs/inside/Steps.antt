-- What one line does to what the reader keeps. The lines before it are given the nearest first.
use Rattle.std.specs.Prelude.{◌≡◌, ℕ, ◌&&◌, List, [], ◌∷◌, ◌++◌, Option, Some, None, if◌then◌else◌}
use Rattle.vrp_num.specs.declared.rounding.Rounding.{Rounding}
use Rattle.vrplib_model.specs.declared.rule.Rule.{Rule}
use Rattle.vrplib_model.specs.declared.rule.Rule.TheVariants.{NoKeyword, Repeated, RowCount, Unsupported}
use Rattle.vrplib_model.specs.LineKinds.{Line, line_of, is_end, ends_section}
use Rattle.vrplib_model.specs.Rows.{next_position, row_numbers}
use Rattle.vrplib_model.specs.Checks.{broken_if, first_of}
use Rattle.vrplib_model.specs.WordFaults.{is_short, is_stray, is_repeated, lacks, is_unsupported, keyword_fault}
use Rattle.vrplib_model.specs.Faults.{fault_within, fault_of}
use Rattle.vrplib_model.specs.declared.section.Section.{Section}
use Rattle.vrplib_model.specs.Sections.{same_section}
use Rattle.vrplib_rows.specs.KeptRows.{Listed}
use Rattle.vrplib_read.specs.declared.reading.Reading.{Reading}
use Rattle.vrplib_read.specs.inside.Stands.{Stands}

-- of which section rows are, and of how many nodes
abbrev pub kind_of : Listed → Section × ℕ
kind_of l = (l.section, l.nodes)

-- the rows of a section behind a line that opens one, if it is a known one: it has no rows yet
abbrev pub opened_rows : Option Section → ℕ → Section → Option Listed → Option Listed
opened_rows None nodes s found = found
opened_rows (Some t) nodes s found = if same_section t s then Some (record { section = t; nodes = nodes; rows = [] }) else found

-- the rows with one row more
abbrev pub with_row : Rounding → List (List ℕ) → Listed → Listed
with_row mode tokens l = record l { rows = l.rows ++ row_numbers mode l.section l.rows tokens ∷ [] }

-- the first check that a line fails, whatever its bytes are
unfoldable pub fault_of_line : Rounding → Line → List Line → Option Rule
fault_of_line mode line before = first_of (
    broken_if (ends_section line && is_short mode before) RowCount
    ∷ broken_if (is_stray line (next_position before)) NoKeyword
    ∷ broken_if (is_repeated line before) Repeated
    ∷ lacks line before
    ∷ broken_if (is_unsupported line before) Unsupported
    ∷ keyword_fault mode line
    ∷ fault_within mode line (next_position before) before
    ∷ [])

-- the lines that are read behind a line: `EOF` isn't one of them
abbrev pub behind : Line → List Line → List Line
behind line before = if is_end line then before else line ∷ before

-- a line is judged by the lines before it, and kept where it is faultless
pub record Judges (old : Reading) (line : Line) (fault : Option Rule) (new : Reading) (before : List Line) : Type 0 where
  pub judged : fault ≡ fault_of_line old.mode line before
  pub kept : fault ≡ None → Stands old.mode (behind line before) new

-- a line of the text is judged by the lines before it, and kept where it is faultless
pub record JudgesText (old : Reading) (text : List ℕ) (fault : Option Rule) (new : Reading) (before : List Line) : Type 0 where
  pub judged : fault ≡ fault_of old.mode before text
  pub kept : fault ≡ None → Stands old.mode (behind (line_of text) before) new
