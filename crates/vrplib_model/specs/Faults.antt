-- The fault of a line: the first check that it fails, judged by the lines before it, which are given the nearest first.
use Rattle.std.specs.Prelude.{ℕ, Bool, ◌&&◌, ◌==◌, List, [], ◌∷◌, Option, None}
use Rattle.std.specs.List.{list_any}
use Rattle.vrp_num.specs.declared.rounding.Rounding.{Rounding}
use Rattle.vrplib_model.specs.declared.rule.Rule.{Rule}
use Rattle.vrplib_model.specs.declared.rule.Rule.TheVariants.{NotText, NoKeyword, Repeated, RowCount, Unsupported}
use Rattle.vrplib_model.specs.LineKinds.{Line, row, line_of, ends_section}
use Rattle.vrplib_model.specs.Rows.{Position, within, next_position}
use Rattle.vrplib_model.specs.Checks.{broken_if, first_of}
use Rattle.vrplib_model.specs.WordFaults.{is_short, is_stray, is_repeated, lacks, is_unsupported, keyword_fault}
use Rattle.vrplib_model.specs.RowFaults.{row_fault}

-- the first check that a row fails in the section in which it stands
abbrev pub fault_within : Rounding → Line → Position → List Line → Option Rule
fault_within mode (row tokens) (within s) before = row_fault mode s tokens before
fault_within mode _ _ before = None

-- a byte 0 stands in the text
abbrev pub has_zero : List ℕ → Bool
has_zero text = list_any (λ b. b == 0) text

-- the first check that a line fails
unfoldable pub fault_of : Rounding → List Line → List ℕ → Option Rule
fault_of mode before text =
    let line = line_of text in
    first_of (
    broken_if (has_zero text) NotText
    ∷ broken_if (ends_section line && is_short mode before) RowCount
    ∷ broken_if (is_stray line (next_position before)) NoKeyword
    ∷ broken_if (is_repeated line before) Repeated
    ∷ lacks line before
    ∷ broken_if (is_unsupported line before) Unsupported
    ∷ keyword_fault mode line
    ∷ fault_within mode line (next_position before) before
    ∷ [])
