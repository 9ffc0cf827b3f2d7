-- What a text is read as: the problem that it means, or the first line that is faulty and the first rule that it breaks.
use Rattle.std.specs.Prelude.{ℕ, ◌+◌, List, [], ◌∷◌, length, Option, Some, None, option_map, Result, Ok, Err, if◌then◌else◌}
use Rattle.std.specs.Str.Lines.{lines}
use Rattle.problem_data.specs.declared.problem.Problem.{Problem}
use Rattle.vrp_num.specs.declared.rounding.Rounding.{Rounding}
use Rattle.vrplib_model.specs.declared.refusal.Refusal.{Refusal}
use Rattle.vrplib_model.specs.declared.rule.Rule.{Rule}
use Rattle.vrplib_model.specs.declared.rule.Rule.TheVariants.{RowCount}
use Rattle.vrplib_model.specs.LineKinds.{Line, line_of, is_end}
use Rattle.vrplib_model.specs.Checks.{broken_if}
use Rattle.vrplib_model.specs.Faults.{fault_of}
use Rattle.vrplib_model.specs.WordFaults.{is_short}
use Rattle.vrplib_model.specs.WholeText.{whole_fault}
use Rattle.vrplib_model.specs.Meaning.{problem_of}

-- a refusal at the line behind these
abbrev pub refusal_behind : List Line → Rule → Refusal
refusal_behind before rule = record { line = length before + 1; rule = rule }

-- the same where there is a rule
abbrev pub refusal_if : List Line → Option Rule → Option Refusal
refusal_if before rule = option_map (refusal_behind before) rule

-- the first of two refusals
abbrev pub or_later : Option Refusal → Option Refusal → Option Refusal
or_later None later = later
or_later (Some refusal) later = Some refusal

-- the lines that are read of a text's lines, the nearest to the end first: up to the line `EOF`, and what was read before them
abbrev pub lines_onto : List Line → List (List ℕ) → List Line
lines_onto before [] = before
lines_onto before (text ∷ rest) = if is_end (line_of text) then before else lines_onto (line_of text ∷ before) rest

-- the first faulty line from these on, and the rule that it breaks; the end of the text stands for a line behind the last
unfoldable pub first_fault : Rounding → List Line → List (List ℕ) → Option Refusal
first_fault mode before [] = refusal_if before (broken_if (is_short mode before) RowCount)
first_fault mode before (text ∷ rest) = or_later (refusal_if before (fault_of mode before text))
    (if is_end (line_of text) then None else first_fault mode (line_of text ∷ before) rest)

-- the problem of a text, or its refusal as a whole, at line 0
abbrev pub whole_answer : Option Rule → Problem → Result Problem Refusal
whole_answer None problem = Ok problem
whole_answer (Some rule) problem = Err (record { line = 0; rule = rule })

-- the refusal of a line, or what comes of the whole text
abbrev pub answer : Option Refusal → Result Problem Refusal → Result Problem Refusal
answer None whole = whole
answer (Some refusal) whole = Err refusal

-- what a text is read as
unfoldable pub read : Rounding → List ℕ → Result Problem Refusal
read mode text =
    let all = lines_onto [] (lines text) in
    answer (first_fault mode [] (lines text)) (whole_answer (whole_fault mode all) (problem_of mode all))
