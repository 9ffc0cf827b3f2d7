-- What comes of an instance: what the files answered of it, what it is read as, and what the search finds.
use Rattle.std.specs.Prelude.{ℕ, Bool, true, false, ⊤, List, [], Option, Some, None, option_map, Result, Ok, Err, pos, codes}
use Rattle.outside_model.specs.Files.{Load, failed, too_long, loaded}
use Rattle.problem_data.specs.declared.problem.Problem.{Problem}
use Rattle.vrp_num.specs.declared.rounding.Rounding.{Rounding}
use Rattle.vrp_num.specs.declared.rounding.Rounding.TheVariants.{Round}
use Rattle.vrplib_model.specs.declared.refusal.Refusal.{Refusal}
use Rattle.vrplib_model.specs.Reading.{read}
use Rattle.routing_model.specs.Best.{Best, Found, IsFeasibleBest}
use Rattle.vrp_texts.specs.Printed.{solution_text}
use Rattle.vrp_texts.specs.Tables.{found_row, none_row, refused_row}
use Rattle.vrp_texts.specs.FaultLines.{unread_line, long_line, refused_line}

-- the name of the program, with which the lines of its faults begin
abbrev pub program : List ℕ
program = codes "pyvrp"

-- the search, as a function of a problem
abbrev pub Search : Type 0
Search = Problem → Found

-- what came of an instance
pub data Outcome : Type 0 where
  unreadable : Outcome
  oversized : Outcome
  refused : Refusal → Outcome
  solved : Problem → Found → Outcome

-- what comes of a text that is read: its problem is searched, or it is refused
abbrev pub outcome_of_reading : Search → Result Problem Refusal → Outcome
outcome_of_reading search (Ok problem) = solved problem (search problem)
outcome_of_reading search (Err refusal) = refused refusal

-- what comes of a load whose text is read in a mode
abbrev pub outcome_in : Rounding → Search → Load → Outcome
outcome_in mode search failed = unreadable
outcome_in mode search too_long = oversized
outcome_in mode search (loaded text) = outcome_of_reading search (read mode text)

-- the same, distances rounded to the nearest
abbrev pub outcome_of : Search → Load → Outcome
outcome_of search load = outcome_in Round search load

-- a plan that was found is lawful, within every limit, and costs what is said, by all weights
abbrev pub IsFeasibleOutcome : Outcome → Type 0
IsFeasibleOutcome (solved problem found) = IsFeasibleBest problem found.best
IsFeasibleOutcome _ = ⊤

-- an instance's name and what came of it
abbrev pub Instance : Type 0
Instance = List ℕ × Outcome

-- the text of the best plan, if any
abbrev pub text_of_best : Problem → Option Best → Option (List ℕ)
text_of_best problem best = option_map (λ (b : Best). solution_text problem b.routes (pos b.cost)) best

-- the text of the plan that was found, if any
abbrev pub text_of : Outcome → Option (List ℕ)
text_of (solved problem found) = text_of_best problem found.best
text_of _ = None

-- the row of an instance that was searched
abbrev pub row_of_best : List ℕ → Option Best → ℕ → List ℕ
row_of_best name (Some best) iterations = found_row name (pos best.cost) iterations
row_of_best name None iterations = none_row name iterations

-- the row of an instance
abbrev pub row_of : Instance → List ℕ
row_of (name, solved problem found) = row_of_best name found.best found.iterations
row_of (name, _) = refused_row name

-- the line of an instance's fault, where it has one
abbrev pub fault_line : Instance → List ℕ
fault_line (name, unreadable) = unread_line program name
fault_line (name, oversized) = long_line program name
fault_line (name, refused refusal) = refused_line program name refusal
fault_line (name, solved problem found) = []

-- the instance wasn't searched
abbrev pub is_faulty : Outcome → Bool
is_faulty (solved problem found) = false
is_faulty _ = true
