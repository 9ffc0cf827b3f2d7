-- What the program keeps of an instance, and what it stands for.
use Rattle.std.specs.Prelude.{◌≡◌, ⊤, ℕ, ℤ, ◌++◌, List, [], ◌∷◌, Option, Some, None, option_map}
use Rattle.problem_data.specs.declared.problem.Problem.{Problem}
use Rattle.problem_data.specs.declared.problem.Solution.{Solution}
use Rattle.genetic.specs.declared.found.Found.{Found as SearchFound}
use Rattle.routing_model.specs.Routes.{Routes}
use Rattle.vrp_texts.specs.Printed.{solution_text}
use Rattle.command_model.specs.Outcomes as model
use Rattle.command_model.specs.Outcomes.{program}
use Rattle.pyvrp.specs.Solving.{Tells}
use Rattle.command_model.specs.Command.{effects_of}
use Rattle.vrp_texts.specs.FaultLines.{long_line, refused_line, unread_line}
use Rattle.vrp_texts.specs.Tables.{found_row, none_row, refused_row}
use Rattle.pyvrp.specs.declared.outcome.Answer.{Answer}
use Rattle.pyvrp.specs.declared.outcome.Instance.{Instance}
use Rattle.pyvrp.specs.declared.outcome.Instance.TheVariants.{Unreadable, Oversized, Refused, Solved}

-- the text of a plan with its cost, where there are both
abbrev pub text_with : Problem → Option Routes → Option ℤ → List ℕ
text_with p (Some routes) (Some cost) = solution_text p routes cost
text_with p _ _ = []

-- the plan that a search found, if any
abbrev pub plan_found : SearchFound → Option Routes
plan_found found = option_map (λ (solution : Solution). solution.routes) found.best

-- the answer of what a search found
abbrev pub answer_with : Problem → SearchFound → Answer
answer_with p found = record { cost = found.cost; text = text_with p (plan_found found) found.cost; iterations = found.iterations }

-- what the program keeps of an instance stands for an outcome of the definitions
abbrev pub StandsFor : model.Outcome → Instance → Type 0
StandsFor model.unreadable Unreadable = ⊤
StandsFor model.oversized Oversized = ⊤
StandsFor (model.refused refusal) (Refused shown) = shown ≡ refusal
StandsFor (model.solved problem found) (Solved answer) = Tells problem found answer
StandsFor _ _ = ⊥

-- the text before the table, as the program has it
abbrev pub text_of_cost : Option ℤ → List ℕ → List ℕ
text_of_cost None text = []
text_of_cost (Some cost) text = text ++ 10 ∷ []

abbrev pub text_shown : Instance → List ℕ
text_shown (Solved answer) = text_of_cost answer.cost answer.text
text_shown _ = []

-- the row
abbrev pub row_of_cost : List ℕ → Option ℤ → ℕ → List ℕ
row_of_cost name None iterations = none_row name iterations
row_of_cost name (Some cost) iterations = found_row name cost iterations

abbrev pub row_shown : List ℕ → Instance → List ℕ
row_shown name (Solved answer) = row_of_cost name answer.cost answer.iterations
row_shown name _ = refused_row name

-- how many solutions were found
abbrev pub count_of_cost : Option ℤ → ℕ
count_of_cost None = 0
count_of_cost (Some cost) = 1

abbrev pub count_shown : Instance → ℕ
count_shown (Solved answer) = count_of_cost answer.cost
count_shown _ = 0

-- the line of the fault
abbrev pub fault_shown : List ℕ → Instance → List ℕ
fault_shown name Unreadable = unread_line program name
fault_shown name Oversized = long_line program name
fault_shown name (Refused refusal) = refused_line program name refusal
fault_shown name (Solved answer) = []

-- the status
abbrev pub status_shown : Instance → ℕ
status_shown (Solved answer) = 0
status_shown _ = 1

-- the text is the output of every outcome that the program's stands for
abbrev pub TellsOutput : List ℕ → Instance → List ℕ → Type 0
TellsOutput name shown text = (outcome : model.Outcome) → StandsFor outcome shown → text ≡ (effects_of ((name, outcome) ∷ [])).out

-- the text is its errors
abbrev pub TellsErrors : List ℕ → Instance → List ℕ → Type 0
TellsErrors name shown text = (outcome : model.Outcome) → StandsFor outcome shown → text ≡ (effects_of ((name, outcome) ∷ [])).err

-- the number is its status
abbrev pub TellsStatus : Instance → ℕ → Type 0
TellsStatus shown status = (name : List ℕ) (outcome : model.Outcome) → StandsFor outcome shown → status ≡ (effects_of ((name, outcome) ∷ [])).status
