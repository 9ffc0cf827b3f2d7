-- What the reader answers, by the definition of what a text is read as.
use Rattle.std.specs.Prelude.{◌≡◌, ⊤, ℕ, List, Ok, Err}
use Rattle.problem_data.specs.declared.problem.Problem.{Problem}
use Rattle.problem_data.specs.Valid.{IsValid}
use Rattle.vrp_num.specs.declared.rounding.Rounding.{Rounding}
use Rattle.vrplib_read.specs.declared.read_fault.ReadFault.{ReadFault}
use Rattle.vrplib_read.specs.declared.read_fault.ReadFault.TheVariants.{Refused, NoMemory}
use Rattle.vrplib_model.specs.Reading.{read}

-- the problem is the one that the text is read as, and valid
pub record IsReading (mode : Rounding) (text : List ℕ) (problem : Problem) : Type 0 where
  pub accepted : read mode text ≡ Ok problem
  pub valid : IsValid problem

-- a refusal is the one that the text is read as
abbrev pub RefusesAsRead : Rounding → List ℕ → ReadFault → Type 0
RefusesAsRead mode text (Refused refusal) = read mode text ≡ Err refusal
RefusesAsRead mode text NoMemory = ⊤
