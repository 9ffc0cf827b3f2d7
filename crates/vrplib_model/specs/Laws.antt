-- A law of the reading.
use Rattle.std.specs.Prelude.{◌≡◌, ℕ, List, Ok}
use Rattle.problem_data.specs.declared.problem.Problem.{Problem}
use Rattle.problem_data.specs.Valid.{IsValid}
use Rattle.vrp_num.specs.declared.rounding.Rounding.{Rounding}
use Rattle.vrplib_model.specs.Reading.{read}

-- each text that is read means a valid problem
abbrev pub AcceptedIsValid : Type 0
AcceptedIsValid = (mode : Rounding) (text : List ℕ) (p : Problem) → read mode text ≡ Ok p → IsValid p
