-- The new lists that candidates make, and the answers to them.
use Rattle.std.specs.Prelude.{◌≡◌, ℕ, All, IsTrue, Option, Some}
use Rattle.list_words.specs.Lists.{is_in}
use Rattle.routing_model.specs.Lawful.{is_lawful}
use Rattle.search_model.specs.declared.candidate.Candidate.{Candidate}
use Rattle.search_model.specs.Moves.{moved}
use Rattle.gain_model.specs.CandidateVehicles.{vehicles_of}
use Rattle.gain_model.specs.Gains.{GainState}
use Rattle.gain_model.specs.Operators.{IsEvaluation}
use Rattle.move_core.specs.Searches.{SearchState}
use Rattle.new_lists.specs.declared.new_list.NewLists.{NewLists}
use Rattle.new_lists.specs.NewLists.{AreNewLists, plan_of, vehicles_in}

-- a vehicle is a candidate's
abbrev pub IsVehicleOf : SearchState → Candidate → ℕ → Type 0
IsVehicleOf s candidate vehicle = IsTrue (is_in (vehicles_of s.problem s.routes candidate) vehicle)

-- the answer to a candidate
abbrev pub IsAnswerTo : SearchState → Candidate → Option GainState → Type 0
IsAnswerTo s candidate found = IsEvaluation s.problem s.weights s.routes candidate found

-- a candidate makes the plan with the new lists, of its own vehicles
pub record MakesLists (s : SearchState) (candidate : Candidate) (lists : NewLists) : Type 0 where
  pub new : AreNewLists s lists
  pub makes : moved s.problem s.weights s.routes candidate ≡ Some (plan_of s.routes lists)
  pub lawful : IsTrue (is_lawful s.problem (plan_of s.routes lists))
  pub own : All (IsVehicleOf s candidate) (vehicles_in lists)
