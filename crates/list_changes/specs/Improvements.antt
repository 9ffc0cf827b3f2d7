-- What new lists improve.
use Rattle.std.specs.Prelude.{Option}
use Rattle.gain_model.specs.Gains.{GainState}
use Rattle.move_core.specs.Searches.{SearchState}
use Rattle.new_lists.specs.Improvements.{IsImprovementTo}
use Rattle.list_changes.specs.declared.change.Change.{Change}
use Rattle.list_changes.specs.Changes.{changed_vehicles, new_plan}

-- a gain that makes the plan with the new lists, which costs less, its sides being the vehicles of the change; or none where that plan
-- costs no less
abbrev pub IsImprovement : SearchState → Change → Option GainState → Type 0
IsImprovement s change found = IsImprovementTo s (new_plan s.routes change) (changed_vehicles change) found
