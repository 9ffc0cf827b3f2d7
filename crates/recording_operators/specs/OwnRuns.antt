-- Runs by the public calls.
use Rattle.genetic_model.specs.Ranges.{IsInRange}
use Rattle.local_search.specs.Descents.{NamesPlaces}
use Rattle.population.specs.Populations.{IsKeptIn}
use Rattle.recording_operators.specs.declared.own_run.OwnRun.{OwnRun}

-- the parameters are within their ranges, and what is kept is the problem's
pub record IsOwnRun (run : OwnRun) : Type 0 where
  pub in_range : IsInRange run.params
  pub near : NamesPlaces run.given.now run.near
  pub kept : IsKeptIn run.given.now run.population
