-- How far a run has come, beside how far that of the definitions has.
use Rattle.std.specs.Prelude.{◌≡◌, ℕ, List, [], ◌∷◌}
use Rattle.routing_model.specs.Routes.{Routes}
use Rattle.genetic_model.specs.Ranges.{IsInRange}
use Rattle.genetic_model.specs.RandomDescent.{RandomDescent, Start}
use Rattle.genetic_model.specs.Run.{Run, run_on}
use Rattle.move_core.specs.declared.tally.Tally.{Tally}
use Rattle.population.specs.Populations.{IsKeptIn, population_of}
use Rattle.random_descents.specs.Rises.{RoseOver}
use Rattle.genetic.specs.declared.run.Run.{Run as RunState}

-- as the definitions have it, after some descents
abbrev pub reached : RunState → List Start → Run
reached run starts = record {
  state = run.generator;
  penalties = run.penalties;
  population = population_of run.population;
  idle = run.idle;
  stale = run.stale;
  improved = run.improved;
  iterations = run.iterations;
  descents = starts;
}

-- what every run is: its parameters are within their ranges, and what it keeps is its problem's
pub record IsRunning (run : RunState) : Type 0 where
  pub in_range : IsInRange run.params
  pub same_descents : run.descents ≡ record { problem = run.given.now; params = run.params.neighbourhood }
  pub kept : IsKeptIn run.given.now run.population
  pub same_sizes : run.population.params ≡ run.params.population

-- two moments of the same run
pub record IsSameRun (before after : RunState) : Type 0 where
  pub problem : after.given.now ≡ before.given.now
  pub params : after.params ≡ before.params

-- two moments of the same iteration
pub record IsSameIteration (before after : RunState) : Type 0 where
  pub run : IsSameRun before after
  pub idle : after.idle ≡ before.idle
  pub stale : after.stale ≡ before.stale
  pub iterations : after.iterations ≡ before.iterations

-- a run has come as far as that of the definitions, and the counts of the kit's operators rose over its descents
pub record Stands (first : List Tally) (run : RunState) (tallies : List Tally) (r : Run) : Type 0 where
  pub same : reached run r.descents ≡ r
  pub rises : RoseOver run.given.now run.params.neighbourhood r.descents first tallies

-- a descent was made: the plan is its plan, the run has come to its state and nothing else has changed, and the counts of the kit's
-- operators rose over it
pub record IsDescended (d : RandomDescent) (before : RunState) (old : List Tally) (routes : Routes) (after : RunState) (new : List Tally) : Type 0 where
  pub same_plan : routes ≡ d.routes
  pub same_state : after.generator ≡ d.state
  pub rises : RoseOver before.given.now before.params.neighbourhood (d.start ∷ []) old new

-- a run stands where so many iterations are left to one of the definitions, and those lead to its end
pub record IsOnItsWay (first : List Tally) (run : RunState) (tallies : List Tally) (left : ℕ) (end : Run) : Type 0 where
  pub r : Run
  pub stands : Stands first run tallies r
  pub same : run_on run.given.now run.params left r ≡ end
