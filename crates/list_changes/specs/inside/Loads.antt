-- Loads that routes tell, and parts of them.
use Rattle.std.specs.Prelude.{◌≤◌}
use Rattle.problem_data.specs.Limits.{most_visits}
use Rattle.segments.specs.Totals.{largest_total}
use Rattle.list_changes.specs.declared.load.Load.{Load}

-- a load as a route tells it
pub record IsSmallLoad (load : Load) : Type 0 where
  pub delivery : load.delivery ≤ largest_total
  pub pickup : load.pickup ≤ largest_total
  pub reloads : load.reloads ≤ most_visits

-- a load is a part of another one
pub record IsPart (part whole : Load) : Type 0 where
  pub delivery : part.delivery ≤ whole.delivery
  pub pickup : part.pickup ≤ whole.pickup
  pub reloads : part.reloads ≤ whole.reloads
