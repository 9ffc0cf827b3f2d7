-- Ways that go on over visits.
use Rattle.std.specs.Prelude.{◌≡◌, ℕ, ◌+◌, ◌*◌, ◌<◌, ◌≤◌, List}
use Rattle.problem_data.specs.declared.problem.Problem.{Problem}
use Rattle.problem_data.specs.declared.visit.Visit.{Visit}
use Rattle.problem_data.specs.Places.{leg_distance, place_count}
use Rattle.routing_model.proofs.Paths.{path, path_end}
use Rattle.segments.specs.Totals.{largest_total}
use Rattle.list_changes.specs.declared.way.Way.{Way}

-- a way goes on over some visits: it ends at the last of them, and is at least as far as is said
pub record GoesOn (p : Problem) (profile : ℕ) (visits : List Visit) (before after : Way) : Type 0 where
  pub ends : after.place ≡ path_end before.place visits
  pub least : after.far ≤ before.far + path (leg_distance p profile) before.place visits
  pub there : after.place < place_count p
  pub small : after.far ≤ before.far + 2 * largest_total
