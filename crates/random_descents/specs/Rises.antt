-- How the counts of a kit's operators rise over some descents.
use Rattle.std.specs.Prelude.{ℕ, ◌<◌, ◌≤◌, List, length, slice_index, slice_index_or}
use Rattle.problem_data.specs.declared.problem.Problem.{Problem}
use Rattle.search_model.specs.declared.kind.Kind.{Kind}
use Rattle.search_model.specs.Kinds.{all_kinds}
use Rattle.genetic_model.specs.declared.params.NeighbourhoodParams.{NeighbourhoodParams}
use Rattle.genetic_model.specs.RandomDescent.{Start}
use Rattle.genetic_model.specs.RunTotals.{candidate_total, move_total, try_total}
use Rattle.move_core.specs.declared.tally.Tally.{Tally}
use Rattle.local_search.specs.Counts.{RoseBy, RoseTogether, all_applied, all_tried}

-- The operators were asked for each candidate of each descent once at least, and at most as often as the descents try one; each one's
-- moves rose by those of its kind that the descents take. A count at its last value stays there.
pub record RoseOver (p : Problem) (near : NeighbourhoodParams) (starts : List Start) (old new : List Tally) : Type 0 where
  pub asked : ℕ
  pub least : candidate_total p near starts ≤ asked
  pub most : asked ≤ try_total p near starts
  pub rose : RoseTogether asked (all_tried old) (all_tried new)
  pub applied : (k : ℕ) (d : Kind) → k < length all_kinds → RoseBy (move_total p near (slice_index_or all_kinds k d) starts) (slice_index (all_applied old) k) (slice_index (all_applied new) k)
