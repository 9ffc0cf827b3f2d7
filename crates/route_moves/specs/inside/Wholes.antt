-- What an exchange of two vehicles' lists changes.
use Rattle.std.specs.Prelude.{ℕ, ◌+◌, ◌≤◌, ◌==◌, ◌&&◌, ◌||◌, Bool, not}
use Rattle.problem_data.specs.declared.problem.Problem.{Problem}
use Rattle.problem_data.specs.Places.{type_of}
use Rattle.routing_model.specs.Routes.{Routes, is_used, list_at}
use Rattle.search_model.specs.declared.candidate.Candidate.{Candidate}
use Rattle.search_model.specs.declared.candidate.Candidate.TheVariants.{Routes as Pair}
use Rattle.search_model.specs.declared.kind.Kind.TheVariants.{SwapRoutes}
use Rattle.search_model.specs.RouteMoves.{are_two_vehicles, is_used_or_least}
use Rattle.move_core.specs.Operators.{operator_reads}
use Rattle.move_core.specs.Searches.{SearchState}
use Rattle.list_changes.specs.declared.change.Change.{Change}
use Rattle.list_changes.specs.declared.layout.Layout.{Layout}
use Rattle.list_changes.specs.Layouts.{lent_layout}
use Rattle.list_changes.specs.Moves.{IsMove}
use Rattle.list_changes.specs.Reads.{improve_reads}

-- the candidate
abbrev pub whole_candidate : ℕ → ℕ → Candidate
whole_candidate first second = Pair SwapRoutes first second

-- whether two vehicles' lists may change places, but for their reloads
abbrev pub may_swap : Problem → Routes → ℕ → ℕ → Bool
may_swap p routes i j =
    are_two_vehicles p i j && not (type_of p i == type_of p j)
    && (is_used (list_at routes i) || is_used (list_at routes j))
    && is_used_or_least p routes i && is_used_or_least p routes j

-- so many visits of another list in the place of all of a list
abbrev pub whole_layout : ℕ → ℕ → Layout
whole_layout size other = lent_layout 0 size 0 other

-- the candidate makes the change, and an operator may read the legs that it takes to see what it improves, and the eight that tell
-- whether it surely doesn't
pub record IsWholeChange (s : SearchState) (first second : ℕ) (change : Change) : Type 0 where
  pub move : IsMove s (whole_candidate first second) change
  pub few : improve_reads s change + 8 ≤ operator_reads s.problem s.routes (whole_candidate first second)
