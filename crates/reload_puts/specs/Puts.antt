-- The candidates that put a client behind another one with a reload beside it, and the plans with each depot.
use Rattle.std.specs.Prelude.{ℕ, List, [], ◌∷◌}
use Rattle.problem_data.specs.declared.visit.Visit.{Visit}
use Rattle.problem_data.specs.declared.visit.Visit.TheVariants.{Client, Reload}
use Rattle.routing_model.specs.Routes.{Routes}
use Rattle.routing_model.specs.Tidy.{tidied_routes}
use Rattle.search_model.specs.declared.candidate.Candidate.{Candidate}
use Rattle.search_model.specs.declared.candidate.Candidate.TheVariants.{Node}
use Rattle.search_model.specs.declared.candidate.Target.TheVariants as target
use Rattle.search_model.specs.declared.kind.Kind.{Kind}
use Rattle.search_model.specs.declared.kind.Kind.TheVariants.{DepotAfter, DepotBefore}
use Rattle.search_model.specs.Edits.{substituted}
use Rattle.search_model.specs.Reloads.{with_behind}
use Rattle.move_core.specs.Searches.{SearchState}
use Rattle.reload_puts.specs.declared.beside.Beside.{Beside}
use Rattle.reload_puts.specs.declared.beside.Beside.TheVariants.{After, Before}

-- the kind of moves
abbrev pub put_kind : Beside → Kind
put_kind Before = DepotBefore
put_kind After = DepotAfter

-- the candidate of a client and its new neighbour
abbrev pub put_candidate : Beside → ℕ → ℕ → Candidate
put_candidate beside client neighbour = Node (put_kind beside) client (target.After neighbour)

-- what comes behind the neighbour
abbrev pub put_visits : Beside → ℕ → ℕ → List Visit
put_visits Before client depot = Reload depot ∷ Client client ∷ []
put_visits After client depot = Client client ∷ Reload depot ∷ []

-- the plan with a reload at a depot, tidied
abbrev pub put_plan : SearchState → Beside → ℕ → ℕ → ℕ → Routes
put_plan s beside client neighbour depot = tidied_routes (substituted (with_behind client neighbour (put_visits beside client depot)) s.routes)
