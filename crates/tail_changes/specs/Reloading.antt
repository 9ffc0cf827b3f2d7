-- Whether vehicles may reload as new lists do.
use Rattle.std.specs.Prelude.{ℕ, Bool, List, ◌++◌, slice_range}
use Rattle.problem_data.specs.declared.visit.Visit.{Visit}
use Rattle.routing_model.specs.Lawful.{reloads_as_allowed}
use Rattle.routing_model.specs.Listed.{type_of_vehicle}
use Rattle.routing_model.specs.Routes.{Routes, list_at}
use Rattle.move_core.specs.Searches.{SearchState}
use Rattle.list_changes.specs.declared.layout.Span.{Span}
use Rattle.list_changes.specs.Layouts.{span_of}

-- a vehicle's own first visits, and then a run of another one's
abbrev pub taken : Routes → ℕ → ℕ → ℕ → Span → List Visit
taken routes vehicle left lender span = slice_range (list_at routes vehicle) 0 left ++ span_of (list_at routes lender) span

-- whether a list's reloads are as a vehicle's type allows
abbrev pub may_have : SearchState → ℕ → List Visit → Bool
may_have s vehicle visits = reloads_as_allowed (type_of_vehicle s.problem vehicle) visits
