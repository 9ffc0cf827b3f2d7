-- Whether a client may be visited in the place of another one, by their groups.
use Rattle.std.specs.Prelude.{ℕ, ◌==◌, ◌&&◌, Bool, true, false, List, Option, Some, is_none, if◌then◌else◌}
use Rattle.std.specs.List.{list_all}
use Rattle.problem_data.specs.declared.problem.Problem.{Problem}
use Rattle.problem_data.specs.Places.{client_at}
use Rattle.routing_model.specs.Routes.{Routes}
use Rattle.routing_model.proofs.GroupChanges.{lets_in, lets_out}
use Rattle.search_model.specs.Edits.{position_of}

-- whether none of some clients is visited
abbrev pub are_unvisited : Routes → List ℕ → Bool
are_unvisited routes clients = list_all (λ client. is_none (position_of routes client)) clients

-- whether two clients are of one group
abbrev pub is_same_group : Option ℕ → Option ℕ → Bool
is_same_group (Some group) (Some other) = group == other
is_same_group _ _ = false

-- whether a client may be visited in the place of another one: they are of one group, or the one may come and the other go
abbrev pub lets_stand_for : Problem → Routes → ℕ → ℕ → Bool
lets_stand_for p routes u v = if is_same_group (client_at p u).group (client_at p v).group then true
    else (lets_in p routes (client_at p u).group && lets_out p v (client_at p v).group)
