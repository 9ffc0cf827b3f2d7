-- Marks of clients and of their groups.
use Rattle.std.specs.Prelude.{◌≡◌, ℕ, ◌<◌, Bool, false, true, Option, Some, None, List, length, slice_index_or, slice_set}
use Rattle.std.specs.List.{list_any}
use Rattle.problem_data.specs.declared.problem.Problem.{Problem}
use Rattle.problem_data.specs.declared.visit.Visit.{Visit}
use Rattle.problem_data.specs.declared.visit.Visit.TheVariants.{Client, Reload}
use Rattle.problem_data.specs.Places.{client_at, place_count}
use Rattle.random_model.specs.Groups.{is_same_group}
use Rattle.route_rings.specs.Marks.{AreMarks}
use Rattle.exchange_children.specs.declared.clashes.Clashes.{Clashes}

-- just the groups of these clients are marked
abbrev pub AreGroupMarks : Problem → List Bool → List ℕ → Type 0
AreGroupMarks p marks clients = (g : ℕ) → g < length marks → slice_index_or marks g false ≡ list_any (λ c. is_same_group (Some g) (client_at p c).group) clients

-- with a group marked, if there is one
abbrev pub with_group : List Bool → Option ℕ → List Bool
with_group marks None = marks
with_group marks (Some group) = slice_set marks group true

-- with the group of a visit's client marked, if it is in one
abbrev pub group_marked : Problem → List Bool → Visit → List Bool
group_marked p marks (Client c) = with_group marks (client_at p c).group
group_marked p marks (Reload d) = marks

-- there is a mark for each place and for each group
pub record HasMarks (p : Problem) (c : Clashes) : Type 0 where
  pub places : length c.clients.items ≡ place_count p
  pub groups : length c.groups.items ≡ length p.groups

-- just these clients are marked, and just their groups
pub record AreClashes (p : Problem) (c : Clashes) (clients : List ℕ) : Type 0 where
  pub marked : AreMarks c.clients.items clients
  pub groups : AreGroupMarks p c.groups.items clients
