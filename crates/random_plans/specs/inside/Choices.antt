-- How a walk over the clients keeps which groups it met, and what a choice does.
use Rattle.std.specs.Prelude.{ℕ, ◌==◌, Bool, true, false, Some, List, length, map, slice_index_or, if◌then◌else◌}
use Rattle.std.specs.List.{list_any, range_with_len}
use Rattle.problem_data.specs.declared.problem.Problem.{Problem}
use Rattle.problem_data.specs.Places.{client_at, group_at}
use Rattle.routing_model.specs.Lawful.{is_required_group}
use Rattle.vrp_num.specs.Words.{State}
use Rattle.random_model.specs.Draws.{below}
use Rattle.random_model.specs.Groups.{is_same_group}
use Rattle.random_model.specs.RandomSolution.{chosen, passed_over, by_draw}
use Rattle.random_model.specs.RandomSolution as model
use Rattle.random_plans.specs.declared.choosing.Choice.{Choice}
use Rattle.random_plans.specs.declared.choosing.Choice.TheVariants.{Chosen, PassedOver, ByDraw}

-- whether a client of the group is among those met
abbrev pub is_group_met : Problem → List ℕ → ℕ → Bool
is_group_met p met group = list_any (λ d. is_same_group (Some group) (client_at p d).group) met

-- for each group, whether a client of it is among those met
unfoldable pub group_marks : Problem → List ℕ → List Bool
group_marks p met = map (is_group_met p met) (range_with_len 0 (length p.groups))

-- how it is decided for a member of a group, by the marks of the groups met
abbrev pub choice_by_group : Problem → List Bool → ℕ → model.Choice
choice_by_group p marks group =
    if slice_index_or marks group false then passed_over else (if is_required_group p (group_at p group) then chosen else by_draw)

-- the choice that the code's names
abbrev pub meaning : Choice → model.Choice
meaning Chosen = chosen
meaning PassedOver = passed_over
meaning ByDraw = by_draw

-- whether the client is chosen, where the generator stands at a state
abbrev pub is_taken : model.Choice → State → Bool
is_taken chosen s = true
is_taken passed_over s = false
is_taken by_draw s = (below 2 s).value == 1

-- the generator's state after the choice
abbrev pub state_past : model.Choice → State → State
state_past chosen s = s
state_past passed_over s = s
state_past by_draw s = (below 2 s).state
