use Rattle.std.proofs.Common.{◌<◌}
use Rattle.std.specs.Prelude.{slice_index}
use Rattle.std.proofs.lemmas.List.Elements.{All-get_or}
use Rattle.problem_data.specs.Places.{place_count}
use Rattle.search_model.specs.Kinds.{all_kinds}
use Rattle.search_model.specs.Neighbours.{near_list}
use Rattle.local_search.specs.inside.Turns.{moving_candidates, putting_candidates}
use Rattle.local_search.proofs.Tries.{rests_first}
use Rattle.local_search.proofs.turns.neighbour_step.Goals as goal

pub try_neighbour-requires-clause-neighbour : goal.try_neighbour-requires-clause-neighbour
try_neighbour-requires-clause-neighbour g c =
    let there : slice_index (near_list c.args.neighbours.now c.args.client) c.args.at < place_count c.args.search.now.problem =
    All-get_or (λ place. place < place_count c.args.search.now.problem) (near_list c.args.neighbours.now c.args.client) c.args.at 0 c.requires.at (c.requires.neighbours c.args.client) in
    rw c.of.ensures there

pub try_neighbour-requires-clause-rests : goal.try_neighbour-requires-clause-rests
try_neighbour-requires-clause-rests g c =
    let v = slice_index (near_list c.args.neighbours.now c.args.client) c.args.at in
    rw c.of.ensures (rests_first _ _ all_kinds _ (moving_candidates c.args.client v) (putting_candidates c.args.client v) _ c.requires.rests)

pub returns-clause-tried : goal.returns-clause-tried
returns-clause-tried g c = rw c.of.ensures at c.in_ok-try_neighbour.ensures.tried
