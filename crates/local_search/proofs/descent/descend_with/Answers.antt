use Rattle.search_model.specs.Candidates.{candidates, client_candidates}
use Rattle.local_search.proofs.Beginning.{keeps_at_first, pairs_at_first, stage_at_first}
use Rattle.local_search.proofs.Descending.{descends}
use Rattle.local_search.proofs.descent.descend_with.Goals as goal

pub all_passes-requires-clause-stage : goal.all_passes-requires-clause-stage
all_passes-requires-clause-stage g c = stage_at_first _ c.soundness.ensures c.in_ok-memory.ensures

pub all_passes-requires-clause-keeps : goal.all_passes-requires-clause-keeps
all_passes-requires-clause-keeps g c = keeps_at_first _ _ (client_candidates c.args.search.now.problem c.args.neighbours.now) _ c.in_ok-memory.ensures

pub all_passes-requires-clause-pairs : goal.all_passes-requires-clause-pairs
all_passes-requires-clause-pairs g c = pairs_at_first _ _ _ c.in_ok-memory.ensures

pub returns-clause-descends : goal.returns-clause-descends
returns-clause-descends g c =
    descends _ _ _ (candidates c.args.search.now.problem c.args.neighbours.now c.args.order.now) _ _ _ _ c.in_ok-memory.ensures c.in_ok-prepare_all.ensures.tallies c.tried.ensures c.clock.ensures c.in_ok-all_passes.ensures.went
