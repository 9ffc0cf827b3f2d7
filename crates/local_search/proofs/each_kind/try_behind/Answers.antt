use Rattle.local_search.proofs.Stops.{tried_kind}
use Rattle.local_search.proofs.each_kind.try_behind.Goals as goal

pub returns-clause-tried : goal.returns-clause-tried
returns-clause-tried g c = tried_kind _ _ _ c.args.each _ _ _ _ _ _ c.kind_at-kind.ensures c.in_ok-try_candidate.ensures.tried
