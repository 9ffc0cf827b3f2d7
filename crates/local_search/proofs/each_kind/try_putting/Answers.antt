use Rattle.std.proofs.Common.{◌≡◌, false, true, rules}
use Rattle.search_model.specs.declared.candidate.Target.TheVariants.{After, StartOf}
use Rattle.local_search.specs.inside.Turns.{kind_candidates, putting_candidates}
use Rattle.local_search.proofs.Keeping.{leave_out}
use Rattle.local_search.proofs.Stops.{on_err, stopped_more, stopped_then, tried_then}
use Rattle.local_search.proofs.each_kind.try_putting.Goals as goal

pub returns-then-is_visited-clause-tried : goal.returns-then-is_visited-clause-tried
returns-then-is_visited-clause-tried g c =
    let later : c.args.each ≡ false = search rules in
    let visited : c.is_visited.result ≡ true = search rules in
    let none = c.is_visited.ensures visited in
    leave_out _ _ _ _ c.requires.stage c.args.each later (putting_candidates c.args.client c.args.neighbour)
    (none.inserted (After c.args.neighbour), (none.inserted (StartOf c.args.neighbour), (none.replaced (After c.args.neighbour), (none.replaced (StartOf c.args.neighbour), tt))))

pub returns-in_err-try_kind-clause-stopped : goal.returns-in_err-try_kind-clause-stopped
returns-in_err-try_kind-clause-stopped g c = on_err c.from_residual.result (stopped_more _ _ (kind_candidates c.args.client c.args.neighbour 13) (kind_candidates c.args.client c.args.neighbour 15) _ _ c.in_err-try_kind.ensures.stopped)

pub returns-in_err-try_kind-2-clause-stopped : goal.returns-in_err-try_kind-2-clause-stopped
returns-in_err-try_kind-2-clause-stopped g c =
    on_err c.from_residual-in_err-try_kind-2.result
    (stopped_then _ _ _ _ (kind_candidates c.args.client c.args.neighbour 13) (kind_candidates c.args.client c.args.neighbour 15) _ _ _ c.in_ok-try_kind.ensures.tried c.in_err-try_kind-2.ensures.stopped)

pub returns-clause-tried : goal.returns-clause-tried
returns-clause-tried g c = tried_then _ _ _ _ (kind_candidates c.args.client c.args.neighbour 13) (kind_candidates c.args.client c.args.neighbour 15) _ _ _ c.in_ok-try_kind.ensures.tried c.in_ok-try_kind-2.ensures.tried
