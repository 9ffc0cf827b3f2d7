use Rattle.std.proofs.Common.{◌≡◌, false, true, rules}
use Rattle.search_model.specs.declared.candidate.Target.TheVariants.{Empty}
use Rattle.local_search.specs.inside.Turns.{empty_candidates}
use Rattle.local_search.proofs.Keeping.{leave_out}
use Rattle.local_search.proofs.Stops.{tried_some}
use Rattle.local_search.proofs.each_type.try_opening.Goals as goal

pub returns-then-is_visited-clause-tried : goal.returns-then-is_visited-clause-tried
returns-then-is_visited-clause-tried g c =
    let later : c.args.each ≡ false = search rules in
    let visited : c.is_visited.result ≡ true = search rules in
    let none = c.is_visited.ensures visited in
    leave_out _ _ _ _ c.requires.stage c.args.each later (empty_candidates c.args.client c.args.vehicle_type 13) (none.inserted (Empty c.args.vehicle_type), tt)

pub returns-clause-tried : goal.returns-clause-tried
returns-clause-tried g c = tried_some _ _ _ c.args.each _ _ _ c.in_ok-try_empty.ensures.tried
