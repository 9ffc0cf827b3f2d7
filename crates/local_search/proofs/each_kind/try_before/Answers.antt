use Rattle.std.proofs.Common.{◌≡◌, false, rules}
use Rattle.local_search.specs.inside.Turns.{kind_at}
use Rattle.local_search.proofs.Stops.{left_out_one, tried_kind}
use Rattle.local_search.proofs.each_kind.try_before.Goals as goal

pub returns-then-not-is_first-clause-tried : goal.returns-then-not-is_first-clause-tried
returns-then-not-is_first-clause-tried g c =
    let later : c.args.each ≡ false = search rules in
    let other : c.is_first.result ≡ false = search rules in
    left_out_one _ _ _ _ _ _ later c.requires.stage (c.is_first.ensures other (kind_at c.args.at) c.args.client)

pub returns-clause-tried : goal.returns-clause-tried
returns-clause-tried g c = tried_kind _ _ _ c.args.each _ _ _ _ _ _ c.kind_at-kind.ensures c.in_ok-try_candidate.ensures.tried
