use Rattle.std.proofs.Common.{◌≡◌, ◌∙◌, false, rules, sym}
use Rattle.local_search.proofs.Keeping.{type_left_out}
use Rattle.local_search.proofs.Stops.{tried_some}
use Rattle.local_search.proofs.each_type.try_leaving.Goals as goal

pub returns-then-is_type_untouched-clause-tried : goal.returns-then-is_type_untouched-clause-tried
returns-then-is_type_untouched-clause-tried g c =
    let later : c.args.each ≡ false = search rules in
    type_left_out _ _ _ _ c.requires.stage c.args.each later c.args.client c.requires.client c.args.vehicle_type c.requires.vehicle_type c.requires.rests
    (sym c.is_type_untouched.ensures ∙ c.if-is_type_untouched.true)

pub returns-clause-tried : goal.returns-clause-tried
returns-clause-tried g c = tried_some _ _ _ c.args.each _ _ _ c.in_ok-try_each_empty.ensures.tried
