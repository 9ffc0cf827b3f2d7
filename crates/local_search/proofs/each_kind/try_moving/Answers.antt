use Rattle.std.proofs.Common.{◌≡◌, ◌∙◌, false, rules, sym}
use Rattle.local_search.proofs.Keeping.{neighbour_left_out}
use Rattle.local_search.proofs.each_kind.try_moving.Goals as goal

pub returns-then-is_neighbour_untouched-clause-tried : goal.returns-then-is_neighbour_untouched-clause-tried
returns-then-is_neighbour_untouched-clause-tried g c =
    let later : c.args.each ≡ false = search rules in
    neighbour_left_out _ _ _ _ c.requires.stage c.args.each later c.args.client c.requires.client c.args.neighbour c.requires.neighbour c.requires.rests
    (sym c.is_neighbour_untouched.ensures ∙ c.if-is_neighbour_untouched.true)

pub returns-clause-tried : goal.returns-clause-tried
returns-clause-tried g c = rw c.look.ensures.same at c.in_ok-try_moves.ensures.tried
