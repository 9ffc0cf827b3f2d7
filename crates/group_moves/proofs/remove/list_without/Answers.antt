use Rattle.std.proofs.Common.{◌-◌, ◌∙◌, List, sym, subst}
use Rattle.problem_data.specs.declared.visit.Visit.{Visit}
use Rattle.search_model.proofs.PutMoves.{position-none}
use Rattle.list_changes.specs.Gaps.{IsGap}
use Rattle.group_moves.proofs.TakenOut.{remove-barred, remove-makes, remove-unvisited, visited-client}
use Rattle.group_moves.proofs.remove.list_without.Goals as goal

pub returns-in_err-vehicle : goal.returns-in_err-vehicle
returns-in_err-vehicle c =
    rw c.from_residual.ensures (remove-unvisited c.args.search.now c.position.ensures.sound c.args.client (position-none c.args.search.now.routes c.args.client (sym c.position.ensures.position ∙ c.in_err-vehicle.was)))

pub may_go-requires : goal.may_go-requires
may_go-requires c =
    let at = c.in_ok-vehicle in
    visited-client c.args.search.now c.position.ensures.sound c.args.client at.vehicle at.place at.ensures.in_range (sym c.position.ensures.position ∙ at.was) at.ensures.within

pub returns-then-not-may_go : goal.returns-then-not-may_go
returns-then-not-may_go c =
    let at = c.in_ok-vehicle in
    remove-barred c.args.search.now c.position.ensures.sound c.args.client at.vehicle at.place at.ensures.in_range (sym c.position.ensures.position ∙ at.was) at.ensures.within
    (sym c.may_go.ensures ∙ c.if-not-may_go.true)

pub returns : goal.returns
returns c =
    let at = c.in_ok-vehicle in
    rw (c.with_part.ensures, c.nothing.ensures)
    (remove-makes c.args.search.now c.position.ensures.sound c.args.client at.vehicle at.place at.ensures.in_range (sym c.position.ensures.position ∙ at.was) at.ensures.within
    c.gap_of-gap.result (subst (λ (xs : List Visit). IsGap xs (at.place - 1) at.place c.gap_of-gap.result) c.route.ensures.visits c.gap_of-gap.ensures)
    (sym c.may_go.ensures ∙ c.if-not-may_go.false))
