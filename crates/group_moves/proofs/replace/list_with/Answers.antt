use Rattle.std.proofs.Common.{◌∙◌, sym}
use Rattle.search_model.proofs.PutMoves.{position-none}
use Rattle.group_moves.proofs.InPlace.{other-client, replace-barred, replace-makes, replace-unnamed, replace-unvisited, replace-visited}
use Rattle.group_moves.proofs.VisitedMembers.{is-absent, is-visited}
use Rattle.group_moves.proofs.replace.list_with.Goals as goal

pub returns-then-is_some : goal.returns-then-is_some
returns-then-is_some c =
    replace-visited c.args.search.now c.position.ensures.sound c.args.client c.args.other
    (is-visited c.args.search.now c.position.ensures.sound c.args.client c.position.result (sym c.position.ensures.position) (sym c.is_some.ensures ∙ c.if-is_some.true))

pub returns-in_err-vehicle : goal.returns-in_err-vehicle
returns-in_err-vehicle c =
    rw c.from_residual.ensures
    (replace-unvisited c.args.search.now c.position.ensures.sound c.args.client c.args.other (position-none c.args.search.now.routes c.args.other (sym c.position-2.ensures.position ∙ c.in_err-vehicle.was)))

pub returns-then-not-is_client : goal.returns-then-not-is_client
returns-then-not-is_client c =
    let at = c.in_ok-vehicle in
    replace-unnamed c.args.search.now c.position.ensures.sound c.args.client
    (is-absent c.args.search.now c.position.ensures.sound c.args.client c.position.result (sym c.position.ensures.position) (sym c.is_some.ensures ∙ c.if-is_some.false))
    c.args.other at.vehicle at.place at.ensures.in_range (sym c.position-2.ensures.position ∙ at.was) at.ensures.within (sym c.is_client.ensures ∙ c.if-not-is_client.true)

pub may_stand_for-requires-clause-other : goal.may_stand_for-requires-clause-other
may_stand_for-requires-clause-other c =
    let at = c.in_ok-vehicle in
    other-client c.args.search.now c.position.ensures.sound c.args.client
    (is-absent c.args.search.now c.position.ensures.sound c.args.client c.position.result (sym c.position.ensures.position) (sym c.is_some.ensures ∙ c.if-is_some.false))
    c.args.other at.vehicle at.place at.ensures.in_range (sym c.position-2.ensures.position ∙ at.was) at.ensures.within

pub returns-then-not-may_stand_for : goal.returns-then-not-may_stand_for
returns-then-not-may_stand_for c =
    let at = c.in_ok-vehicle in
    replace-barred c.args.search.now c.position.ensures.sound c.args.client
    (is-absent c.args.search.now c.position.ensures.sound c.args.client c.position.result (sym c.position.ensures.position) (sym c.is_some.ensures ∙ c.if-is_some.false))
    c.args.other at.vehicle at.place at.ensures.in_range (sym c.position-2.ensures.position ∙ at.was) at.ensures.within (sym c.is_client.ensures ∙ c.if-not-is_client.false)
    (sym c.may_stand_for.ensures ∙ c.if-not-may_stand_for.true)

pub returns : goal.returns
returns c =
    let at = c.in_ok-vehicle in
    rw c.with_part.ensures
    (replace-makes c.args.search.now c.position.ensures.sound c.args.client
    (is-absent c.args.search.now c.position.ensures.sound c.args.client c.position.result (sym c.position.ensures.position) (sym c.is_some.ensures ∙ c.if-is_some.false))
    c.args.other at.vehicle at.place at.ensures.in_range (sym c.position-2.ensures.position ∙ at.was) at.ensures.within (sym c.is_client.ensures ∙ c.if-not-is_client.false)
    (sym c.may_stand_for.ensures ∙ c.if-not-may_stand_for.false))
