use Rattle.std.proofs.Common.{◌∙◌, sym}
use Rattle.group_moves.proofs.PutIn.{insert-barred, insert-makes, insert-unnamed, insert-visited}
use Rattle.group_moves.proofs.VisitedMembers.{is-absent, is-visited}
use Rattle.group_moves.proofs.insert.list_with.Goals as goal

pub returns-then-is_some : goal.returns-then-is_some
returns-then-is_some c =
    insert-visited c.args.search.now c.position.ensures.sound c.args.client c.args.target
    (is-visited c.args.search.now c.position.ensures.sound c.args.client c.position.result (sym c.position.ensures.position) (sym c.is_some.ensures ∙ c.if-is_some.true))

pub returns-then-not-is_client : goal.returns-then-not-is_client
returns-then-not-is_client c =
    insert-unnamed c.args.search.now c.position.ensures.sound c.args.client
    (is-absent c.args.search.now c.position.ensures.sound c.args.client c.position.result (sym c.position.ensures.position) (sym c.is_some.ensures ∙ c.if-is_some.false))
    c.args.target c.in_ok-aim.aim c.in_ok-aim.ensures (sym c.is_client.ensures ∙ c.if-not-is_client.true)

pub returns-then-not-may_come : goal.returns-then-not-may_come
returns-then-not-may_come c =
    insert-barred c.args.search.now c.position.ensures.sound c.args.client
    (is-absent c.args.search.now c.position.ensures.sound c.args.client c.position.result (sym c.position.ensures.position) (sym c.is_some.ensures ∙ c.if-is_some.false))
    (sym c.is_client.ensures ∙ c.if-not-is_client.false) c.args.target c.in_ok-aim.aim c.in_ok-aim.ensures (sym c.may_come.ensures ∙ c.if-not-may_come.true)

pub returns : goal.returns
returns c =
    rw c.with_part.ensures
    (insert-makes c.args.search.now c.position.ensures.sound c.args.client
    (is-absent c.args.search.now c.position.ensures.sound c.args.client c.position.result (sym c.position.ensures.position) (sym c.is_some.ensures ∙ c.if-is_some.false))
    (sym c.is_client.ensures ∙ c.if-not-is_client.false) c.args.target c.in_ok-aim.aim c.in_ok-aim.ensures (sym c.may_come.ensures ∙ c.if-not-may_come.false))
