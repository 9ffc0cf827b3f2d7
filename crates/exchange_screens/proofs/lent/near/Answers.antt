use Rattle.std.proofs.Common.{◌∙◌}
use Rattle.routing_model.specs.Listed.{type_of_vehicle}
use Rattle.routing_model.specs.Routes.{list_at}
use Rattle.list_changes.proofs.LentWays.{lent-near}
use Rattle.exchange_screens.proofs.LookLaws.{least-lent}
use Rattle.exchange_screens.proofs.lent.near.Goals as goal

pub returns : goal.returns
returns c =
    let s = c.args.search.now in
    let lent = c.args.lent.now in
    let is = c.requires in
    least-lent s lent.seat is.seat c.args.lender lent.left lent.right lent.first lent.end is.side is.some c.from.result c.coming.result
    (lent-near s.problem (type_of_vehicle s.problem lent.seat.vehicle) (type_of_vehicle s.problem c.args.lender) (list_at s.routes lent.seat.vehicle) (list_at s.routes c.args.lender)
    lent.left lent.right lent.first lent.end c.from.result lent.seat.profile is.some is.side.laid.one.in_list is.seat.profile (c.from.ensures ∙ is.come))
    c.coming.ensures.least c.coming.ensures.small
