use Rattle.std.proofs.Common.{◌-◌, ◌∙◌, sym, arith}
use Rattle.search_model.proofs.ClientPlaces.{stands-at}
use Rattle.tail_changes.proofs.NoTails.{no-client, no-target, own-list}
use Rattle.tail_changes.proofs.TailChanges.{tail-answer}
use Rattle.tail_changes.proofs.TailMoved.{aim-inside}
use Rattle.tail_changes.proofs.tails.tail_change.Goals as goal

pub returns-in_err-vehicle : goal.returns-in_err-vehicle
returns-in_err-vehicle c = rw c.from_residual.ensures (no-client c.args.search.now c.args.client c.args.target (sym c.position.ensures.position ∙ c.in_err-vehicle.was))

pub returns-in_err-aim : goal.returns-in_err-aim
returns-in_err-aim c =
    rw c.from_residual-in_err-aim.ensures
    (no-target c.args.search.now c.position.ensures.sound c.args.client c.in_ok-vehicle.vehicle (c.in_ok-vehicle.left - 1)
    (stands-at c.args.search.now.routes c.args.client c.in_ok-vehicle.vehicle c.in_ok-vehicle.left (sym c.position.ensures.position ∙ c.in_ok-vehicle.was)).1 c.args.target c.in_err-aim.ensures)

pub returns-then-aim-vehicle : goal.returns-then-aim-vehicle
returns-then-aim-vehicle c =
    own-list c.args.search.now c.position.ensures.sound c.args.client c.in_ok-vehicle.vehicle (c.in_ok-vehicle.left - 1)
    (stands-at c.args.search.now.routes c.args.client c.in_ok-vehicle.vehicle c.in_ok-vehicle.left (sym c.position.ensures.position ∙ c.in_ok-vehicle.was)).1 c.args.target c.in_ok-aim.aim c.in_ok-aim.ensures
    c.if-aim-vehicle.true

pub exchanged-requires-clause-second : goal.exchanged-requires-clause-second
exchanged-requires-clause-second c =
    let inside = aim-inside c.args.search.now c.args.target c.in_ok-aim.aim c.in_ok-aim.ensures in
    let long = c.size-2.ensures.size in
    record { in_range = c.in_ok-aim.ensures.in_range; size = long; inside = omega arith }

pub returns : goal.returns
returns c =
    tail-answer c.args.search.now c.position.ensures.sound c.args.client c.in_ok-vehicle.vehicle c.in_ok-vehicle.left c.in_ok-vehicle.ensures.placed
    (stands-at c.args.search.now.routes c.args.client c.in_ok-vehicle.vehicle c.in_ok-vehicle.left (sym c.position.ensures.position ∙ c.in_ok-vehicle.was)).1
    c.in_ok-vehicle.ensures.in_range c.in_ok-vehicle.ensures.within c.args.target c.in_ok-aim.aim c.in_ok-aim.ensures c.if-aim-vehicle.false
    c.size.result c.size-2.result c.size.ensures.size c.size-2.ensures.size c.exchanged.result c.exchanged.ensures
