use Rattle.std.proofs.Common.{◌∙◌, length, sym}
use Rattle.route_rings.specs.Selections.{difference_of}
use Rattle.route_rings.proofs.SettledShifts.{ends-here, goes-on}
use Rattle.route_rings.proofs.selection.Rings.settled.Goals as goal

pub returns-then-best-at-clause-settled : goal.returns-then-best-at-clause-settled
returns-then-best-at-clause-settled c =
    let rings = c.args.self in
    let is = c.loop-at.invariant in
    let best = c.best_shift-best.ensures in
    sym (ends-here (difference_of c.args.given.now rings) (length rings.first.order.now) (length rings.second.order.now) c.shifts_settle.ensures c.loop-at.at c.best_shift-best.result
    is.measured best.measured best.best c.if-best-at.true) ∙ is.settled

pub loop-at-preserved : goal.loop-at-preserved
loop-at-preserved c =
    let rings = c.args.self in
    let is = c.loop-at.invariant in
    let best = c.best_shift-best.ensures in
    record {
      places = best.places ∙ is.places;
      other_places = best.other_places ∙ is.other_places;
      there = best.there;
      measured = best.measured;
      settled =
          goes-on (difference_of c.args.given.now rings) (length rings.first.order.now) (length rings.second.order.now) c.shifts_settle.ensures c.loop-at.at c.best_shift-best.result
          is.measured best.measured best.best c.if-best-at.false ∙ is.settled;
    }
