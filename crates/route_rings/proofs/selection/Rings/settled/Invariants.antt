use Rattle.std.specs.Prelude.{◌≡◌, length}
use Rattle.genetic_model.specs.RouteSelection.{settled}
use Rattle.route_rings.specs.Selections.{AreStarts, difference_of}
use Rattle.route_rings.specs.inside.Measuring.{IsMeasured}
use Rattle.route_rings.proofs.selection.Rings.settled.Given as goal

abbrev pub invariant-loop-at : goal.invariant-loop-at
invariant-loop-at l = record {
  places : length l.marks ≡ length l.initial.marks;
  other_places : length l.others ≡ length l.initial.others;
  there : AreStarts l.self l.at.starts;
  measured : IsMeasured (difference_of l.given l.self) l.at;
  settled : settled (difference_of l.given l.self) (length l.self.first.order.now) (length l.self.second.order.now) l.at.starts
      ≡ settled (difference_of l.given l.self) (length l.self.first.order.now) (length l.self.second.order.now) l.fn.starts;
}

abbrev pub decreases-loop-at : goal.decreases-loop-at
decreases-loop-at l = l.at.difference
