use Rattle.std.proofs.Common.{◌≡◌, ◌*◌, ◌≤◌, take}
use Rattle.segments.specs.Totals.{largest_total}
use Rattle.trips.specs.RunSegments.{prizes_of}
use Rattle.joined_views.specs.Views.{lent_by}
use Rattle.joined_views.proofs.joined.lent_prizes.Given as goal

abbrev pub invariant-loop-view : goal.invariant-loop-view
invariant-loop-view l = record {
  prizes : l.prizes ≡ prizes_of l.given (lent_by (take l.view-index l.views));
  short : l.prizes ≤ l.view-index * largest_total;
}
