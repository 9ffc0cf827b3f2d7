use Rattle.std.proofs.Common.{arith}
use Rattle.std.proofs.lemmas.List.FromFn.{map-range_with_len_more}
use Rattle.problem_data.proofs.PlaceVisits.{visit_by_depots}
use Rattle.problem_data.proofs.tables.visits_table.Goals as goal

pub loop-place-preserved : goal.loop-place-preserved
loop-place-preserved c =
    rw (map-range_with_len_more (visit_by_depots c.args.depots) 0 c.loop-place.place c.loop-place.place (omega arith), ← c.loop-place.invariant, ← c.visit_at-visit.ensures)
    c.in_ok-push.ensures.items
