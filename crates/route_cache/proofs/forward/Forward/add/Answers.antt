use Rattle.std.proofs.Common.{◌≡◌, [], ◌∷◌, ◌++◌, ◌∙◌, ap, subst, sym, rules, true, get_or}
use Rattle.problem_data.specs.declared.visit.Visit.{Visit}
use Rattle.problem_data.specs.declared.visit.Visit.TheVariants.{Client}
use Rattle.trips.specs.declared.piece.Piece.{Piece}
use Rattle.trips.specs.declared.run_segment.RunSegment.{RunSegment}
use Rattle.trips.specs.RunSegments.{HoldsRun, run_before}
use Rattle.route_cache.specs.inside.Shapes.{Grows, front, grown_middles, grown_outer, head_of, middle_of}
use Rattle.route_cache.proofs.MarkFacts.{begun-start, leg-next, over-next}
use Rattle.route_cache.proofs.Onward.{forward-next}
use Rattle.route_cache.proofs.forward.Forward.add.Goals as goal

pub grown_behind-now-requires-clause-goes_on : goal.grown_behind-now-requires-clause-goes_on
grown_behind-now-requires-clause-goes_on c = record {
  starts = true;
  first = 0;
  begun = begun-start c.args.k;
  holds = subst (λ (s : RunSegment). HoldsRun c.args.given.now c.args.vehicle_type.now s (run_before c.args.visits.now c.args.k)) (sym c.requires.so_far) c.requires.forward.holds;
}

pub at_visit-here-requires-clause-holds : goal.at_visit-here-requires-clause-holds
at_visit-here-requires-clause-holds c =
    c.grown_behind-now.ensures.holds true 0 (begun-start c.args.k)
    (subst (λ (s : RunSegment). HoldsRun c.args.given.now c.args.vehicle_type.now s (run_before c.args.visits.now c.args.k)) (sym c.requires.so_far) c.requires.forward.holds)

pub at_visit-here-requires-clause-leg : goal.at_visit-here-requires-clause-leg
at_visit-here-requires-clause-leg c = c.requires.distance ∙ leg-next c.args.given.now c.args.vehicle_type.now c.args.visits.now c.args.k

pub at_visit-here-requires-clause-over : goal.at_visit-here-requires-clause-over
at_visit-here-requires-clause-over c = c.requires.over ∙ over-next c.args.given.now c.args.vehicle_type.now c.args.visits.now c.args.k c.requires.in_list

pub returns : goal.returns
returns c =
    let was = c.args.self.now in
    let now = c.grown_behind-now.result in
    let visit = get_or c.args.visits.now c.args.k (Client 0) in
    let marks : c.push-2.new.self.items ≡ c.args.self.now.marks.items ++ c.at_visit-here.result ∷ [] = search rules in
    let durations : c.push-3.new.self.items ≡ c.args.self.now.durations.items ++ c.args.to.duration ∷ [] = search rules in
    forward-next c.args.given.now c.args.vehicle_type.now c.args.visits.now c.args.k was _ c.at_visit-here.result c.args.to.duration c.requires.in_list c.requires.forward
    (c.grown_behind-now.ensures.holds true 0 (begun-start c.args.k)
    (subst (λ (s : RunSegment). HoldsRun c.args.given.now c.args.vehicle_type.now s (run_before c.args.visits.now c.args.k)) (sym c.requires.so_far) c.requires.forward.holds))
    (subst (λ (s : RunSegment). Grows front visit s.trips now.trips) c.requires.so_far c.grown_behind-now.ensures.grows) c.at_visit-here.ensures c.requires.duration marks durations
    (c.in_ok-push.ensures.pieces ∙ ap (λ (x : Piece). was.table.pieces.items ++ x ∷ []) c.tail_of.ensures)
    (c.in_ok-push.ensures.middles ∙ ap (grown_middles c.args.visit was.table.middles.items) c.middle_of.ensures ∙ ap (λ (v : Visit). grown_middles v was.table.middles.items (middle_of now.trips)) c.requires.visit)
    (c.in_ok-push.ensures.outer ∙ ap (grown_outer c.args.visit was.table.outer) c.head_of.ensures ∙ ap (λ (v : Visit). grown_outer v was.table.outer (head_of now.trips)) c.requires.visit)
