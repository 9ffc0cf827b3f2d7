use Rattle.std.proofs.Common.{◌+◌, [], ◌∷◌, ◌++◌, ◌∙◌, ap, subst, sym, get_or}
use Rattle.problem_data.specs.declared.visit.Visit.{Visit}
use Rattle.problem_data.specs.declared.visit.Visit.TheVariants.{Client}
use Rattle.trips.specs.declared.piece.Piece.{Piece}
use Rattle.trips.specs.declared.run_segment.RunSegment.{RunSegment}
use Rattle.trips.specs.RunSegments.{HoldsRun, run_from}
use Rattle.route_cache.specs.inside.Shapes.{Grows, back, grown_middles, grown_outer, middle_of, tail_of}
use Rattle.route_cache.proofs.Onward.{backward-at, holds-behind_at}
use Rattle.route_cache.proofs.backward.Backward.add.Goals as goal

pub grown_before-now-requires-clause-holds : goal.grown_before-now-requires-clause-holds
grown_before-now-requires-clause-holds c =
    subst (λ (s : RunSegment). HoldsRun c.args.given.now c.args.vehicle_type.now s (run_from c.args.visits.now (c.args.at + 1))) (sym c.requires.so_far)
    (holds-behind_at c.args.given.now c.args.vehicle_type.now c.args.visits.now c.args.at c.args.self.now c.requires.in_list c.requires.backward)

pub returns : goal.returns
returns c =
    let was = c.args.self.now in
    let now = c.grown_before-now.result in
    let visit = get_or c.args.visits.now c.args.at (Client 0) in
    backward-at c.args.given.now c.args.vehicle_type.now c.args.visits.now c.args.at was _ c.requires.in_list c.requires.backward
    c.grown_before-now.ensures.holds (subst (λ (s : RunSegment). Grows back visit s.trips now.trips) c.requires.so_far c.grown_before-now.ensures.grows)
    (c.in_ok-push.ensures.pieces ∙ ap (λ (x : Piece). was.table.pieces.items ++ x ∷ []) c.head_of.ensures)
    (c.in_ok-push.ensures.middles ∙ ap (grown_middles c.args.visit was.table.middles.items) c.middle_of.ensures ∙ ap (λ (v : Visit). grown_middles v was.table.middles.items (middle_of now.trips)) c.requires.visit)
    (c.in_ok-push.ensures.outer ∙ ap (grown_outer c.args.visit was.table.outer) c.tail_of.ensures ∙ ap (λ (v : Visit). grown_outer v was.table.outer (tail_of now.trips)) c.requires.visit)
