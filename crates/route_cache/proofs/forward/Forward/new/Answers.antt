use Rattle.std.proofs.Common.{◌≡◌, [], ◌∷◌, ◌∙◌, ap, rules}
use Rattle.trips.specs.declared.piece.Piece.{Piece}
use Rattle.route_cache.proofs.Starting.{forward-start}
use Rattle.route_cache.proofs.forward.Forward.new.Goals as goal

pub returns : goal.returns
returns c =
    let marks : c.push.new.self.items ≡ c.start.result ∷ [] = search rules in
    let durations : c.push-2.new.self.items ≡ 0 ∷ [] = search rules in
    forward-start c.args.given.now c.args.vehicle_type.now c.args.visits.now _ c.start.result (c.start.ensures c.args.given.now c.args.visits.now) c.start-so_far.ensures marks durations
    (c.in_ok-table.ensures.pieces ∙ ap (λ (x : Piece). x ∷ []) c.tail_of.ensures) c.in_ok-table.ensures.middles (c.in_ok-table.ensures.outer ∙ c.tail_of.ensures)
