use Rattle.std.proofs.Common.{[], ◌∷◌, ◌∙◌, ap}
use Rattle.trips.specs.declared.piece.Piece.{Piece}
use Rattle.route_cache.proofs.Starting.{backward-start}
use Rattle.route_cache.proofs.backward.Backward.new.Goals as goal

pub returns : goal.returns
returns c =
    backward-start c.args.given.now c.args.vehicle_type.now c.args.visits.now _ c.end-so_far.ensures
    (c.in_ok-table.ensures.pieces ∙ ap (λ (x : Piece). x ∷ []) c.head_of.ensures) c.in_ok-table.ensures.middles (c.in_ok-table.ensures.outer ∙ c.head_of.ensures)
