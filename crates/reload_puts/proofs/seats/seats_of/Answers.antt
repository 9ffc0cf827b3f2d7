use Rattle.std.proofs.Common.{◌≡◌, Bool, true, false, ◌&&◌, not, refl, sym, ◌∙◌, ap}
use Rattle.std.specs.Prelude.{◌==◌}
use Rattle.routing_model.specs.Routes.{is_visited}
use Rattle.search_model.proofs.ClientPlaces.{stands-at}
use Rattle.search_model.proofs.PutMoves.{position-none}
use Rattle.reload_puts.proofs.seats.seats_of.Goals as goal

no-second : (a b c : Bool) → b ≡ false → (a && b && c) ≡ false
no-second true b c h = ap (λ (x : Bool). x && c) h
no-second false b c h = refl

pub returns-in_err-vehicle : goal.returns-in_err-vehicle
returns-in_err-vehicle c =
    rw c.from_residual.ensures (ap (λ (b : Bool). b && is_visited c.args.search.now.routes c.args.neighbour && not (c.args.client == c.args.neighbour))
    (position-none c.args.search.now.routes c.args.client (sym c.position.ensures.position ∙ c.in_err-vehicle.was)))

pub returns-in_err-other : goal.returns-in_err-other
returns-in_err-other c =
    rw c.from_residual-in_err-other.ensures (no-second (is_visited c.args.search.now.routes c.args.client) (is_visited c.args.search.now.routes c.args.neighbour) (not (c.args.client == c.args.neighbour))
    (position-none c.args.search.now.routes c.args.neighbour (sym c.position-2.ensures.position ∙ c.in_err-other.was)))

pub returns : goal.returns
returns c =
    let at_client = stands-at c.args.search.now.routes c.args.client c.in_ok-vehicle.vehicle c.in_ok-vehicle.place (sym c.position.ensures.position ∙ c.in_ok-vehicle.was) in
    let at_neighbour = stands-at c.args.search.now.routes c.args.neighbour c.in_ok-other.other c.in_ok-other.behind (sym c.position-2.ensures.position ∙ c.in_ok-other.was) in
    record {
      of_client = refl;
      of_neighbour = refl;
      stand = record {
        differ = c.if-client-neighbour.false;
        in_range = c.in_ok-vehicle.ensures.in_range;
        at_client = at_client.1;
        other_in_range = c.in_ok-other.ensures.in_range;
        some = at_neighbour.0;
        at_neighbour = at_neighbour.1;
      };
    }
