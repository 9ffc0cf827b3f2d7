use Rattle.std.proofs.Common.{◌∙◌, sym}
use Rattle.search_model.proofs.ClientPlaces.{stands-at}
use Rattle.search_model.proofs.PutMoves.{position-none}
use Rattle.list_changes.proofs.aim.aim_of.Goals as goal

pub returns-in_err-vehicle-in-After : goal.returns-in_err-vehicle-in-After
returns-in_err-vehicle-in-After c =
    rw (c.from_residual.ensures, c.in-After.is) (position-none c.args.search.now.routes c.in-After.client (sym c.position.ensures.position ∙ c.in_err-vehicle-in-After.was))

pub returns-in_ok-vehicle-in-After : goal.returns-in_ok-vehicle-in-After
returns-in_ok-vehicle-in-After c =
    rw c.in-After.is (record {
      in_range = c.in_ok-vehicle-in-After.ensures.in_range;
      names = record {
        some = c.in_ok-vehicle-in-After.ensures.placed;
        stands = (stands-at c.args.search.now.routes c.in-After.client c.in_ok-vehicle-in-After.vehicle c.in_ok-vehicle-in-After.place (sym c.position.ensures.position ∙ c.in_ok-vehicle-in-After.was)).1;
      };
    })
