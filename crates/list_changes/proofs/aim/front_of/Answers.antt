use Rattle.std.proofs.Common.{◌≡◌, ℕ, ◌-◌, ◌∙◌, sym, refl, subst, arith, Some, slice_get}
use Rattle.problem_data.specs.declared.visit.Visit.TheVariants.{Client}
use Rattle.routing_model.specs.Routes.{list_at}
use Rattle.search_model.proofs.ClientPlaces.{stands-at}
use Rattle.list_changes.proofs.Fronts.{no-front, not-first}
use Rattle.list_changes.proofs.aim.front_of.Goals as goal

pub returns-in_err-vehicle : goal.returns-in_err-vehicle
returns-in_err-vehicle c = rw c.from_residual.ensures (no-front c.args.search.now c.args.client (sym c.position.ensures.position ∙ c.in_err-vehicle.was))

pub returns-then-place-eq1 : goal.returns-then-place-eq1
returns-then-place-eq1 c =
    let front : c.in_ok-vehicle.place - 1 ≡ 0 = omega arith in
    record {
      in_range = c.in_ok-vehicle.ensures.in_range;
      names = record {
        front = refl;
        stands = subst (λ (i : ℕ). slice_get (list_at c.args.search.now.routes c.in_ok-vehicle.vehicle) i ≡ Some (Client c.args.client)) front
            (stands-at c.args.search.now.routes c.args.client c.in_ok-vehicle.vehicle c.in_ok-vehicle.place (sym c.position.ensures.position ∙ c.in_ok-vehicle.was)).1;
      };
    }

pub returns-else-place-eq1 : goal.returns-else-place-eq1
returns-else-place-eq1 c =
    not-first c.args.search.now c.position.ensures.sound c.args.client c.in_ok-vehicle.vehicle c.in_ok-vehicle.place (sym c.position.ensures.position ∙ c.in_ok-vehicle.was) c.if-place-eq1.false
