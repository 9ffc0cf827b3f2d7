use Rattle.std.proofs.Common.{refl, ◌∙◌, sym, ap, List, slice_get, subst}
use Rattle.problem_data.specs.declared.visit.Visit.{Visit}
use Rattle.search_model.proofs.ClientPlaces.{stands-at}
use Rattle.trips.specs.Joints.{is_some_reload}
use Rattle.list_changes.specs.declared.change.Change.TheVariants.{One}
use Rattle.list_changes.specs.declared.layout.Layout.{Layout}
use Rattle.depot_changes.specs.Removing.{IsRemoval}
use Rattle.depot_changes.proofs.ReloadsOut.{no-client, no-reload, no-types, reload-goes}
use Rattle.depot_changes.proofs.removing.reload_out.Goals as goal

pub returns-then-not-has_reload_types : goal.returns-then-not-has_reload_types
returns-then-not-has_reload_types c = no-types c.args.search.now c.has_reload_types.ensures.sound c.args.client (sym c.has_reload_types.ensures.reloads ∙ c.if-not-has_reload_types.true)

pub returns-in_err-vehicle : goal.returns-in_err-vehicle
returns-in_err-vehicle c = rw c.from_residual.ensures (no-client c.args.search.now c.args.client (sym c.position.ensures.position ∙ c.in_err-vehicle.was))

pub returns-then-not-has_reload : goal.returns-then-not-has_reload
returns-then-not-has_reload c =
    let there = stands-at c.args.search.now.routes c.args.client c.in_ok-vehicle.vehicle c.in_ok-vehicle.left (sym c.position.ensures.position ∙ c.in_ok-vehicle.was) in
    no-reload c.args.search.now c.args.client c.position.ensures.sound c.in_ok-vehicle.vehicle c.in_ok-vehicle.left there.0 there.1
    (ap (λ (xs : List Visit). is_some_reload (slice_get xs c.in_ok-vehicle.left)) (sym (c.visits-visits.ensures.visits ∙ c.route.ensures.visits)) ∙ sym c.has_reload.ensures ∙ c.if-not-has_reload.true)

pub returns : goal.returns
returns c =
    let there = stands-at c.args.search.now.routes c.args.client c.in_ok-vehicle.vehicle c.in_ok-vehicle.left (sym c.position.ensures.position ∙ c.in_ok-vehicle.was) in
    subst (λ (l : Layout). IsRemoval c.args.search.now c.args.client (One c.in_ok-vehicle.vehicle l)) (sym c.layout.ensures)
    (record {
      few = refl;
      move = reload-goes c.args.search.now c.args.client c.position.ensures.sound c.in_ok-vehicle.vehicle c.in_ok-vehicle.left there.0 there.1 c.in_ok-vehicle.ensures.in_range
          (ap (λ (xs : List Visit). is_some_reload (slice_get xs c.in_ok-vehicle.left)) (sym (c.visits-visits.ensures.visits ∙ c.route.ensures.visits)) ∙ sym c.has_reload.ensures ∙ c.if-not-has_reload.false);
    })
