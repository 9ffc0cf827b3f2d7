-- The least excess load of new lists.
use Rattle.std.proofs.Common.{◌≡◌, ℕ, ◌+◌, ◌-◌, ◌*◌, ◌≤◌, List, ◌++◌, length, ◌∙◌, ap, arith, slice_range}
use Rattle.std.specs.Prelude.{max, sum_by}
use Rattle.problem_data.specs.declared.problem.Problem.{Problem}
use Rattle.problem_data.specs.declared.problem.VehicleType.{VehicleType}
use Rattle.problem_data.specs.declared.visit.Visit.{Visit}
use Rattle.problem_data.specs.Places.{client_at}
use Rattle.routing_model.specs.Load.{excess_load}
use Rattle.routing_model.specs.Routes.{clients_of}
use Rattle.routing_model.proofs.LeastCosts.{excess-deliveries, excess-pickups, trip_count}
use Rattle.route_cache.specs.Marks.{deliveries_of, pickups_of, reloads_in}
use Rattle.route_cache.proofs.Counting.{amounts-append, reloads-append}
use Rattle.route_cache.proofs.MarkPaths.{amounts-with, reloads-with}
use Rattle.route_cache.proofs.Slices.{slice-all}
use Rattle.list_changes.specs.declared.layout.Layout.{Layout}
use Rattle.list_changes.specs.declared.load.Load.{Load}
use Rattle.list_changes.specs.Layouts.{IsLayout, laid_out, runs_of, span_of}
use Rattle.list_changes.specs.Loads.{IsLoad}
use Rattle.list_changes.specs.inside.Loads.{IsPart}
use Rattle.list_changes.specs.Ways.{own_run}
use Rattle.list_changes.proofs.LaidLists.{runs-together}

module _ (own lender : List Visit) (layout : Layout) (laid : IsLayout own lender layout) where
  -- an amount of the new list's clients, and its reloads
  amounts-laid : (f : ℕ → ℕ) → sum_by f (clients_of (laid_out own lender layout)) + sum_by f (clients_of (own_run own layout))
      ≡ sum_by f (clients_of own) + sum_by f (clients_of (span_of lender layout.one)) + sum_by f (clients_of (span_of lender layout.two)) + sum_by f (clients_of (span_of lender layout.three))
  amounts-laid f =
      let new : sum_by f (clients_of (laid_out own lender layout)) ≡ sum_by f (clients_of (slice_range own 0 layout.left ++ (runs_of lender layout ++ slice_range own layout.right (length own)))) =
      ap (λ (xs : List Visit). sum_by f (clients_of xs)) (runs-together own lender layout laid) in
      let change = amounts-with own layout.left layout.right (runs_of lender layout) laid.in_order laid.right f in
      let a = amounts-append f (span_of lender layout.one) (span_of lender layout.two ++ span_of lender layout.three) in
      let b = amounts-append f (span_of lender layout.two) (span_of lender layout.three) in
      omega (arith, new, change, a, b)

  reloads-laid : reloads_in (laid_out own lender layout) + reloads_in (own_run own layout)
      ≡ reloads_in own + reloads_in (span_of lender layout.one) + reloads_in (span_of lender layout.two) + reloads_in (span_of lender layout.three)
  reloads-laid =
      let new : reloads_in (laid_out own lender layout) ≡ reloads_in (slice_range own 0 layout.left ++ (runs_of lender layout ++ slice_range own layout.right (length own))) =
      ap reloads_in (runs-together own lender layout laid) in
      let change = reloads-with own layout.left layout.right (runs_of lender layout) laid.in_order laid.right in
      let a = reloads-append (span_of lender layout.one) (span_of lender layout.two ++ span_of lender layout.three) in
      let b = reloads-append (span_of lender layout.two) (span_of lender layout.three) in
      omega (arith, new, change, a, b)

  -- the load of the new list, by those of its parts and of the old list
  module _ (p other : Problem) (same : other ≡ p) (n : ℕ) (all : length own ≤ n) (whole gone one two three : Load) (is_whole : IsLoad p (slice_range own 0 n) whole) (is_gone : IsLoad p (own_run own layout) gone)
      (is_one : IsLoad other (span_of lender layout.one) one) (is_two : IsLoad other (span_of lender layout.two) two) (is_three : IsLoad other (span_of lender layout.three) three) where
    abbrev all_loads : Load
    all_loads = record {
      delivery = whole.delivery + one.delivery + two.delivery + three.delivery;
      pickup = whole.pickup + one.pickup + two.pickup + three.pickup;
      reloads = whole.reloads + one.reloads + two.reloads + three.reloads;
    }

    delivery-laid : deliveries_of p (laid_out own lender layout) + gone.delivery ≡ whole.delivery + one.delivery + two.delivery + three.delivery
    delivery-laid =
        let change = amounts-laid (λ place. (client_at p place).delivery) in
        let a = is_whole.delivery ∙ ap (deliveries_of p) (slice-all own n all) in
        let b = is_one.delivery ∙ ap (λ (q : Problem). deliveries_of q (span_of lender layout.one)) same in
        let c = is_two.delivery ∙ ap (λ (q : Problem). deliveries_of q (span_of lender layout.two)) same in
        let d = is_three.delivery ∙ ap (λ (q : Problem). deliveries_of q (span_of lender layout.three)) same in
        omega (arith, change, a, b, c, d, is_gone.delivery)

    pickup-laid : pickups_of p (laid_out own lender layout) + gone.pickup ≡ whole.pickup + one.pickup + two.pickup + three.pickup
    pickup-laid =
        let change = amounts-laid (λ place. (client_at p place).pickup) in
        let a = is_whole.pickup ∙ ap (pickups_of p) (slice-all own n all) in
        let b = is_one.pickup ∙ ap (λ (q : Problem). pickups_of q (span_of lender layout.one)) same in
        let c = is_two.pickup ∙ ap (λ (q : Problem). pickups_of q (span_of lender layout.two)) same in
        let d = is_three.pickup ∙ ap (λ (q : Problem). pickups_of q (span_of lender layout.three)) same in
        omega (arith, change, a, b, c, d, is_gone.pickup)

    reloads-laid_by : reloads_in (laid_out own lender layout) + gone.reloads ≡ whole.reloads + one.reloads + two.reloads + three.reloads
    reloads-laid_by =
        let a = is_whole.reloads ∙ ap reloads_in (slice-all own n all) in
        omega (arith, reloads-laid, a, is_gone.reloads, is_one.reloads, is_two.reloads, is_three.reloads)

    pub gone-part : IsPart gone all_loads
    gone-part = record { delivery = omega (arith, delivery-laid); pickup = omega (arith, pickup-laid); reloads = omega (arith, reloads-laid_by) }

    pub load-laid : (load : Load) → load ≡ record { delivery = all_loads.delivery - gone.delivery; pickup = all_loads.pickup - gone.pickup; reloads = all_loads.reloads - gone.reloads } →
        IsLoad p (laid_out own lender layout) load
    load-laid load is =
        let delivery = ap (λ (x : Load). x.delivery) is in
        let pickup = ap (λ (x : Load). x.pickup) is in
        let reloads = ap (λ (x : Load). x.reloads) is in
        record { delivery = omega (arith, delivery, delivery-laid); pickup = omega (arith, pickup, pickup-laid); reloads = omega (arith, reloads, reloads-laid_by) }

-- what all trips have to carry together, over their capacity
pub least-over : (p : Problem) (t : VehicleType) (visits : List Visit) (load : Load) → IsLoad p visits load → max load.delivery load.pickup - (load.reloads + 1) * t.capacity ≤ excess_load p t visits
least-over p t visits load is =
    let most = excess-deliveries p t visits in
    let most' = excess-pickups p t visits in
    let room : (load.reloads + 1) * t.capacity ≡ trip_count visits * t.capacity = ap (λ (n : ℕ). (n + 1) * t.capacity) is.reloads in
    omega (arith, most, most', room, is.delivery, is.pickup)
