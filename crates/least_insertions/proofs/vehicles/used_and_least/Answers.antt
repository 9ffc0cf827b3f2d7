use Rattle.std.proofs.Common.{◌∙◌, ◌++◌, ◌∷◌, [], ℕ, Bool, List, Vec, Global, ap, sym}
use Rattle.search_model.specs.RouteMoves.{is_used_or_least}
use Rattle.least_insertions.proofs.UnusedVehicles.{passed-next, passed-same}
use Rattle.least_insertions.proofs.vehicles.used_and_least.Goals.{then-is_used_or_first+in_ok-push, else-is_used_or_first}
use Rattle.least_insertions.proofs.vehicles.used_and_least.Goals as goal

pub loop-vehicle-preserved : goal.loop-vehicle-preserved
loop-vehicle-preserved c =
    let k : ℕ = c.loop-vehicle.vehicle in
    let test : ℕ → Bool = is_used_or_least c.args.given.now c.args.routes.now in
    let is = c.loop-vehicle.invariant in
    let one = c.is_used_or_first.ensures in
    record {
      marks = one.marks ∙ is.marks;
      met = one.met;
      vehicles = elim c.if-is_used_or_first.branch [
        | then-is_used_or_first+in_ok-push w ↦ ap (λ (l : Vec ℕ Global). l.items) w.vehicles-is ∙ (w.in_ok-push.ensures.items ∙ (ap (λ (xs : List ℕ). xs ++ k ∷ []) is.vehicles
            ∙ passed-next test k (sym one.fits ∙ w.if-is_used_or_first.true)))
        | else-is_used_or_first w ↦ ap (λ (l : Vec ℕ Global). l.items) w.vehicles-is ∙ (is.vehicles ∙ passed-same test k (sym one.fits ∙ w.if-is_used_or_first.false))
      ];
    }
