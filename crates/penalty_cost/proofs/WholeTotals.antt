-- The totals of a whole list.
use Rattle.std.proofs.Common.{◌≡◌, ℕ, ◌≤◌, List, length, ◌∙◌, ap, subst, sym, arith, of_z, to_z, w64}
use Rattle.std.specs.Prelude.{ℤ, pos, nat_abs}
use Rattle.std.proofs.lemmas.Int.{ints}
use Rattle.problem_data.specs.declared.problem.Problem.{Problem}
use Rattle.problem_data.specs.declared.problem.VehicleType.{VehicleType}
use Rattle.problem_data.specs.declared.visit.Visit.{Visit}
use Rattle.problem_data.specs.Valid.{IsValid, IsValidType}
use Rattle.routing_model.specs.Listed.{IsListed}
use Rattle.routing_model.specs.Stops.{stops}
use Rattle.segments.specs.Totals.{IsTotal}
use Rattle.trips.specs.declared.whole_route.WholeRoute.{WholeRoute}
use Rattle.trips.specs.WholeRoutes.{IsWhole}
use Rattle.trips.proofs.RunCounts.{named-listed}
use Rattle.trips.proofs.WholeDrives.{bounded-by_stops, tells-drive}
use Rattle.penalty_cost.specs.declared.totals.Totals.{Totals}
use Rattle.penalty_cost.specs.inside.Totals.{AreShared, AreTotals}

-- a number from 0 on as the code hands it on
kept : (z : ℤ) (n : ℕ) → z ≡ pos n → IsTotal z → nat_abs (to_z w64 (of_z w64 z)) ≡ n
kept z n e h = ap nat_abs (same z n e h)
  where
    same : (z : ℤ) (n : ℕ) → z ≡ pos n → IsTotal z → to_z w64 (of_z w64 z) ≡ pos n
    same z n e h = omega (arith, ints, h.to_largest)

-- a number that is another is no more than that one
as_most : (m n most : ℕ) → m ≡ n → n ≤ most → m ≤ most
as_most m n most e h = omega arith

module _ (p : Problem) (t : VehicleType) (visits : List Visit) (valid : IsValid p) (allowed : IsValidType p t) (whole : WholeRoute) (is : IsWhole p t visits whole)
    (lasts warps : ℤ) (is_duration : lasts ≡ whole.segment.duration.duration) (is_warp : warps ≡ whole.segment.duration.warp) (totals : Totals)
    (distance : totals.distance ≡ nat_abs (to_z w64 (of_z w64 whole.distance))) (duration : totals.duration ≡ nat_abs (to_z w64 (of_z w64 lasts)))
    (warp : totals.warp ≡ nat_abs (to_z w64 (of_z w64 warps))) (excess : totals.excess_load ≡ nat_abs (to_z w64 (of_z w64 whole.segment.excess))) where
  pub are-totals : AreTotals p t visits totals
  are-totals =
      let tells = tells-drive p t whole.segment visits valid allowed is.sound is.stands in
      record {
        distance = distance ∙ kept whole.distance _ is.is_distance is.sound_distance;
        duration = duration ∙ kept lasts _ (is_duration ∙ tells.duration) (subst IsTotal (sym is_duration) is.sound.duration.duration);
        warp = warp ∙ kept warps _ (is_warp ∙ tells.warp) (subst IsTotal (sym is_warp) is.sound.duration.warp);
        excess_load = excess ∙ kept whole.segment.excess _ is.stands.excess is.sound.excess;
      }

-- shared among the list's stops
pub are-shared : (p : Problem) (t : VehicleType) (visits : List Visit) → IsValid p → IsValidType p t → IsListed p visits → (totals : Totals) → AreTotals p t visits totals →
    AreShared (length (stops p t visits)) totals
are-shared p t visits valid allowed listed totals are =
    let most = bounded-by_stops p t visits (record { valid = valid; allowed = allowed; named = named-listed p visits listed }) in
    record {
      distance = as_most _ _ _ are.distance most.distance;
      duration = as_most _ _ _ are.duration most.duration;
      warp = as_most _ _ _ are.warp most.warp;
      excess_load = as_most _ _ _ are.excess_load most.excess_load;
    }
