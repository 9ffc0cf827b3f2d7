-- What a view adds up to, for a vehicle of some type.
use Rattle.std.proofs.Common.{◌≡◌, ◌≢◌, ℕ, Bool, true, false, refl, sym, ◌∙◌, ap, subst, Option, Some}
use Rattle.problem_data.specs.declared.problem.Problem.{Problem}
use Rattle.problem_data.specs.declared.problem.VehicleType.{VehicleType}
use Rattle.problem_data.specs.Valid.{IsValidType}
use Rattle.routing_model.specs.Listed.{type_of_vehicle}
use Rattle.trips.specs.Laws.{IsInRange}
use Rattle.trips.specs.RunSegments.{HoldsRun}
use Rattle.trips.specs.declared.run_segment.RunSegment.{RunSegment}
use Rattle.route_cache.specs.Routes.{IsTypeFor, ViewState, lent, run_of}
use Rattle.joined_views.specs.inside.Recounts.{IsKeptRun, KeepsUnder, visits_alone}
use Rattle.joined_views.specs.Views.{IsOwn}
use Rattle.joined_views.proofs.AlikeTypes.{run-alike}
use Rattle.joined_views.proofs.SideRuns.{no-test}

-- what is looked up for a view
abbrev pub IsLookedUp : ViewState → RunSegment → Type 0
IsLookedUp view segment = (t : VehicleType) → IsTypeFor view.problem view.vehicle t → HoldsRun view.problem t segment (run_of view)

module _ (p : Problem) (t : VehicleType) (view : ViewState) (same : view.problem ≡ p) where
  -- a view of a route of some type
  module _ (vehicle : ℕ) (lending : VehicleType) (lender : view.vehicle ≡ Some vehicle) (is_lending : lending ≡ type_of_vehicle p vehicle) (own : IsOwn p t view) where
    pub holds-lending : (segment : RunSegment) → IsLookedUp view segment → HoldsRun p lending segment (run_of view)
    holds-lending segment looked =
        subst (λ (q : Problem). HoldsRun q lending segment (run_of view)) same
        (looked lending (subst (λ (v : Option ℕ). IsTypeFor view.problem v lending) (sym lender) (is_lending ∙ ap (λ (q : Problem). type_of_vehicle q vehicle) (sym same))))

    same-type : IsTypeFor p view.vehicle t → t ≡ lending
    same-type h = typed (subst (λ (v : Option ℕ). IsTypeFor p v t) lender h)
      where
        typed : t ≡ type_of_vehicle p vehicle → t ≡ lending
        typed e = e ∙ sym is_lending

    -- where the types differ, the view has neither the start nor the end
    module _ (other : lending ≢ t) where
      pub starts-not : view.starts ≡ false
      starts-not = no-test view.starts (λ h. other (sym (same-type (own.own_start h))))

      pub ends-not : view.ends ≡ false
      ends-not = no-test view.ends (λ h. other (sym (same-type (own.own_end h))))

      pub alone-run : run_of view ≡ visits_alone (lent view)
      alone-run = λ i. record { starts = starts-not i; visits = lent view; ends = ends-not i }

      pub holds-alone : (segment : RunSegment) → HoldsRun p t segment (visits_alone (lent view)) → HoldsRun p t segment (run_of view)
      holds-alone segment h = subst (HoldsRun p t segment) (sym alone-run) h

      pub kept-run : (segment : RunSegment) → IsLookedUp view segment → IsValidType p lending → IsInRange p t (run_of view) → IsKeptRun p (lent view) segment
      kept-run segment looked allowed range = record {
        by_type = lending;
        in_range = record { is_run = record { valid = range.is_run.valid; allowed = allowed; named = range.is_run.named }; few = range.few };
        holds = subst (HoldsRun p lending segment) alone-run (holds-lending segment looked);
      }

      pub holds-recounted : (segment recounted : RunSegment) → IsLookedUp view segment → lending.profile ≡ t.profile → KeepsUnder p (lent view) t.capacity segment recounted → HoldsRun p t recounted (run_of view)
      holds-recounted segment recounted looked alike keeps =
          holds-alone recounted (keeps lending t (sym alike) refl (subst (HoldsRun p lending segment) alone-run (holds-lending segment looked)))

    -- of the same profile and capacity
    pub holds-alike : (segment : RunSegment) → IsLookedUp view segment → lending.profile ≡ t.profile → lending.capacity ≡ t.capacity → HoldsRun p t segment (run_of view)
    holds-alike segment looked profile capacity = by view.starts view.ends refl refl
      where
        whole : t ≡ lending → HoldsRun p t segment (run_of view)
        whole e = subst (λ (u : VehicleType). HoldsRun p u segment (run_of view)) (sym e) (holds-lending segment looked)

        by : (starts ends : Bool) → view.starts ≡ starts → view.ends ≡ ends → HoldsRun p t segment (run_of view)
        by true ends e h = whole (same-type (own.own_start e))
        by false true e h = whole (same-type (own.own_end h))
        by false false e h =
            let alone : run_of view ≡ visits_alone (lent view) = λ i. record { starts = e i; visits = lent view; ends = h i } in
            subst (HoldsRun p t segment) (sym alone)
            (run-alike p lending t (sym profile) segment (lent view) (sym capacity) (subst (HoldsRun p lending segment) alone (holds-lending segment looked)))

pub other-profile : (t u : VehicleType) → (u.profile ≡ t.profile → ⊥) → u ≢ t
other-profile t u h e = h (ap (λ (v : VehicleType). v.profile) e)

pub other-capacity : (t u : VehicleType) → (u.capacity ≡ t.capacity → ⊥) → u ≢ t
other-capacity t u h e = h (ap (λ (v : VehicleType). v.capacity) e)
