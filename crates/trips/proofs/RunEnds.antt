-- Where runs are left and reached.
use Rattle.std.proofs.Common.{◌≡◌, Bool, false, List, [], ◌∷◌, ◌++◌, refl, ap, sym, subst, Some, None}
use Rattle.problem_data.specs.declared.visit.Visit.{Visit}
use Rattle.problem_data.specs.Visits.{place_of}
use Rattle.trips.specs.Joints.{first_visit, last_visit}
use Rattle.trips.specs.RunEnds.{RunsLeaveAtTheirLast, RunsReachTheirFirst}
use Rattle.trips.specs.RunSegments.{Leaves, Reaches}
use Rattle.trips.specs.Runs.{Run}
use Rattle.trips.proofs.RunPlaces.{leaves-longer, reaches-longer}

-- the visits before the last one
cut_at-last : (visits : List Visit) (last : Visit) → last_visit visits ≡ Some last → (front : List Visit) × (visits ≡ front ++ last ∷ [])
cut_at-last [] last h = cc
cut_at-last (visit ∷ []) last h = ([], same h)
  where
    same : Some visit ≡ Some last → visit ∷ [] ≡ last ∷ []
    same h = cc
cut_at-last (visit ∷ next ∷ rest) last h =
    let behind = cut_at-last (next ∷ rest) last h in
    (visit ∷ behind.0, ap {B = List Visit} (λ xs. visit ∷ xs) behind.1)

-- a run without its end is left at its last visit
pub leaves-at_last : RunsLeaveAtTheirLast
leaves-at_last p t run last goes_on is_last =
    let cut = cut_at-last run.visits last is_last in
    subst (λ (x : Run). Leaves p t x (place_of last)) (λ i. record { starts = run.starts; visits = sym cut.1 i; ends = sym goes_on i })
    (leaves-longer p t (record { starts = run.starts; visits = cut.0; ends = false }) last refl)

-- a run without its start is reached at its first visit
pub reaches-first : RunsReachTheirFirst
reaches-first p t run first begun is_first = reached run.visits begun is_first
  where
    reached : (visits : List Visit) → run.starts ≡ false → first_visit visits ≡ Some first → Reaches p t (record { starts = run.starts; visits = visits; ends = run.ends }) (place_of first)
    reached [] begun h = absurd (nothing h)
      where
        nothing : None ≡ Some first → ⊥
        nothing h = cc
    reached (visit ∷ rest) begun h =
        subst (λ (v : Visit). Reaches p t (record { starts = run.starts; visits = visit ∷ rest; ends = run.ends }) (place_of v)) (same h)
        (subst (λ (b : Bool). Reaches p t (record { starts = b; visits = visit ∷ rest; ends = run.ends }) (place_of visit)) (sym begun)
        (reaches-longer p t visit (record { starts = false; visits = rest; ends = run.ends })))
      where
        same : Some visit ≡ Some first → visit ≡ first
        same h = cc
