-- What a visit more makes of a trip segment.
use Rattle.std.proofs.Common.{◌≡◌, ℕ, zero, suc, ◌<◌, ◌≤◌, List, [], ◌∷◌, ◌++◌, length, get_or, refl, sym, subst, arith}
use Rattle.std.specs.Prelude.{ℤ}
use Rattle.std.proofs.lemmas.List.{get_or_append_left, get_or_push}
use Rattle.problem_data.specs.declared.problem.Problem.{Problem}
use Rattle.problem_data.specs.declared.problem.VehicleType.{VehicleType}
use Rattle.problem_data.specs.declared.visit.Visit.{Visit}
use Rattle.problem_data.specs.declared.visit.Visit.TheVariants.{Client, Reload}
use Rattle.trips.specs.declared.piece.Piece.{Piece}
use Rattle.trips.specs.declared.middle.Middle.{Middle}
use Rattle.trips.specs.declared.trip_segment.TripSegment.{TripSegment}
use Rattle.trips.specs.declared.trip_segment.TripSegment.TheVariants.{Open, Split}
use Rattle.trips.specs.Merging.{merged_trips}
use Rattle.trips.specs.RunSegments.{alone, end_alone, start_alone}
use Rattle.trips.specs.Runs.{Stretch}
use Rattle.trips.specs.Standing.{StandsForRun}
use Rattle.route_cache.specs.inside.Shapes.{Grows, Side, back, front, no_trip, outer_of, outer_or, shaped, split_at, tail_of, head_of, with_inner}

one-not_more : (x first last : Stretch) (between : List Stretch) → x ∷ [] ≡ first ∷ (between ++ last ∷ []) → ⊥
one-not_more x first last [] h = cc
one-not_more x first last (b ∷ bs) h = cc

two-not_one : (a b only : Stretch) (rest : List Stretch) → a ∷ b ∷ rest ≡ only ∷ [] → ⊥
two-not_one a b only rest h = cc

-- with a visit behind it
pub grows-behind : (p : Problem) (t : VehicleType) (visit : Visit) (old next new : TripSegment) (travel : ℤ) (capacity : ℕ) →
    StandsForRun p t next (alone visit) → new ≡ merged_trips old next travel capacity → Grows front visit old new
grows-behind p t (Client place) old (Split h m l) new travel capacity stands e = absurd (one-not_more _ _ _ _ stands.cut)
grows-behind p t (Client place) (Open a) (Open b) new travel capacity stands e = subst (λ (n : TripSegment). Grows front (Client place) (Open a) n) (sym e) refl
grows-behind p t (Client place) (Split h m l) (Open b) new travel capacity stands e = subst (λ (n : TripSegment). Grows front (Client place) (Split h m l) n) (sym e) refl
grows-behind p t (Reload depot) old (Open b) new travel capacity stands e = absurd (two-not_one _ _ _ _ stands.uncut)
grows-behind p t (Reload depot) (Open a) (Split h m l) new travel capacity stands e = subst (λ (n : TripSegment). Grows front (Reload depot) (Open a) n) (sym e) refl
grows-behind p t (Reload depot) (Split g n k) (Split h m l) new travel capacity stands e = subst (λ (x : TripSegment). Grows front (Reload depot) (Split g n k) x) (sym e) refl

-- with a visit before it
pub grows-before : (p : Problem) (t : VehicleType) (visit : Visit) (old next new : TripSegment) (travel : ℤ) (capacity : ℕ) →
    StandsForRun p t next (alone visit) → new ≡ merged_trips next old travel capacity → Grows back visit old new
grows-before p t (Client place) old (Split h m l) new travel capacity stands e = absurd (one-not_more _ _ _ _ stands.cut)
grows-before p t (Client place) (Open a) (Open b) new travel capacity stands e = subst (λ (n : TripSegment). Grows back (Client place) (Open a) n) (sym e) refl
grows-before p t (Client place) (Split h m l) (Open b) new travel capacity stands e = subst (λ (n : TripSegment). Grows back (Client place) (Split h m l) n) (sym e) refl
grows-before p t (Reload depot) old (Open b) new travel capacity stands e = absurd (two-not_one _ _ _ _ stands.uncut)
grows-before p t (Reload depot) (Open a) (Split h m l) new travel capacity stands e = subst (λ (n : TripSegment). Grows back (Reload depot) (Open a) n) (sym e) refl
grows-before p t (Reload depot) (Split g n k) (Split h m l) new travel capacity stands e = subst (λ (x : TripSegment). Grows back (Reload depot) (Split g n k) x) (sym e) refl

-- the start alone, and the end alone, have no reload
pub open-start : (p : Problem) (t : VehicleType) (trips : TripSegment) → StandsForRun p t trips start_alone → trips ≡ Open (tail_of trips)
open-start p t (Open piece) stands = refl
open-start p t (Split h m l) stands = absurd (one-not_more _ _ _ _ stands.cut)

pub open-end : (p : Problem) (t : VehicleType) (trips : TripSegment) → StandsForRun p t trips end_alone → trips ≡ Open (head_of trips)
open-end p t (Open piece) stands = refl
open-end p t (Split h m l) stands = absurd (one-not_more _ _ _ _ stands.cut)

-- another inner piece
pub shaped-inner : (side : Side) (outer : Piece) (middles : List Middle) (k : ℕ) (a b : Piece) → with_inner side (shaped side outer middles k a) b ≡ shaped side outer middles k b
shaped-inner side outer middles zero a b = refl
shaped-inner front outer middles (suc k) a b = refl
shaped-inner back outer middles (suc k) a b = refl

-- what is kept for later reloads doesn't count
pub shaped-kept : (side : Side) (outer later : Piece) (middles : List Middle) (m : Middle) (k : ℕ) (inner : Piece) → k < length middles → (1 ≤ k → later ≡ outer) →
    shaped side later (middles ++ m ∷ []) k inner ≡ shaped side outer middles k inner
shaped-kept side outer later middles m zero inner h same = refl
shaped-kept front outer later middles m (suc k) inner h same =
    let e : later ≡ outer = same (omega arith) in
    let f = get_or_append_left middles (m ∷ []) no_trip (suc k) h in
    λ i. Split (e i) (f i) inner
shaped-kept back outer later middles m (suc k) inner h same =
    let e : later ≡ outer = same (omega arith) in
    let f = get_or_append_left middles (m ∷ []) no_trip (suc k) h in
    λ i. Split inner (f i) (e i)

pub outer-kept : (side : Side) (outer : Piece) (middles : List Middle) (k : ℕ) (inner other : Piece) → 1 ≤ k → outer_or side (shaped side outer middles k inner) other ≡ outer
outer-kept side outer middles zero inner other h = absurd (omega (arith, h))
outer-kept front outer middles (suc k) inner other h = refl
outer-kept back outer middles (suc k) inner other h = refl

-- one reload more
pub shaped-more : (side : Side) (outer : Piece) (middles : List Middle) (m : Middle) (k : ℕ) (inner : Piece) → length middles ≡ suc k →
    shaped side outer (middles ++ m ∷ []) (suc k) inner ≡ split_at side outer m inner
shaped-more front outer middles m k inner h = let f = get_or_push middles m no_trip (suc k) h in λ i. Split outer (f i) inner
shaped-more back outer middles m k inner h = let f = get_or_push middles m no_trip (suc k) h in λ i. Split inner (f i) outer

pub outer-split : (side : Side) (outer : Piece) (m : Middle) (inner : Piece) → outer_of side (split_at side outer m inner) ≡ outer
outer-split front outer m inner = refl
outer-split back outer m inner = refl

-- without a reload, and with some
pub shaped-open : (side : Side) (outer : Piece) (middles : List Middle) (k : ℕ) (inner : Piece) → k ≡ 0 → Open inner ≡ shaped side outer middles k inner
shaped-open side outer middles zero inner h = refl
shaped-open side outer middles (suc k) inner h = absurd (omega (arith, h))

pub shaped-split : (side : Side) (outer : Piece) (middles : List Middle) (k : ℕ) (inner : Piece) → 0 < k → split_at side outer (get_or middles k no_trip) inner ≡ shaped side outer middles k inner
shaped-split side outer middles zero inner h = absurd (omega (arith, h))
shaped-split side outer middles (suc k) inner h = refl
