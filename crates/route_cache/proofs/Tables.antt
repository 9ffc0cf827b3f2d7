-- One visit more in a table of pieces.
use Rattle.std.proofs.Common.{◌≡◌, ℕ, suc, ◌+◌, ◌≤◌, List, [], ◌∷◌, ◌++◌, length, get_or, refl, ◌∙◌, ap, sym, subst, arith, ◌⊎◌, inl, inr, add-one, length-append}
use Rattle.std.proofs.lemmas.List.{get_or_append_left, get_or_push}
use Rattle.problem_data.specs.declared.problem.Problem.{Problem}
use Rattle.problem_data.specs.declared.problem.VehicleType.{VehicleType}
use Rattle.problem_data.specs.declared.visit.Visit.{Visit}
use Rattle.problem_data.specs.declared.visit.Visit.TheVariants.{Client, Reload}
use Rattle.trips.specs.declared.piece.Piece.{Piece}
use Rattle.trips.specs.declared.middle.Middle.{Middle}
use Rattle.trips.specs.declared.trip_segment.TripSegment.{TripSegment}
use Rattle.route_cache.specs.inside.Shapes.{Grows, Side, grown_middles, grown_outer, inner_of, middle_of, no_trip, outer_of, outer_or, reload_of, shaped, split_at, with_inner}
use Rattle.route_cache.specs.inside.Tables.{IsLatest, IsTable, TripsHold, reloads_of_side, run_of_side}
use Rattle.trips.specs.declared.trip_segment.TripSegment.TheVariants.{Open}
use Rattle.route_cache.proofs.Counting.{reloads-none}
use Rattle.route_cache.proofs.Shapes.{shaped-open, outer-kept, outer-split, shaped-inner, shaped-kept, shaped-more}

-- an item more
pub each-more : {X : Type 0} (P : ℕ → X → Type 0) (xs : List X) (x : X) (k : ℕ) → length xs ≡ k + 1 →
    ((i : ℕ) (none : X) → i ≤ k → P i (get_or xs i none)) → P (k + 1) x → (i : ℕ) (none : X) → i ≤ k + 1 → P i (get_or (xs ++ x ∷ []) i none)
each-more P xs x k count each more i none h =
    elim (earlier_or_last i k h) [
      | inl early ↦ subst (P i) (sym (get_or_append_left xs (x ∷ []) none i (omega arith))) (each i none early)
      | inr last ↦ subst (λ (j : ℕ). P j (get_or (xs ++ x ∷ []) j none)) (sym last) (subst (P (k + 1)) (sym (get_or_push xs x none (k + 1) count)) more)
    ]
  where
    earlier_or_last : (i k : ℕ) → i ≤ k + 1 → (i ≤ k) ⊎ (i ≡ k + 1)
    earlier_or_last i k h = grind arith

-- both facts of a table
pub record IsUpdated (p : Problem) (t : VehicleType) (side : Side) (visits : List Visit) (k : ℕ) (pieces : List Piece) (middles : List Middle) (outer : Piece) (trips : TripSegment) : Type 0 where
  pub table : IsTable p t side visits k pieces middles outer
  pub latest : IsLatest side visits k pieces middles outer trips

module _ (p : Problem) (t : VehicleType) (side : Side) (visits : List Visit) (k : ℕ) (pieces : List Piece) (middles : List Middle) (outer : Piece) (old new : TripSegment)
    (table : IsTable p t side visits k pieces middles outer) (latest : IsLatest side visits k pieces middles outer old)
    (fewer : (i : ℕ) → i ≤ k → reloads_of_side side visits i ≤ reloads_of_side side visits k) (holds : TripsHold p t new (run_of_side side visits (k + 1))) where
  -- behind a client
  more-client : reloads_of_side side visits (k + 1) ≡ reloads_of_side side visits k + 0 → new ≡ with_inner side old (inner_of side new) →
      IsUpdated p t side visits (k + 1) (pieces ++ inner_of side new ∷ []) middles outer new
  more-client more grows =
      let same : reloads_of_side side visits k ≡ reloads_of_side side visits (k + 1) = omega arith in
      let shape : new ≡ shaped side outer middles (reloads_of_side side visits (k + 1)) (inner_of side new) =
      grows
      ∙ ap (λ (o : TripSegment). with_inner side o (inner_of side new)) (latest (inner_of side new))
      ∙ shaped-inner side outer middles (reloads_of_side side visits k) _ (inner_of side new)
      ∙ ap (λ (r : ℕ). shaped side outer middles r (inner_of side new)) same in
      record {
        table = record {
          count = length-append pieces (inner_of side new ∷ []) ∙ ap (λ (n : ℕ). n + 1) table.count;
          each_trip = table.each_trip ∙ ap (λ (n : ℕ). n + 1) same;
          each = each-more (λ (i : ℕ) (x : Piece). TripsHold p t (shaped side outer middles (reloads_of_side side visits i) x) (run_of_side side visits i)) pieces (inner_of side new) k table.count table.each
              (subst (λ (s : TripSegment). TripsHold p t s (run_of_side side visits (k + 1))) shape holds);
        };
        latest = λ none. shape ∙ ap (shaped side outer middles (reloads_of_side side visits (k + 1))) (sym (get_or_push pieces (inner_of side new) none (k + 1) table.count));
      }

  -- behind a reload
  more-reload : reloads_of_side side visits (k + 1) ≡ reloads_of_side side visits k + 1 → new ≡ split_at side (outer_or side old (outer_of side new)) (middle_of new) (inner_of side new) →
      IsUpdated p t side visits (k + 1) (pieces ++ inner_of side new ∷ []) (middles ++ middle_of new ∷ []) (outer_of side new) new
  more-reload more grows =
      let r = reloads_of_side side visits k in
      let inner = inner_of side new in
      let next : suc r ≡ reloads_of_side side visits (k + 1) = sym (more ∙ add-one r) in
      let is_outer : outer_or side old (outer_of side new) ≡ outer_of side new = sym (ap (outer_of side) grows ∙ outer-split side (outer_or side old (outer_of side new)) (middle_of new) inner) in
      let trips : length middles ≡ suc r = table.each_trip ∙ add-one r in
      let shape : new ≡ shaped side (outer_of side new) (middles ++ middle_of new ∷ []) (reloads_of_side side visits (k + 1)) inner =
      grows
      ∙ ap (λ (o : Piece). split_at side o (middle_of new) inner) is_outer
      ∙ sym (shaped-more side (outer_of side new) middles (middle_of new) r inner trips)
      ∙ ap (λ (n : ℕ). shaped side (outer_of side new) (middles ++ middle_of new ∷ []) n inner) next in
      let later : 1 ≤ r → outer_of side new ≡ outer =
      λ h. sym is_outer ∙ ap (λ (o : TripSegment). outer_or side o (outer_of side new)) (latest inner) ∙ outer-kept side outer middles r (get_or pieces k inner) (outer_of side new) h in
      record {
        table = record {
          count = length-append pieces (inner ∷ []) ∙ ap (λ (n : ℕ). n + 1) table.count;
          each_trip = length-append middles (middle_of new ∷ []) ∙ ap (λ (n : ℕ). n + 1) (table.each_trip ∙ sym more);
          each = each-more (λ (i : ℕ) (x : Piece). TripsHold p t (shaped side (outer_of side new) (middles ++ middle_of new ∷ []) (reloads_of_side side visits i) x) (run_of_side side visits i)) pieces inner k table.count
              (λ i none h.
              let few = fewer i h in
              subst (λ (s : TripSegment). TripsHold p t s (run_of_side side visits i))
              (sym (shaped-kept side outer (outer_of side new) middles (middle_of new) (reloads_of_side side visits i) (get_or pieces i none) (omega (arith, few, table.each_trip)) (λ e. later (omega (arith, few, e)))))
              (table.each i none h))
              (subst (λ (s : TripSegment). TripsHold p t s (run_of_side side visits (k + 1))) shape holds);
        };
        latest = λ none. shape ∙ ap (shaped side (outer_of side new) (middles ++ middle_of new ∷ []) (reloads_of_side side visits (k + 1))) (sym (get_or_push pieces inner none (k + 1) table.count));
      }

  -- behind a visit
  more-visit : (visit : Visit) → reloads_of_side side visits (k + 1) ≡ reloads_of_side side visits k + reload_of visit → Grows side visit old new →
      IsUpdated p t side visits (k + 1) (pieces ++ inner_of side new ∷ []) (grown_middles visit middles (middle_of new)) (grown_outer visit outer (outer_of side new)) new
  more-visit (Client place) more grows = more-client more grows
  more-visit (Reload depot) more grows = more-reload more grows

  pub updated : (visit : Visit) (pieces' : List Piece) (middles' : List Middle) (outer' : Piece) →
      reloads_of_side side visits (k + 1) ≡ reloads_of_side side visits k + reload_of visit → Grows side visit old new →
      pieces' ≡ pieces ++ inner_of side new ∷ [] → middles' ≡ grown_middles visit middles (middle_of new) → outer' ≡ grown_outer visit outer (outer_of side new) →
      IsUpdated p t side visits (k + 1) pieces' middles' outer' new
  updated visit pieces' middles' outer' more grows is_pieces is_middles is_outer =
      subst (λ (o : Piece). IsUpdated p t side visits (k + 1) pieces' middles' o new) (sym is_outer)
      (subst (λ (ms : List Middle). IsUpdated p t side visits (k + 1) pieces' ms (grown_outer visit outer (outer_of side new)) new) (sym is_middles)
      (subst (λ (ps : List Piece). IsUpdated p t side visits (k + 1) ps (grown_middles visit middles (middle_of new)) (grown_outer visit outer (outer_of side new)) new) (sym is_pieces)
      (more-visit visit more grows)))

-- the table of the start alone, or of the end alone
pub begun-table : (p : Problem) (t : VehicleType) (side : Side) (visits : List Visit) (trips : TripSegment) (piece : Piece) (pieces : List Piece) (middles : List Middle) (outer : Piece) →
    TripsHold p t trips (run_of_side side visits 0) → trips ≡ Open piece → pieces ≡ piece ∷ [] → middles ≡ no_trip ∷ [] → outer ≡ piece → IsUpdated p t side visits 0 pieces middles outer trips
begun-table p t side visits trips piece pieces middles outer holds is_open is_pieces is_middles is_outer =
    let shape : trips ≡ shaped side piece (no_trip ∷ []) (reloads_of_side side visits 0) piece = is_open ∙ shaped-open side piece (no_trip ∷ []) (reloads_of_side side visits 0) piece (reloads-none side visits) in
    subst (λ (o : Piece). IsUpdated p t side visits 0 pieces middles o trips) (sym is_outer)
    (subst (λ (ms : List Middle). IsUpdated p t side visits 0 pieces ms piece trips) (sym is_middles)
    (subst (λ (ps : List Piece). IsUpdated p t side visits 0 ps (no_trip ∷ []) piece trips) (sym is_pieces) (record {
      table = record {
        count = refl;
        each_trip = ap (λ (n : ℕ). n + 1) (sym (reloads-none side visits));
        each = λ i none h.
            let e : 0 ≡ i = omega arith in
            subst (λ (i : ℕ). TripsHold p t (shaped side piece (no_trip ∷ []) (reloads_of_side side visits i) (get_or (piece ∷ []) i none)) (run_of_side side visits i)) e
            (subst (λ (s : TripSegment). TripsHold p t s (run_of_side side visits 0)) shape holds);
      };
      latest = λ none. shape;
    })))
