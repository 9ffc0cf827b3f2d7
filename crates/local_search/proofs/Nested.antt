-- Candidates that are nested in lists: one more of a list's items was gone through, or the descent stopped at it.
use Rattle.std.proofs.Common.{◌≡◌, ◌∙◌, ℕ, ◌+◌, ◌-◌, ◌<◌, ◌≤◌, Bool, List, ◌++◌, length, take, drop, get_or, sym, arith, subst}
use Rattle.std.specs.Prelude.{flat_map}
use Rattle.std.specs.List.{range_with_len}
use Rattle.std.proofs.lemmas.List.{take_all}
use Rattle.std.proofs.lemmas.List.FromFn.{length-range_with_len}
use Rattle.problem_data.specs.declared.problem.Problem.{Problem}
use Rattle.routing_model.specs.declared.weights.Weights.{Weights}
use Rattle.search_model.specs.declared.candidate.Candidate.{Candidate}
use Rattle.search_model.specs.declared.kind.Kind.{Kind}
use Rattle.move_core.specs.Searches.{SearchState}
use Rattle.local_search.specs.inside.Stages.{Stage, Stopped, Tried}
use Rattle.local_search.proofs.Stops.{stopped_more, stopped_then, tried_then}
use Rattle.local_search.proofs.TurnLists.{flat_cut, flat_more, number_at, number_from}

module _ (p : Problem) (w : Weights) (kinds : List Kind) (each : Bool) (a b : Stage) where
  pub tried_item : {X : Type 0} (f : X → List Candidate) (xs : List X) (i : ℕ) (d : X) (c : Stage) → i < length xs → Tried p w kinds each (flat_map f (take i xs)) a b →
      Tried b.search.problem b.search.weights kinds each (f (get_or xs i d)) b c → Tried p w kinds each (flat_map f (take (i + 1) xs)) a c
  tried_item f xs i d c l h k =
      subst (λ (cs : List Candidate). Tried p w kinds each cs a c) (sym (flat_more f xs i d l))
      (tried_then p w kinds each (flat_map f (take i xs)) (f (get_or xs i d)) a b c h k)

  pub stopped_item : {X : Type 0} (f : X → List Candidate) (xs : List X) (i : ℕ) (d : X) (c : SearchState) → i < length xs → Tried p w kinds each (flat_map f (take i xs)) a b →
      Stopped b.search.problem b.search.weights (f (get_or xs i d)) b.search c → Stopped p w (flat_map f xs) a.search c
  stopped_item f xs i d c l h k =
      let here : Stopped p w (flat_map f (take i xs) ++ f (get_or xs i d)) a.search c = stopped_then p w kinds each (flat_map f (take i xs)) (f (get_or xs i d)) a b c h k in
      let more : Stopped p w (flat_map f (take (i + 1) xs)) a.search c = subst (λ (cs : List Candidate). Stopped p w cs a.search c) (sym (flat_more f xs i d l)) here in
      subst (λ (cs : List Candidate). Stopped p w cs a.search c) (flat_cut f xs (i + 1))
      (stopped_more p w (flat_map f (take (i + 1) xs)) (flat_map f (drop (i + 1) xs)) a.search c more)

  pub tried_items : {X : Type 0} (f : X → List Candidate) (xs : List X) (i : ℕ) → length xs ≤ i → Tried p w kinds each (flat_map f (take i xs)) a b → Tried p w kinds each (flat_map f xs) a b
  tried_items f xs i l h = subst (λ ys. Tried p w kinds each (flat_map f ys) a b) (take_all i xs l) h

  -- and of the first numbers
  pub tried_number : (f : ℕ → List Candidate) (n i : ℕ) (c : Stage) → i < n → Tried p w kinds each (flat_map f (take i (range_with_len 0 n))) a b →
      Tried b.search.problem b.search.weights kinds each (f i) b c → Tried p w kinds each (flat_map f (take (i + 1) (range_with_len 0 n))) a c
  tried_number f n i c l h k =
      tried_item f (range_with_len 0 n) i 0 c (rw length-range_with_len l) h
      (subst (λ (m : ℕ). Tried b.search.problem b.search.weights kinds each (f m) b c) (sym (number_at n i l)) k)

  pub stopped_number : (f : ℕ → List Candidate) (n i : ℕ) (c : SearchState) → i < n → Tried p w kinds each (flat_map f (take i (range_with_len 0 n))) a b →
      Stopped b.search.problem b.search.weights (f i) b.search c → Stopped p w (flat_map f (range_with_len 0 n)) a.search c
  stopped_number f n i c l h k =
      stopped_item f (range_with_len 0 n) i 0 c (rw length-range_with_len l) h
      (subst (λ (m : ℕ). Stopped b.search.problem b.search.weights (f m) b.search c) (sym (number_at n i l)) k)

  pub tried_numbers : (f : ℕ → List Candidate) (n i : ℕ) → n ≤ i → Tried p w kinds each (flat_map f (take i (range_with_len 0 n))) a b → Tried p w kinds each (flat_map f (range_with_len 0 n)) a b
  tried_numbers f n i l h = tried_items f (range_with_len 0 n) i (rw length-range_with_len l) h

  -- and of numbers from one on
  pub tried_from : (f : ℕ → List Candidate) (from n k : ℕ) (c : Stage) → from ≤ k → k < from + n → Tried p w kinds each (flat_map f (take (k - from) (range_with_len from n))) a b →
      Tried b.search.problem b.search.weights kinds each (f k) b c → Tried p w kinds each (flat_map f (take (k + 1 - from) (range_with_len from n))) a c
  tried_from f from n k c least l h t =
      let here : k - from < n = omega (arith, least, l) in
      let number : from + (k - from) ≡ k = omega (arith, least) in
      let next : k - from + 1 ≡ k + 1 - from = omega (arith, least) in
      subst (λ (m : ℕ). Tried p w kinds each (flat_map f (take m (range_with_len from n))) a c) next
      (tried_item f (range_with_len from n) (k - from) 0 c (rw length-range_with_len here) h
      (subst (λ (m : ℕ). Tried b.search.problem b.search.weights kinds each (f m) b c) (sym (number_from from n (k - from) here ∙ number)) t))

  pub stopped_from : (f : ℕ → List Candidate) (from n k : ℕ) (c : SearchState) → from ≤ k → k < from + n → Tried p w kinds each (flat_map f (take (k - from) (range_with_len from n))) a b →
      Stopped b.search.problem b.search.weights (f k) b.search c → Stopped p w (flat_map f (range_with_len from n)) a.search c
  stopped_from f from n k c least l h t =
      let here : k - from < n = omega (arith, least, l) in
      let number : from + (k - from) ≡ k = omega (arith, least) in
      stopped_item f (range_with_len from n) (k - from) 0 c (rw length-range_with_len here) h
      (subst (λ (m : ℕ). Stopped b.search.problem b.search.weights (f m) b.search c) (sym (number_from from n (k - from) here ∙ number)) t)

  pub tried_all_from : (f : ℕ → List Candidate) (from n k : ℕ) → from + n ≤ k → Tried p w kinds each (flat_map f (take (k - from) (range_with_len from n))) a b → Tried p w kinds each (flat_map f (range_with_len from n)) a b
  tried_all_from f from n k l h = tried_items f (range_with_len from n) (k - from) (rw length-range_with_len (omega (arith, l))) h
