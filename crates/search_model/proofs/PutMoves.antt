-- The moves of kinds 1 to 3 of a lawful plan, whatever the target is: it names a place of a list, from 0, and the piece goes directly
-- before the visit there, or behind all visits. And what positions tell.
use Rattle.std.proofs.Common.{◌≡◌, ◌≢◌, ℕ, zero, suc, ◌+◌, ◌-◌, ◌<◌, ◌≤◌, ◌⊎◌, Bool, true, false, ◌&&◌, ◌||◌, cond, List, [], ◌∷◌, ◌++◌, length, get_or, set, refl, sym, ◌∙◌, ap, inl, inr, arith, subst, take, drop, Option, Some, None, slice_get, slice_range}
use Rattle.std.specs.Prelude.{option_and_then, option_map}
use Rattle.std.specs.List.{list_all, list_any, position_from}
use Rattle.std.proofs.lemmas.List.{append-nil}
use Rattle.std.proofs.lemmas.Option.{slice_get_within}
use Rattle.problem_data.specs.declared.problem.Problem.{Problem}
use Rattle.problem_data.specs.declared.visit.Visit.{Visit}
use Rattle.problem_data.specs.declared.visit.Visit.TheVariants.{Client, Reload}
use Rattle.routing_model.specs.declared.weights.Weights.{Weights}
use Rattle.routing_model.specs.Lawful.{is_lawful}
use Rattle.routing_model.specs.Routes.{Routes, has_client, is_client, is_used, is_visit_of, is_visited, list_at}
use Rattle.routing_model.specs.Tidy.{is_tidy, tidied}
use Rattle.routing_model.proofs.Tidying.{tidied-tidy}
use Rattle.routing_model.proofs.TidyJoints.{joined, tidy-somewhere, unused-last}
use Rattle.search_model.specs.declared.candidate.Candidate.{Candidate}
use Rattle.search_model.specs.declared.candidate.Target.{Target}
use Rattle.search_model.specs.declared.candidate.Target.TheVariants.{After, Empty, StartOf}
use Rattle.search_model.specs.Edits.{begins_with, position_of, unused_vehicle, vehicle_of}
use Rattle.search_model.specs.Exchange.{exchanged}
use Rattle.search_model.specs.Moves.{made}
use Rattle.search_model.proofs.ClientPlaces.{Once, StandsAt, list-read, vehicle-there}
use Rattle.search_model.proofs.EditedRuns.{cut-one}
use Rattle.search_model.proofs.ExchangeMoves.{MovesOne, MovesTwo, all-at, piece-clients, piece-used, behind-earlier-moves, behind-later-moves, behind-two-moves, front-one-moves, front-two-moves, unused-found, unused-moves}
use Rattle.search_model.proofs.LawfulMoves.{plan-tidy}
use Rattle.search_model.proofs.MovedPieces.{behind-own, behind-unvisited, front-none, front-own, piece-inside, unused-none}
use Rattle.search_model.proofs.Pieces.{is_piece}
use Rattle.search_model.proofs.RunMoves.{lawful-once, tidied-first, with_run, with_runs}

-- a target names a place of a vehicle's list
abbrev pub NamesPlace : Problem → Routes → Target → ℕ → ℕ → Type 0
NamesPlace p routes (After v) b x = (1 ≤ x) × StandsAt routes v b (x - 1)
NamesPlace p routes (StartOf v) b x = (x ≡ 0) × StandsAt routes v b 0
NamesPlace p routes (Empty type) b x = (x ≡ 0) × (unused_vehicle p routes type ≡ Some b)

-- what it names isn't there
abbrev pub NamesNone : Problem → Routes → Target → Type 0
NamesNone p routes (After v) = is_visited routes v ≡ false
NamesNone p routes (StartOf v) = list_any (begins_with v) routes ≡ false
NamesNone p routes (Empty type) = unused_vehicle p routes type ≡ None

-- a list with a client is used
pub used-at : (xs : List Visit) (k u : ℕ) → slice_get xs k ≡ Some (Client u) → is_used xs ≡ true
used-at [] k u at = absurd (let e : k < 0 = slice_get_within [] k (Client u) at in omega arith)
used-at (Client place ∷ xs) k u at = refl
used-at (Reload depot ∷ xs) zero u at = cc
used-at (Reload depot ∷ xs) (suc k) u at = used-at xs k u at

-- a client without a position isn't visited
none-mapped : {X Y : Type 0} (f : X → Y) (o : Option X) → option_map f o ≡ None → o ≡ None
none-mapped f None h = refl
none-mapped f (Some x) h = cc

nowhere : {X : Type 0} (f : X → Bool) (n : ℕ) (xs : List X) → position_from f n xs ≡ None → list_any f xs ≡ false
nowhere f n [] h = refl
nowhere f n (x ∷ xs) h = by (f x) refl (λ k. nowhere f (n + 1) xs k)
  where
    by : (b : Bool) → f x ≡ b → (position_from f (n + 1) xs ≡ None → list_any f xs ≡ false) → (f x || list_any f xs) ≡ false
    by true e later = let k : Some n ≡ None = sym (ap (λ (b : Bool). cond b (Some n) (position_from f (n + 1) xs)) e) ∙ h in absurd (let no : ⊥ = cc in no)
    by false e later =
        ap (λ (b : Bool). b || list_any f xs) e
        ∙ later (sym (ap (λ (b : Bool). cond b (Some n) (position_from f (n + 1) xs)) e) ∙ h)

same-some : (a b : ℕ) → Some a ≡ Some b → a ≡ b
same-some a b e = cc

somewhere-later : {X : Type 0} (f : X → Bool) (n v : ℕ) (xs : List X) → position_from f n xs ≡ Some v → n ≤ v
somewhere-later f n v [] h = absurd (let e : ⊥ = cc in e)
somewhere-later f n v (x ∷ xs) h = by (f x) refl (λ k. somewhere-later f (n + 1) v xs k)
  where
    by : (b : Bool) → f x ≡ b → (position_from f (n + 1) xs ≡ Some v → n + 1 ≤ v) → n ≤ v
    by true e later = let k = same-some n v (sym (ap (λ (b : Bool). cond b (Some n) (position_from f (n + 1) xs)) e) ∙ h) in omega arith
    by false e later = let k = later (sym (ap (λ (b : Bool). cond b (Some n) (position_from f (n + 1) xs)) e) ∙ h) in omega arith

somewhere : {X : Type 0} (f : X → Bool) (n v : ℕ) (xs : List X) (none : X) → position_from f n xs ≡ Some v → f (get_or xs (v - n) none) ≡ true
somewhere f n v [] none h = absurd (let e : ⊥ = cc in e)
somewhere f n v (x ∷ xs) none h = by (f x) refl (λ k. somewhere f (n + 1) v xs none k)
  where
    by : (b : Bool) → f x ≡ b → (position_from f (n + 1) xs ≡ Some v → f (get_or xs (v - (n + 1)) none) ≡ true) → f (get_or (x ∷ xs) (v - n) none) ≡ true
    by true e later =
        let k = same-some n v (sym (ap (λ (b : Bool). cond b (Some n) (position_from f (n + 1) xs)) e) ∙ h) in
        let z : v - n ≡ 0 = omega arith in
        ap (λ (i : ℕ). f (get_or (x ∷ xs) i none)) z ∙ e
    by false e later =
        let rest : position_from f (n + 1) xs ≡ Some v = sym (ap (λ (b : Bool). cond b (Some n) (position_from f (n + 1) xs)) e) ∙ h in
        let low = somewhere-later f (n + 1) v xs rest in
        let z : v - n ≡ suc (v - (n + 1)) = omega arith in
        ap (λ (i : ℕ). f (get_or (x ∷ xs) i none)) z ∙ later rest

pub position-none : (routes : Routes) (c : ℕ) → position_of routes c ≡ None → is_visited routes c ≡ false
position-none routes c h = by (vehicle_of routes c) refl
  where
    at : ℕ → Option (ℕ × ℕ)
    at vehicle = option_map (λ place. (vehicle, place + 1)) (position_from (is_visit_of c) 0 (list_at routes vehicle))

    by : (o : Option ℕ) → vehicle_of routes c ≡ o → is_visited routes c ≡ false
    by None e = nowhere (has_client c) 0 routes e
    by (Some v) e =
        let here : option_map (λ place. (v, place + 1)) (position_from (is_visit_of c) 0 (list_at routes v)) ≡ None =
        sym (ap (option_and_then (λ vehicle. option_map (λ place. (vehicle, place + 1)) (position_from (is_visit_of c) 0 (list_at routes vehicle)))) e) ∙ h in
        let none : has_client c (list_at routes v) ≡ false = nowhere (is_visit_of c) 0 (list_at routes v) (none-mapped {X = ℕ} {Y = ℕ × ℕ} (λ (place : ℕ). (v, place + 1)) (position_from (is_visit_of c) 0 (list_at routes v)) here) in
        let index : v - 0 ≡ v = omega arith in
        let there : has_client c (list_at routes v) ≡ true =
        ap (has_client c) (list-read routes v) ∙ (ap (λ (i : ℕ). has_client c (get_or routes i [])) (sym index) ∙ somewhere (has_client c) 0 v routes [] e) in
        let k : true ≡ false = sym there ∙ none in cc

-- and begins no list
pub begins-unvisited : (routes : Routes) (c : ℕ) → is_visited routes c ≡ false → list_any (begins_with c) routes ≡ false
begins-unvisited [] c h = refl
begins-unvisited (xs ∷ routes) c h = by xs (has_client c xs) (is_visited routes c) h (λ k. begins-unvisited routes c k) refl
  where
    begins : (xs : List Visit) → has_client c xs ≡ false → begins_with c xs ≡ false
    begins [] k = refl
    begins (x ∷ xs) k = first (is_visit_of c x) (has_client c xs) k
      where
        first : (a b : Bool) → (a || b) ≡ false → a ≡ false
        first true b k = k
        first false b k = refl

    by : (xs : List Visit) (a b : Bool) → (a || b) ≡ false → (b ≡ false → list_any (begins_with c) routes ≡ false) → has_client c xs ≡ a → (begins_with c xs || list_any (begins_with c) routes) ≡ false
    by xs true b k later e = absurd (let no : ⊥ = cc in no)
    by xs false b k later e = ap (λ (t : Bool). t || list_any (begins_with c) routes) (begins xs e) ∙ later k

module _ (p : Problem) (w : Weights) (routes : Routes) (candidate : Candidate) (lawful : is_lawful p routes ≡ true) (a k n u : ℕ) (at_u : StandsAt routes u a k) (some : 1 ≤ n)
    (there : is_piece (list_at routes a) k n ≡ true) where
  abbrev A : List Visit
  A = list_at routes a

  abbrev P : List Visit
  P = slice_range A k (k + n)

  once : Once routes
  once = lawful-once p routes lawful

  tidy-at : (i : ℕ) → is_tidy (list_at routes i) ≡ true
  tidy-at i = all-at routes i (plan-tidy p w routes candidate lawful)

  -- an unused vehicle is another one, and its list is empty
  pub unused-apart : (type j : ℕ) → unused_vehicle p routes type ≡ Some j → j ≢ a
  unused-apart type j found same =
      let free = unused-found p routes type j found in
      let none : is_used A ≡ false = ap is_used (list-read routes a) ∙ (ap (λ (i : ℕ). is_used (get_or routes i [])) (sym same) ∙ free.1) in
      let e : true ≡ false = sym (used-at A k u at_u) ∙ none in cc

  unused-list : (type j : ℕ) → unused_vehicle p routes type ≡ Some j → list_at routes j ≡ []
  unused-list type j found =
      let free = unused-found p routes type j found in
      unused-last (list_at routes j) (tidy-somewhere false (list_at routes j) (tidy-at j)) (ap is_used (list-read routes j) ∙ free.1)

  -- what is named isn't there
  pub put-none : (target : Target) → NamesNone p routes target → exchanged p routes n 0 u target ≡ None
  put-none (After v) none = behind-unvisited p routes once a k n u at_u there v none
  put-none (StartOf v) none = front-none p routes once a k n u at_u there v none
  put-none (Empty type) none = unused-none p routes once a k n u at_u there type none

  -- the place is within a list
  pub place-within : (target : Target) (b x : ℕ) → NamesPlace p routes target b x → x ≤ length (list_at routes b)
  place-within (After v) b x names =
      let low : 1 ≤ x = names.0 in
      let e : x - 1 < length (list_at routes b) = slice_get_within (list_at routes b) (x - 1) (Client v) names.1 in omega arith
  place-within (StartOf v) b x names = let e : x ≡ 0 = names.0 in omega arith
  place-within (Empty type) b x names = let e : x ≡ 0 = names.0 in omega arith

  -- to another list
  pub put-two : (target : Target) (b x : ℕ) → NamesPlace p routes target b x → b ≢ a → made p w routes candidate ≡ exchanged p routes n 0 u target →
      MovesTwo p w routes candidate a b (joined (slice_range (list_at routes a) 0 k) (slice_range (list_at routes a) (k + n) (length (list_at routes a))))
      (with_run (list_at routes b) x x (slice_range (list_at routes a) k (k + n)))
  put-two (After v) b x names apart makes =
      let low : 1 ≤ x = names.0 in
      let next : x - 1 + 1 ≡ x = omega arith in
      subst (λ (y : ℕ). MovesTwo p w routes candidate a b (joined (slice_range A 0 k) (slice_range A (k + n) (length A))) (with_run (list_at routes b) y y P)) next
      (behind-two-moves p w routes candidate lawful a k n u at_u some there b (x - 1) v names.1 apart makes)
  put-two (StartOf v) b x names apart makes =
      subst (λ (y : ℕ). MovesTwo p w routes candidate a b (joined (slice_range A 0 k) (slice_range A (k + n) (length A))) (with_run (list_at routes b) y y P)) (sym names.0)
      (front-two-moves p w routes candidate lawful a k n u at_u some there b 0 v names.1 apart refl makes)
  put-two (Empty type) b x names apart makes =
      let alone : with_run (list_at routes b) 0 0 P ≡ P = ap (λ (xs : List Visit). with_run xs 0 0 P) (unused-list type b names.1) ∙ append-nil P in
      subst (λ (y : ℕ). MovesTwo p w routes candidate a b (joined (slice_range A 0 k) (slice_range A (k + n) (length A))) (with_run (list_at routes b) y y P)) (sym names.0)
      (subst (λ (ys : List Visit). MovesTwo p w routes candidate a b (joined (slice_range A 0 k) (slice_range A (k + n) (length A))) ys) (sym alone)
      (unused-moves p w routes candidate lawful a k n u at_u some there type b names.1 makes))

  -- to a place before it
  pub put-earlier : (target : Target) (x : ℕ) → NamesPlace p routes target a x → x < k → made p w routes candidate ≡ exchanged p routes n 0 u target →
      MovesOne p w routes candidate a (joined (slice_range (list_at routes a) 0 x ++ (slice_range (list_at routes a) k (k + n) ++ slice_range (list_at routes a) x k))
      (slice_range (list_at routes a) (k + n) (length (list_at routes a))))
  put-earlier (After v) x names before makes =
      let low : 1 ≤ x = names.0 in
      let next : x - 1 + 1 ≡ x = omega arith in
      subst (λ (y : ℕ). MovesOne p w routes candidate a (joined (slice_range A 0 y ++ (P ++ slice_range A y k)) (slice_range A (k + n) (length A)))) next
      (behind-earlier-moves p w routes candidate lawful a k n u at_u some there (x - 1) v names.1 (omega arith) makes)
  put-earlier (StartOf v) x names before makes =
      let front : x ≡ 0 = names.0 in
      subst (λ (y : ℕ). MovesOne p w routes candidate a (joined (slice_range A 0 y ++ (P ++ slice_range A y k)) (slice_range A (k + n) (length A)))) (sym names.0)
      (front-one-moves p w routes candidate lawful a k n u at_u some there 0 v names.1 refl (omega arith) makes)
  put-earlier (Empty type) x names before makes = absurd (unused-apart type a names.1 refl)

  -- into itself
  pub put-own : (target : Target) (x : ℕ) → NamesPlace p routes target a x → k < x → x ≤ k + n → exchanged p routes n 0 u target ≡ None
  put-own (After v) x names low high = behind-own p routes once a k n u at_u there (x - 1) v names.1 (omega arith) (omega arith)
  put-own (StartOf v) x names low high = let front : x ≡ 0 = names.0 in absurd (omega arith)
  put-own (Empty type) x names low high = let front : x ≡ 0 = names.0 in absurd (omega arith)

  -- to where it stands: it doesn't apply, or the list stays
  stays : joined (slice_range A 0 k ++ (P ++ slice_range A k k)) (slice_range A (k + n) (length A)) ≡ A
  stays =
      let inside : k + n ≤ length A = piece-inside A k n there in
      let none : slice_range A k k ≡ [] = empty k in
      let whole : with_runs A k k P k (k + n) [] ≡ A =
      ap (λ (xs : List Visit). slice_range A 0 k ++ (P ++ (xs ++ slice_range A (k + n) (length A)))) none ∙ sym (cut-one A k (k + n) (omega arith) inside) in
      sym (tidied-first A (tidy-at a) k k k (k + n) (omega arith) (omega arith) (omega arith) inside P clients used)
      ∙ (ap tidied whole ∙ tidied-tidy false A (tidy-at a))
    where
      empty : (k : ℕ) → slice_range A k k ≡ []
      empty k = let e : k - k ≡ 0 = omega arith in ap (λ (n : ℕ). take n (drop k A)) e

      clients : list_all is_client P ≡ true
      clients = piece-clients A k n there

      used : is_used P ≡ true
      used = piece-used A k n u at_u some

  pub put-here : (target : Target) → NamesPlace p routes target a k → made p w routes candidate ≡ exchanged p routes n 0 u target →
      (exchanged p routes n 0 u target ≡ None) ⊎ MovesOne p w routes candidate a (list_at routes a)
  put-here (After v) names makes =
      let low : 1 ≤ k = names.0 in
      let next : k - 1 + 1 ≡ k = omega arith in
      inr (subst (λ (xs : List Visit). MovesOne p w routes candidate a xs) stays
      (subst (λ (y : ℕ). MovesOne p w routes candidate a (joined (slice_range A 0 y ++ (P ++ slice_range A y k)) (slice_range A (k + n) (length A)))) next
      (behind-earlier-moves p w routes candidate lawful a k n u at_u some there (k - 1) v names.1 (omega arith) makes)))
  put-here (StartOf v) names makes =
      let front : k ≡ 0 = names.0 in
      inl (front-own p routes once a k n u at_u there 0 v names.1 (omega arith) (omega arith))
  put-here (Empty type) names makes = absurd (unused-apart type a names.1 refl)

  -- to a place behind it
  pub put-later : (target : Target) (x : ℕ) → NamesPlace p routes target a x → k + n < x → made p w routes candidate ≡ exchanged p routes n 0 u target →
      MovesOne p w routes candidate a (joined (slice_range (list_at routes a) 0 k)
      (slice_range (list_at routes a) (k + n) x ++ (slice_range (list_at routes a) k (k + n) ++ slice_range (list_at routes a) x (length (list_at routes a)))))
  put-later (After v) x names behind makes =
      let next : x - 1 + 1 ≡ x = omega arith in
      subst (λ (y : ℕ). MovesOne p w routes candidate a (joined (slice_range A 0 k) (slice_range A (k + n) y ++ (P ++ slice_range A y (length A))))) next
      (behind-later-moves p w routes candidate lawful a k n u at_u some there (x - 1) v names.1 (omega arith) makes)
  put-later (StartOf v) x names behind makes = let front : x ≡ 0 = names.0 in absurd (omega arith)
  put-later (Empty type) x names behind makes = let front : x ≡ 0 = names.0 in absurd (omega arith)
