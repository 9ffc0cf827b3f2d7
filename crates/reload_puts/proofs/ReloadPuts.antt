-- What putting a client behind another one, with a reload beside it, makes of a plan in which no client stands twice: the new lists by
-- runs of the old ones, before tidying. U stands at place k of vehicle a, V at place l of vehicle b, from 0.
use Rattle.std.proofs.Common.{◌≡◌, ◌≢◌, ℕ, ◌+◌, ◌<◌, ◌≤◌, ◌⊎◌, Bool, true, false, ◌||◌, cond, List, [], ◌∷◌, ◌++◌, length, set, refl, sym, ◌∙◌, ap, ap₂, inl, inr, arith, append_assoc, slice_range}
use Rattle.std.specs.Prelude.{flat_map, nat_eq}
use Rattle.std.proofs.lemmas.Bool.Decides.{nat_tests}
use Rattle.std.proofs.lemmas.List.{append-nil}
use Rattle.std.proofs.lemmas.Option.{slice_get_within}
use Rattle.list_words.specs.Lists.{is_in}
use Rattle.problem_data.specs.declared.visit.Visit.{Visit}
use Rattle.problem_data.specs.declared.visit.Visit.TheVariants.{Client, Reload}
use Rattle.routing_model.specs.Routes.{Routes, has_client, is_visit_of, list_at}
use Rattle.search_model.specs.Edits.{substituted}
use Rattle.search_model.specs.Reloads.{with_behind}
use Rattle.search_model.proofs.ClientPlaces.{Once, StandsAt, itself, vehicle-there}
use Rattle.search_model.proofs.EditedRuns.{run-of-each, two-runs}
use Rattle.search_model.proofs.ListEdits.{Leaves}
use Rattle.search_model.proofs.Pieces.{slice-more, slice-single}

or-first : (a b : Bool) → (a || b) ≡ false → a ≡ false
or-first true b h = cc
or-first false b h = refl

or-second : (a b : Bool) → (a || b) ≡ false → b ≡ false
or-second true b h = cc
or-second false b h = h

or-either : (a b : Bool) → (a || b) ≡ true → (a ≡ true) ⊎ (b ≡ true)
or-either true b h = inl refl
or-either false b h = inr h

same-number : (m n : ℕ) → nat_eq m n ≡ true → m ≡ n
same-number m n h = grind (arith, nat_tests)

other-number : (m n : ℕ) → m ≢ n → nat_eq m n ≡ false
other-number m n h = grind (arith, nat_tests)

module _ (u v : ℕ) (differ : u ≢ v) (new : List Visit) where
  abbrev edit : Visit → List Visit
  edit = with_behind u v new

  leaves : Leaves (u ∷ v ∷ []) edit
  leaves (Reload depot) h = refl
  leaves (Client place) h =
      ap₂ (λ (a b : Bool). cond a [] (cond b (Client place ∷ new) (Client place ∷ [])))
      (or-first (nat_eq place u) (nat_eq place v || false) h) (or-first (nat_eq place v) false (or-second (nat_eq place u) (nat_eq place v || false) h))

  gone : flat_map edit (Client u ∷ []) ≡ []
  gone = append-nil (edit (Client u)) ∙ ap (λ (b : Bool). cond b [] (cond (is_visit_of v (Client u)) (Client u ∷ new) (Client u ∷ []))) (itself u)

  put : flat_map edit (Client v ∷ []) ≡ Client v ∷ new
  put =
      append-nil (edit (Client v))
      ∙ ap₂ (λ (a b : Bool). cond a [] (cond b (Client v ∷ new) (Client v ∷ []))) (other-number v u (λ e. differ (sym e))) (itself v)

  module _ (routes : Routes) (once : Once routes) (a k : ℕ) (at_u : StandsAt routes u a k) where
    abbrev A : List Visit
    A = list_at routes a

    here : slice_range A k (k + 1) ≡ Client u ∷ []
    here = slice-single A k (Client u) at_u

    room : k + 1 ≤ length A
    room = let e : k < length A = slice_get_within A k (Client u) at_u in omega arith

    out : flat_map edit (slice_range A k (k + 1)) ≡ []
    out = ap (flat_map edit) here ∙ gone

    module _ (b l : ℕ) (at_v : StandsAt routes v b l) where
      abbrev B : List Visit
      B = list_at routes b

      there : slice_range B l (l + 1) ≡ Client v ∷ []
      there = slice-single B l (Client v) at_v

      room_v : l + 1 ≤ length B
      room_v = let e : l < length B = slice_get_within B l (Client v) at_v in omega arith

      in-place : flat_map edit (slice_range B l (l + 1)) ≡ Client v ∷ new
      in-place = ap (flat_map edit) there ∙ put

      touched : (c : ℕ) → is_in (u ∷ v ∷ []) c ≡ true → (has_client c (slice_range A k (k + 1)) ≡ true) ⊎ (has_client c (slice_range B l (l + 1)) ≡ true)
      touched c h = by (or-either (nat_eq c u) (nat_eq c v || false) h)
        where
          has : (visits : List Visit) (d : ℕ) → visits ≡ Client d ∷ [] → c ≡ d → has_client c visits ≡ true
          has visits d is same = ap₂ has_client same is ∙ ap (λ (x : Bool). x || false) (itself d)

          by : ((nat_eq c u ≡ true) ⊎ ((nat_eq c v || false) ≡ true)) → (has_client c (slice_range A k (k + 1)) ≡ true) ⊎ (has_client c (slice_range B l (l + 1)) ≡ true)
          by (inl e) = inl (has (slice_range A k (k + 1)) u here (same-number c u e))
          by (inr e) = by-v (or-either (nat_eq c v) false e)
            where
              by-v : ((nat_eq c v ≡ true) ⊎ (false ≡ true)) → (has_client c (slice_range A k (k + 1)) ≡ true) ⊎ (has_client c (slice_range B l (l + 1)) ≡ true)
              by-v (inl e) = inr (has (slice_range B l (l + 1)) v there (same-number c v e))
              by-v (inr e) = cc

      turned : (c : ℕ) → is_in (u ∷ v ∷ []) c ≡ true → (has_client c (slice_range B l (l + 1)) ≡ true) ⊎ (has_client c (slice_range A k (k + 1)) ≡ true)
      turned c h = by (touched c h)
        where
          by : ((has_client c (slice_range A k (k + 1)) ≡ true) ⊎ (has_client c (slice_range B l (l + 1)) ≡ true)) → (has_client c (slice_range B l (l + 1)) ≡ true) ⊎ (has_client c (slice_range A k (k + 1)) ≡ true)
          by (inl e) = inr e
          by (inr e) = inl e

      -- up to V, and what is new behind it
      with-v : (rest : List Visit) → slice_range B 0 l ++ ((Client v ∷ new) ++ rest) ≡ slice_range B 0 (l + 1) ++ (new ++ rest)
      with-v rest =
          sym (append_assoc (slice_range B 0 l) (Client v ∷ []) (new ++ rest))
          ∙ ap (λ (xs : List Visit). xs ++ (new ++ rest)) (sym (slice-more B 0 l (Client v) (omega arith) at_v))

      -- to another list
      pub put-across : b ≢ a → substituted (with_behind u v new) routes
          ≡ set (set routes a (slice_range (list_at routes a) 0 k ++ slice_range (list_at routes a) (k + 1) (length (list_at routes a))))
          b (slice_range (list_at routes b) 0 (l + 1) ++ (new ++ slice_range (list_at routes b) (l + 1) (length (list_at routes b))))
      put-across apart =
          run-of-each edit (u ∷ v ∷ []) leaves routes once a b k (k + 1) l (l + 1) (vehicle-there routes u a k at_u) (vehicle-there routes v b l at_v) apart
          (omega arith) room (omega arith) room_v touched [] (Client v ∷ new) out in-place
          ∙ ap (λ (ys : List Visit). set (set routes a (slice_range A 0 k ++ slice_range A (k + 1) (length A))) b ys) (with-v (slice_range B (l + 1) (length B)))

    -- within its list, to an earlier place and to a later one
    module _ (l : ℕ) (at_v : StandsAt routes v a l) where
      pub put-earlier : l < k → substituted (with_behind u v new) routes
          ≡ set routes a (slice_range (list_at routes a) 0 (l + 1) ++ (new ++ (slice_range (list_at routes a) (l + 1) k ++ slice_range (list_at routes a) (k + 1) (length (list_at routes a)))))
      put-earlier before =
          two-runs edit (u ∷ v ∷ []) leaves routes once a l (l + 1) k (k + 1) (vehicle-there routes u a k at_u) (omega arith) (omega arith) (omega arith) room
          (turned a l at_v) (Client v ∷ new) [] (in-place a l at_v) out
          ∙ ap (set routes a) (with-v a l at_v (slice_range A (l + 1) k ++ slice_range A (k + 1) (length A)))

      pub put-later : k < l → substituted (with_behind u v new) routes
          ≡ set routes a (slice_range (list_at routes a) 0 k ++ (slice_range (list_at routes a) (k + 1) (l + 1) ++ (new ++ slice_range (list_at routes a) (l + 1) (length (list_at routes a)))))
      put-later behind =
          two-runs edit (u ∷ v ∷ []) leaves routes once a k (k + 1) l (l + 1) (vehicle-there routes u a k at_u) (omega arith) (omega arith) (omega arith) (room_v a l at_v)
          (touched a l at_v) [] (Client v ∷ new) out (in-place a l at_v)
          ∙ ap (λ (ys : List Visit). set routes a (slice_range A 0 k ++ ys)) later
        where
          later : slice_range A (k + 1) l ++ ((Client v ∷ new) ++ slice_range A (l + 1) (length A)) ≡ slice_range A (k + 1) (l + 1) ++ (new ++ slice_range A (l + 1) (length A))
          later =
              sym (append_assoc (slice_range A (k + 1) l) (Client v ∷ []) (new ++ slice_range A (l + 1) (length A)))
              ∙ ap (λ (xs : List Visit). xs ++ (new ++ slice_range A (l + 1) (length A))) (sym (slice-more A (k + 1) l (Client v) (omega arith) at_v))
