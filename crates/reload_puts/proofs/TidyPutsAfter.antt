-- What tidying leaves of lists in which a client and a reload behind it are put behind another client: the client stays, the reload goes
-- where nothing comes behind it and takes the place of a reload that would come next, and what goes where a client was taken out goes as
-- it does without them.
use Rattle.std.proofs.Common.{◌≡◌, ℕ, suc, ◌+◌, ◌<◌, ◌≤◌, ◌⊎◌, inl, inr, true, List, ◌∷◌, ◌++◌, length, get_or, refl, sym, ◌∙◌, ap, subst, arith, Option, None, Some, slice_get, slice_range}
use Rattle.std.proofs.lemmas.Option.{slice_get-get_or}
use Rattle.problem_data.specs.declared.visit.Visit.{Visit}
use Rattle.problem_data.specs.declared.visit.Visit.TheVariants.{Client, Reload}
use Rattle.routing_model.specs.Tidy.{is_tidy, tidied}
use Rattle.search_model.proofs.Pieces.{slice-join, slice-single}
use Rattle.trips.specs.Joints.{joint_of}
use Rattle.route_cache.specs.Gaps.{visit_before}
use Rattle.route_cache.proofs.Gaps.{gap_joint, left-near, left_by, right_by}
use Rattle.reload_puts.specs.inside.Endings.{ending_by}
use Rattle.reload_puts.proofs.EndingLists.{ended, ending-list}
use Rattle.reload_puts.proofs.TidyBehindClients.{tidied-reload, with_reload}
use Rattle.reload_puts.proofs.TidyWithout.{first-cut, last-stays, room, taken-before, taken-behind}

-- a client in front of a gap stays
left-stays : (place : ℕ) (right : Option Visit) (k : ℕ) → left_by (joint_of (Some (Client place)) right) k ≡ k
left-stays place None k = refl
left-stays place (Some (Client other)) k = refl
left-stays place (Some (Reload depot)) k = refl

next_or_later : (k n : ℕ) → k < n → (n ≡ k + 1) ⊎ (k + 1 < n)
next_or_later k n h = grind arith

module _ (visits : List Visit) (tidy : is_tidy visits ≡ true) (l v : ℕ) (at_v : slice_get visits l ≡ Some (Client v)) (depot u : ℕ) where
  abbrev first : List Visit
  first = slice_range visits 0 (l + 1)

  within : l + 1 ≤ length visits
  within = room visits tidy l v at_v

  -- before any last part
  pub after-last : (k : ℕ) → k ≤ length visits →
      tidied (slice_range visits 0 (l + 1) ++ (Client u ∷ Reload depot ∷ slice_range visits k (length visits))) ≡ slice_range visits 0 (l + 1) ++ (Client u ∷ ended visits depot (ending_by (slice_get visits k) k))
  after-last k inside =
      first-cut visits tidy l v at_v (Client u ∷ Reload depot ∷ slice_range visits k (length visits))
      ∙ ap (λ (xs : List Visit). first ++ (Client u ∷ xs))
      (tidied-reload depot (slice_range visits k (length visits)) ∙ ap (with_reload depot) (last-stays visits tidy k inside) ∙ ending-list visits k inside depot)

  -- with one reload in between
  pub after-reload : (k other : ℕ) → k ≤ length visits → slice_get visits (l + 1) ≡ Some (Reload other) →
      tidied (slice_range visits 0 (l + 1) ++ (Client u ∷ Reload depot ∷ (slice_range visits (l + 1) (l + 1 + 1) ++ slice_range visits k (length visits))))
      ≡ slice_range visits 0 (l + 1) ++ (Client u ∷ ended visits depot (ending_by (slice_get visits k) k))
  after-reload k other inside is =
      let rest : List Visit = slice_range visits k (length visits) in
      ap (λ (xs : List Visit). tidied (first ++ (Client u ∷ Reload depot ∷ (xs ++ rest)))) (slice-single visits (l + 1) (Reload other) is)
      ∙ first-cut visits tidy l v at_v (Client u ∷ Reload depot ∷ Reload other ∷ rest)
      ∙ sym (first-cut visits tidy l v at_v (Client u ∷ Reload depot ∷ rest))
      ∙ after-last k inside

  -- the visit at k was taken out further behind, with more than a reload in between
  pub after-before : (k : ℕ) → l + 1 < k → k + 1 ≤ length visits → (ending_by (slice_get visits (l + 1)) (l + 1)).right < k →
      tidied (slice_range visits 0 (l + 1) ++ (Client u ∷ Reload depot ∷ (slice_range visits (l + 1) k ++ slice_range visits (k + 1) (length visits))))
      ≡ slice_range visits 0 (l + 1) ++ (Client u ∷ Reload depot ∷ (slice_range visits (ending_by (slice_get visits (l + 1)) (l + 1)).right (left_by (gap_joint visits k (k + 1)) k)
      ++ slice_range visits (right_by (gap_joint visits k (k + 1)) (k + 1)) (length visits)))
  after-before k order inside more =
      first-cut visits tidy l v at_v (Client u ∷ Reload depot ∷ (slice_range visits (l + 1) k ++ slice_range visits (k + 1) (length visits)))
      ∙ ap (λ (xs : List Visit). first ++ (Client u ∷ xs))
      (tidied-reload depot (slice_range visits (l + 1) k ++ slice_range visits (k + 1) (length visits)) ∙ ap (with_reload depot) (taken-behind visits tidy l v at_v k order inside) ∙ by (get_or visits (l + 1) (Client 0)) there)
    where
      left : ℕ
      left = left_by (gap_joint visits k (k + 1)) k

      rest : List Visit
      rest = slice_range visits (right_by (gap_joint visits k (k + 1)) (k + 1)) (length visits)

      there : slice_get visits (l + 1) ≡ Some (get_or visits (l + 1) (Client 0))
      there = slice_get-get_or visits (l + 1) (Client 0) (omega arith)

      near : k ≤ left + 1
      near = left-near (gap_joint visits k (k + 1)) k

      begins : (x : Visit) → slice_get visits (l + 1) ≡ Some x → l + 1 < left → slice_range visits (l + 1) left ≡ x ∷ slice_range visits (l + 1 + 1) left
      begins x is ahead =
          slice-join visits (l + 1) (l + 1 + 1) left (omega arith) (omega arith)
          ∙ ap (λ (xs : List Visit). xs ++ slice_range visits (l + 1 + 1) left) (slice-single visits (l + 1) x is)

      by-end : Option Visit → List Visit
      by-end o = Reload depot ∷ (slice_range visits (ending_by o (l + 1)).right left ++ rest)

      client-ahead : (place : ℕ) → slice_get visits (l + 1) ≡ Some (Client place) → l + 1 < left
      client-ahead place is = at (next_or_later (l + 1) k order)
        where
          at : ((k ≡ l + 1 + 1) ⊎ (l + 1 + 1 < k)) → l + 1 < left
          at (inl e) =
              let behind : k ≡ suc (l + 1) = omega arith in
              let before : visit_before visits k ≡ Some (Client place) = ap (visit_before visits) behind ∙ is in
              let stays : left ≡ k = ap (λ (o : Option Visit). left_by (joint_of o (slice_get visits (k + 1))) k) before ∙ left-stays place (slice_get visits (k + 1)) k in
              omega arith
          at (inr h) = omega (arith, near)

      by : (x : Visit) → slice_get visits (l + 1) ≡ Some x → with_reload depot (slice_range visits (l + 1) left ++ rest) ≡ by-end (slice_get visits (l + 1))
      by (Client place) is =
          let e = begins (Client place) is (client-ahead place is) in
          ap (λ (xs : List Visit). with_reload depot (xs ++ rest)) e ∙ ap (λ (xs : List Visit). Reload depot ∷ (xs ++ rest)) (sym e) ∙ ap by-end (sym is)
      by (Reload other) is =
          let behind : l + 1 + 1 < k = subst (λ (o : Option Visit). (ending_by o (l + 1)).right < k) is more in
          ap (λ (xs : List Visit). with_reload depot (xs ++ rest)) (begins (Reload other) is (omega (arith, near))) ∙ ap by-end (sym is)

  -- or further before
  pub after-behind : (k : ℕ) → k < l →
      tidied (slice_range visits 0 k ++ (slice_range visits (k + 1) (l + 1) ++ (Client u ∷ Reload depot ∷ slice_range visits (l + 1) (length visits))))
      ≡ slice_range visits 0 (left_by (gap_joint visits k (k + 1)) k) ++ (slice_range visits (right_by (gap_joint visits k (k + 1)) (k + 1)) (l + 1)
      ++ (Client u ∷ ended visits depot (ending_by (slice_get visits (l + 1)) (l + 1))))
  after-behind k order =
      taken-before visits tidy l v at_v k order (Client u ∷ Reload depot ∷ slice_range visits (l + 1) (length visits))
      ∙ ap (λ (xs : List Visit). slice_range visits 0 (left_by (gap_joint visits k (k + 1)) k) ++ (slice_range visits (right_by (gap_joint visits k (k + 1)) (k + 1)) (l + 1) ++ (Client u ∷ xs)))
      (tidied-reload depot (slice_range visits (l + 1) (length visits)) ∙ ap (with_reload depot) (last-stays visits tidy (l + 1) within) ∙ ending-list visits (l + 1) within depot)
