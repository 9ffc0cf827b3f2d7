-- What tidying leaves of a tidy list from which a visit was taken out, before or behind another client, whatever comes behind that client.
use Rattle.std.proofs.Common.{◌≡◌, ℕ, ◌+◌, ◌<◌, ◌≤◌, Bool, true, false, cond, List, [], ◌∷◌, ◌++◌, length, sym, ◌∙◌, ap, arith, append_assoc, Some, slice_get, slice_range}
use Rattle.std.proofs.lemmas.List.{append_cancel_left, append_cancel_right}
use Rattle.std.proofs.lemmas.Option.{slice_get_within}
use Rattle.problem_data.specs.declared.visit.Visit.{Visit}
use Rattle.problem_data.specs.declared.visit.Visit.TheVariants.{Client}
use Rattle.routing_model.specs.Tidy.{is_tidy, tidied, tidied_behind}
use Rattle.routing_model.proofs.Tidying.{tidied-tidy}
use Rattle.routing_model.proofs.TidyJoints.{but_last, ends-added, ends_behind, ends_with_reload, reload-added, tidied-alone, tidy-last}
use Rattle.search_model.proofs.Pieces.{slice-join, slice-more}
use Rattle.search_model.proofs.RunMoves.{tidied-without}
use Rattle.route_cache.proofs.Gaps.{gap_joint, joined-gap, left-near, left_by, right-near, right_by}
use Rattle.route_cache.proofs.Slices.{slice-all}
use Rattle.reload_puts.proofs.TidyBehindClients.{tidied-cut}

module _ (visits : List Visit) (tidy : is_tidy visits ≡ true) where
  -- the last visits stay behind a client
  pub last-stays : (k : ℕ) → k ≤ length visits → tidied_behind true (slice_range visits k (length visits)) ≡ slice_range visits k (length visits)
  last-stays k inside =
      tidied-tidy true (slice_range visits k (length visits))
      (tidy-last false (slice_range visits 0 k) (slice_range visits k (length visits))
      (ap is_tidy (sym (slice-join visits 0 k (length visits) (omega arith) inside) ∙ slice-all visits (length visits) (omega arith)) ∙ tidy))

  -- the visit at k is taken out
  taken : (k : ℕ) → k + 1 ≤ length visits → tidied (slice_range visits 0 k ++ slice_range visits (k + 1) (length visits))
      ≡ slice_range visits 0 (left_by (gap_joint visits k (k + 1)) k) ++ slice_range visits (right_by (gap_joint visits k (k + 1)) (k + 1)) (length visits)
  taken k inside = tidied-without visits tidy k (k + 1) (omega arith) inside ∙ joined-gap visits k (k + 1) (omega arith) inside

  module _ (l v : ℕ) (at_v : slice_get visits l ≡ Some (Client v)) where
    abbrev first : List Visit
    first = slice_range visits 0 (l + 1)

    pub room : l + 1 ≤ length visits
    room = let e : l < length visits = slice_get_within visits l (Client v) at_v in omega arith

    first-stays : tidied first ≡ first
    first-stays =
        tidied-alone false first (slice_range visits (l + 1) (length visits))
        (ap is_tidy (sym (slice-join visits 0 (l + 1) (length visits) (omega arith) room) ∙ slice-all visits (length visits) (omega arith)) ∙ tidy)
        ∙ ap (λ (b : Bool). cond b (but_last first) first)
        (ap ends_with_reload (slice-more visits 0 l (Client v) (omega arith) at_v) ∙ reload-added (slice_range visits 0 l) (Client v))

    -- the first visits up to V stay, whatever comes
    pub first-cut : (rest : List Visit) → tidied (slice_range visits 0 (l + 1) ++ rest) ≡ slice_range visits 0 (l + 1) ++ tidied_behind true rest
    first-cut rest =
        tidied-cut false first rest (ap (ends_behind false) (slice-more visits 0 l (Client v) (omega arith) at_v) ∙ ends-added false (slice_range visits 0 l) (Client v))
        ∙ ap (λ (xs : List Visit). xs ++ tidied_behind true rest) first-stays

    -- the visit at k is taken out further before, whatever comes behind V
    pub taken-before : (k : ℕ) → k < l → (rest : List Visit) → tidied (slice_range visits 0 k ++ (slice_range visits (k + 1) (l + 1) ++ rest))
        ≡ slice_range visits 0 (left_by (gap_joint visits k (k + 1)) k) ++ (slice_range visits (right_by (gap_joint visits k (k + 1)) (k + 1)) (l + 1) ++ tidied_behind true rest)
    taken-before k order rest = cut rest ∙ ap (λ (xs : List Visit). xs ++ tidied_behind true rest) front ∙ append_assoc (slice_range visits 0 left) (slice_range visits right (l + 1)) (tidied_behind true rest)
      where
        left : ℕ
        left = left_by (gap_joint visits k (k + 1)) k

        right : ℕ
        right = right_by (gap_joint visits k (k + 1)) (k + 1)

        parts : List Visit
        parts = slice_range visits 0 k ++ slice_range visits (k + 1) (l + 1)

        ends : ends_behind false parts ≡ true
        ends =
            ap (λ (xs : List Visit). ends_behind false (slice_range visits 0 k ++ xs)) (slice-more visits (k + 1) l (Client v) (omega arith) at_v)
            ∙ ap (ends_behind false) (sym (append_assoc (slice_range visits 0 k) (slice_range visits (k + 1) l) (Client v ∷ [])))
            ∙ ends-added false (slice_range visits 0 k ++ slice_range visits (k + 1) l) (Client v)

        cut : (ys : List Visit) → tidied (slice_range visits 0 k ++ (slice_range visits (k + 1) (l + 1) ++ ys)) ≡ tidied parts ++ tidied_behind true ys
        cut ys = ap tidied (sym (append_assoc (slice_range visits 0 k) (slice_range visits (k + 1) (l + 1)) ys)) ∙ tidied-cut false parts ys ends

        inside : k + 1 ≤ length visits
        inside = let e = room in omega arith

        near : right ≤ l + 1
        near = let e : right ≤ k + 1 + 1 = right-near (gap_joint visits k (k + 1)) (k + 1) in omega arith

        front : tidied parts ≡ slice_range visits 0 left ++ slice_range visits right (l + 1)
        front =
            append_cancel_right (tidied parts) (slice_range visits 0 left ++ slice_range visits right (l + 1)) (slice_range visits (l + 1) (length visits))
            (ap (λ (xs : List Visit). tidied parts ++ xs) (sym (last-stays (l + 1) room))
            ∙ sym (cut (slice_range visits (l + 1) (length visits)))
            ∙ ap (λ (xs : List Visit). tidied (slice_range visits 0 k ++ xs)) (sym (slice-join visits (k + 1) (l + 1) (length visits) (omega arith) room))
            ∙ taken k inside
            ∙ ap (λ (xs : List Visit). slice_range visits 0 left ++ xs) (slice-join visits right (l + 1) (length visits) near room)
            ∙ sym (append_assoc (slice_range visits 0 left) (slice_range visits right (l + 1)) (slice_range visits (l + 1) (length visits))))

    -- it is taken out further behind
    pub taken-behind : (k : ℕ) → l + 1 < k → k + 1 ≤ length visits → tidied_behind true (slice_range visits (l + 1) k ++ slice_range visits (k + 1) (length visits))
        ≡ slice_range visits (l + 1) (left_by (gap_joint visits k (k + 1)) k) ++ slice_range visits (right_by (gap_joint visits k (k + 1)) (k + 1)) (length visits)
    taken-behind k order inside =
        append_cancel_left first (tidied_behind true (slice_range visits (l + 1) k ++ slice_range visits (k + 1) (length visits))) (slice_range visits (l + 1) left ++ slice_range visits right (length visits))
        (sym (first-cut (slice_range visits (l + 1) k ++ slice_range visits (k + 1) (length visits)))
        ∙ ap tidied (sym (append_assoc first (slice_range visits (l + 1) k) (slice_range visits (k + 1) (length visits))))
        ∙ ap (λ (xs : List Visit). tidied (xs ++ slice_range visits (k + 1) (length visits))) (sym (slice-join visits 0 (l + 1) k (omega arith) (omega arith)))
        ∙ taken k inside
        ∙ ap (λ (xs : List Visit). xs ++ slice_range visits right (length visits)) (slice-join visits 0 (l + 1) left (omega arith) near)
        ∙ append_assoc first (slice_range visits (l + 1) left) (slice_range visits right (length visits)))
      where
        left : ℕ
        left = left_by (gap_joint visits k (k + 1)) k

        right : ℕ
        right = right_by (gap_joint visits k (k + 1)) (k + 1)

        near : l + 1 ≤ left
        near = let e : k ≤ left + 1 = left-near (gap_joint visits k (k + 1)) k in omega arith
