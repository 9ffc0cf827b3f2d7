-- What tidying leaves of lists in which a reload and a client behind it are put behind another client: it takes out neither, and what goes
-- where a client was taken out goes as it does without them.
use Rattle.std.proofs.Common.{◌≡◌, ℕ, ◌+◌, ◌<◌, ◌≤◌, true, List, [], ◌∷◌, ◌++◌, length, ◌∙◌, ap, Some, slice_get, slice_range}
use Rattle.problem_data.specs.declared.visit.Visit.{Visit}
use Rattle.problem_data.specs.declared.visit.Visit.TheVariants.{Client, Reload}
use Rattle.routing_model.specs.Tidy.{is_tidy, tidied}
use Rattle.route_cache.proofs.Gaps.{gap_joint, left_by, right_by}
use Rattle.reload_puts.proofs.TidyWithout.{first-cut, last-stays, room, taken-before, taken-behind}

module _ (visits : List Visit) (tidy : is_tidy visits ≡ true) (l v : ℕ) (at_v : slice_get visits l ≡ Some (Client v)) (depot u : ℕ) where
  abbrev first : List Visit
  first = slice_range visits 0 (l + 1)

  abbrev run : List Visit
  run = Reload depot ∷ Client u ∷ []

  -- before any last part
  pub put-last : (k : ℕ) → k ≤ length visits →
      tidied (slice_range visits 0 (l + 1) ++ (Reload depot ∷ Client u ∷ slice_range visits k (length visits))) ≡ slice_range visits 0 (l + 1) ++ (Reload depot ∷ Client u ∷ slice_range visits k (length visits))
  put-last k inside =
      first-cut visits tidy l v at_v (run ++ slice_range visits k (length visits))
      ∙ ap (λ (xs : List Visit). first ++ (run ++ xs)) (last-stays visits tidy k inside)

  -- the visit at k was taken out further behind
  pub put-before : (k : ℕ) → l + 1 < k → k + 1 ≤ length visits →
      tidied (slice_range visits 0 (l + 1) ++ (Reload depot ∷ Client u ∷ (slice_range visits (l + 1) k ++ slice_range visits (k + 1) (length visits))))
      ≡ slice_range visits 0 (l + 1) ++ (Reload depot ∷ Client u ∷ (slice_range visits (l + 1) (left_by (gap_joint visits k (k + 1)) k) ++ slice_range visits (right_by (gap_joint visits k (k + 1)) (k + 1)) (length visits)))
  put-before k before inside =
      first-cut visits tidy l v at_v (run ++ (slice_range visits (l + 1) k ++ slice_range visits (k + 1) (length visits)))
      ∙ ap (λ (xs : List Visit). first ++ (run ++ xs)) (taken-behind visits tidy l v at_v k before inside)

  -- or further before
  pub put-behind : (k : ℕ) → k < l →
      tidied (slice_range visits 0 k ++ (slice_range visits (k + 1) (l + 1) ++ (Reload depot ∷ Client u ∷ slice_range visits (l + 1) (length visits))))
      ≡ slice_range visits 0 (left_by (gap_joint visits k (k + 1)) k) ++ (slice_range visits (right_by (gap_joint visits k (k + 1)) (k + 1)) (l + 1) ++ (Reload depot ∷ Client u ∷ slice_range visits (l + 1) (length visits)))
  put-behind k order =
      taken-before visits tidy l v at_v k order (run ++ slice_range visits (l + 1) (length visits))
      ∙ ap (λ (xs : List Visit). slice_range visits 0 (left_by (gap_joint visits k (k + 1)) k) ++ (slice_range visits (right_by (gap_joint visits k (k + 1)) (k + 1)) (l + 1) ++ (run ++ xs)))
      (last-stays visits tidy (l + 1) (room visits tidy l v at_v))
