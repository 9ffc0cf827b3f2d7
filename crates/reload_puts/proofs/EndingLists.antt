-- The last visits of a list behind a new reload.
use Rattle.std.proofs.Common.{◌≡◌, ℕ, ◌+◌, ◌<◌, ◌≤◌, ◌⊎◌, inl, inr, cond, List, [], ◌∷◌, ◌++◌, length, get_or, refl, sym, ◌∙◌, ap, arith, Option, None, Some, slice_get, slice_range}
use Rattle.std.proofs.lemmas.Option.{slice_get-get_or, slice_get_past, slice_get_within}
use Rattle.problem_data.specs.declared.visit.Visit.{Visit}
use Rattle.problem_data.specs.declared.visit.Visit.TheVariants.{Client, Reload}
use Rattle.route_cache.proofs.Slices.{slice-before, slice-none}
use Rattle.reload_puts.specs.declared.ending.Ending.{Ending}
use Rattle.reload_puts.specs.inside.Endings.{ending_by}
use Rattle.reload_puts.proofs.TidyBehindClients.{with_reload}

-- the new reload, where it stays, and the last visits
abbrev pub ended : List Visit → ℕ → Ending → List Visit
ended visits depot ending = cond ending.stays (Reload depot ∷ []) [] ++ slice_range visits ending.right (length visits)

here_or_past : (k n : ℕ) → (k < n) ⊎ (n ≤ k)
here_or_past k n = grind arith

module _ (visits : List Visit) (at : ℕ) (inside : at ≤ length visits) where
  abbrev ending : Ending
  ending = ending_by (slice_get visits at) at

  pub ending-list : (depot : ℕ) → with_reload depot (slice_range visits at (length visits)) ≡ ended visits depot (ending_by (slice_get visits at) at)
  ending-list depot = by (here_or_past at (length visits))
    where
      ended-by : Option Visit → List Visit
      ended-by o = ended visits depot (ending_by o at)

      by-visit : (x : Visit) → slice_range visits at (length visits) ≡ x ∷ slice_range visits (at + 1) (length visits) → slice_get visits at ≡ Some x →
          with_reload depot (slice_range visits at (length visits)) ≡ ended visits depot (ending_by (slice_get visits at) at)
      by-visit (Client place) rest is = ap (with_reload depot) rest ∙ ap (λ (xs : List Visit). Reload depot ∷ xs) (sym rest) ∙ ap ended-by (sym is)
      by-visit (Reload other) rest is = ap (with_reload depot) rest ∙ ap ended-by (sym is)

      by : ((at < length visits) ⊎ (length visits ≤ at)) → with_reload depot (slice_range visits at (length visits)) ≡ ended visits depot (ending_by (slice_get visits at) at)
      by (inl here) = by-visit (get_or visits at (Client 0)) (slice-before visits at (length visits) (Client 0) here here) (slice_get-get_or visits at (Client 0) here)
      by (inr past) =
          let e : at ≡ length visits = omega arith in
          let none : slice_range visits at (length visits) ≡ [] = ap (λ (n : ℕ). slice_range visits n (length visits)) e ∙ slice-none visits (length visits) in
          ap (with_reload depot) none ∙ sym none ∙ ap ended-by (sym (slice_get_past visits at past))

  by-none : (o : Option Visit) → slice_get visits at ≡ o → ((ending_by o at).right ≤ length visits)
  by-none None is = inside
  by-none (Some (Client place)) is = inside
  by-none (Some (Reload depot)) is = let here : at < length visits = slice_get_within visits at (Reload depot) is in omega arith

  pub ending-inside : (ending_by (slice_get visits at) at).right ≤ length visits
  ending-inside = by-none (slice_get visits at) refl

pub ending-behind : (o : Option Visit) (at : ℕ) → at ≤ (ending_by o at).right
ending-behind None at = omega arith
ending-behind (Some (Client place)) at = omega arith
ending-behind (Some (Reload depot)) at = omega arith
