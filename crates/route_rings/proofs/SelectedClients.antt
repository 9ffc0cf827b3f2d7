-- The clients of selected routes, one route after the other.
use Rattle.std.proofs.Common.{◌≡◌, ℕ, ◌+◌, ◌%◌, ◌<◌, Bool, false, List, [], ◌∷◌, ◌++◌, length, get_or, refl, sym, ◌∙◌, ap, arith}
use Rattle.std.specs.Prelude.{slice_index}
use Rattle.std.proofs.Math.Nat.{mod-add-mod}
use Rattle.std.proofs.lemmas.Grind.{flat_map-append}
use Rattle.std.proofs.lemmas.List.{append-nil}
use Rattle.std.proofs.lemmas.List.FromFn.{map-range_with_len_more}
use Rattle.routing_model.specs.Routes.{Routes, clients_of, clients_of_vehicles, list_at}
use Rattle.genetic_model.specs.RouteSelection.{around}
use Rattle.route_rings.specs.Marks.{AreMarks}

around-more : (xs : List ℕ) (start k : ℕ) → around xs start (k + 1) ≡ around xs start k ++ slice_index xs ((start + k) % length xs) ∷ []
around-more xs start k = map-range_with_len_more (λ i. slice_index xs (i % length xs)) start k (start + k) refl

-- one route more
pub chosen-more : (routes : Routes) (order : List ℕ) (start k v : ℕ) → v ≡ slice_index order ((start + k) % length order) →
    clients_of_vehicles routes (around order start k) ++ clients_of (list_at routes v) ≡ clients_of_vehicles routes (around order start (k + 1))
chosen-more routes order start k v is =
    ap (λ (u : ℕ). clients_of_vehicles routes (around order start k) ++ clients_of (list_at routes u)) is
    ∙ (ap (λ (cs : List ℕ). clients_of_vehicles routes (around order start k) ++ cs) (sym (append-nil (clients_of (list_at routes next))))
    ∙ (sym (flat_map-append (λ u. clients_of (list_at routes u)) (around order start k) (next ∷ [])) ∙ ap (clients_of_vehicles routes) (sym (around-more order start k))))
  where
    next : ℕ
    next = slice_index order ((start + k) % length order)

-- no mark marks no client
pub no-marks : (marks : List Bool) → ((c : ℕ) → c < length marks → get_or marks c false ≡ false) → AreMarks marks []
no-marks marks none = none

-- the place behind a place of a ring
pub place-behind : (start k n at next : ℕ) → at ≡ (start + k) % n → next ≡ (at + 1) % n → next ≡ (start + (k + 1)) % n
place-behind start k n at next is behind = behind ∙ (ap (λ (m : ℕ). (m + 1) % n) is ∙ (mod-add-mod (start + k) n 1 ∙ ap (λ (m : ℕ). m % n) (sum start k)))
  where
    sum : (a b : ℕ) → a + b + 1 ≡ a + (b + 1)
    sum a b = omega arith
