-- Marks tell where runs of clients are, and how far it is over them.
use Rattle.std.proofs.Common.{◌≡◌, ℕ, ◌+◌, ◌<◌, ◌≤◌, Bool, true, false, List, [], ◌∷◌, length, get_or, refl, sym, ◌∙◌, ap, arith, slice_range, Some, slice_get}
use Rattle.std.specs.List.{list_all}
use Rattle.std.proofs.lemmas.Option.{get_or_from_slice_get}
use Rattle.problem_data.specs.declared.problem.Problem.{Problem}
use Rattle.problem_data.specs.declared.problem.VehicleType.{VehicleType}
use Rattle.problem_data.specs.declared.visit.Visit.{Visit}
use Rattle.problem_data.specs.declared.visit.Visit.TheVariants.{Client, Reload}
use Rattle.problem_data.specs.Visits.{is_client, place_of}
use Rattle.routing_model.proofs.Paths.{path, path_end, through}
use Rattle.route_cache.specs.declared.mark.Mark.{Mark}
use Rattle.route_cache.specs.Marks.{AreMarks, place_along, reloads_in}
use Rattle.route_cache.proofs.Alongs.{along-visit}
use Rattle.route_cache.proofs.Counting.{reloads-cons}
use Rattle.route_cache.proofs.MarkPaths.{between-reloads, end-between}
use Rattle.route_cache.proofs.Slices.{slice-before}

-- visits without a reload are clients
pub clients-no_reload : (visits : List Visit) → reloads_in visits ≡ 0 → list_all is_client visits ≡ true
clients-no_reload [] h = refl
clients-no_reload (Client place ∷ rest) h =
    let e = reloads-cons (Client place) rest in
    clients-no_reload rest (omega (arith, e, h))
clients-no_reload (Reload depot ∷ rest) h =
    let e = reloads-cons (Reload depot) rest in
    absurd (omega (arith, e, h))

pub no_reload-clients : (visits : List Visit) → list_all is_client visits ≡ true → reloads_in visits ≡ 0
no_reload-clients [] h = refl
no_reload-clients (Client place ∷ rest) h = let e = reloads-cons (Client place) rest in let later = no_reload-clients rest h in omega (arith, e, later)
no_reload-clients (Reload depot ∷ rest) h = cc

module _ (p : Problem) (t : VehicleType) (visits : List Visit) where
  -- equal numbers of reloads before two positions, or others
  module _ (marks : List Mark) (are : AreMarks p t visits marks) (none : Mark) (i j : ℕ) (order : i ≤ j) (inside : j ≤ length visits) where
    pub piece-here : (get_or marks j none).reloads ≡ (get_or marks i none).reloads → list_all is_client (slice_range visits i j) ≡ true
    piece-here same =
        let e = between-reloads p t visits marks are none i j order inside in
        clients-no_reload (slice_range visits i j) (omega (arith, e, same))

    pub no-piece-here : ((get_or marks j none).reloads ≡ (get_or marks i none).reloads → ⊥) → list_all is_client (slice_range visits i j) ≡ false
    no-piece-here other = by (list_all is_client (slice_range visits i j)) refl
      where
        by : (b : Bool) → list_all is_client (slice_range visits i j) ≡ b → b ≡ false
        by true e =
            let sum = between-reloads p t visits marks are none i j order inside in
            let no = no_reload-clients (slice_range visits i j) e in
            absurd (other (omega (arith, sum, no)))
        by false e = refl

  -- a run from a client on: the leg to it, and the way from it on; from any place, by any legs
  module _ (leg : ℕ → ℕ → ℕ) (k m u : ℕ) (at : slice_get visits k ≡ Some (Client u)) (order : k < m) (inside : m ≤ length visits) where
    first-place : place_along t visits (k + 1) ≡ u
    first-place =
        along-visit t visits k (Client 0) (omega arith) ∙ ap place_of (get_or_from_slice_get visits k (Client u) (Client 0) at)

    pub path-run : (from : ℕ) → path leg from (slice_range visits k m) ≡ leg from u + path leg u (slice_range visits (k + 1) m)
    path-run from =
        ap (path leg from) (slice-before visits k m (Client 0) order (omega arith))
        ∙ (ap (λ (x : Visit). path leg from (x ∷ slice_range visits (k + 1) m)) (get_or_from_slice_get visits k (Client u) (Client 0) at) ∙ grouped (leg from u) (path leg u (slice_range visits (k + 1) m)))
      where
        grouped : (a b : ℕ) → a + (0 + b) ≡ a + b
        grouped a b = omega arith

    run-end : (from : ℕ) → path_end from (slice_range visits k m) ≡ place_along t visits m
    run-end from =
        ap (path_end from) (slice-before visits k m (Client 0) order (omega arith))
        ∙ (sym (ap (path_end (place_along t visits k)) (slice-before visits k m (Client 0) order (omega arith)))
        ∙ end-between p t visits k m (omega arith) inside)

    pub through-run : (from to : ℕ) → through leg from (slice_range visits k m) to ≡ leg from u + (path leg u (slice_range visits (k + 1) m) + leg (place_along t visits m) to)
    through-run from to =
        let along = path-run from in
        let last : leg (path_end from (slice_range visits k m)) to ≡ leg (place_along t visits m) to = ap (λ (n : ℕ). leg n to) (run-end from) in
        by (path leg from (slice_range visits k m)) (leg (path_end from (slice_range visits k m)) to) (leg from u) (path leg u (slice_range visits (k + 1) m)) (leg (place_along t visits m) to) along last
      where
        by : (x y a b c : ℕ) → x ≡ a + b → y ≡ c → x + y ≡ a + (b + c)
        by x y a b c e f = omega arith
