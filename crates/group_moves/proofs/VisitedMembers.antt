-- Which members of groups are visited, by their positions.
use Rattle.std.proofs.Common.{◌≡◌, ℕ, ◌+◌, ◌-◌, Bool, true, false, ◌&&◌, cond, not, List, [], ◌∷◌, refl, sym, ◌∙◌, ap, ap₂, arith, Option, Some, None}
use Rattle.std.specs.Prelude.{◌==◌, count_by, is_none}
use Rattle.std.specs.Option.{is_some}
use Rattle.std.proofs.lemmas.Bool.Decides.{nat_tests}
use Rattle.std.proofs.lemmas.List.Sums.{sum_by-cons}
use Rattle.routing_model.specs.Routes.{is_visited}
use Rattle.search_model.specs.Edits.{position_of}
use Rattle.search_model.proofs.ClientPlaces.{stands-at, visited-at}
use Rattle.search_model.proofs.PutMoves.{position-none}
use Rattle.search_model.proofs.RunMoves.{lawful-once}
use Rattle.move_core.specs.Searches.{IsSound, SearchState}
use Rattle.group_moves.specs.inside.Groups.{are_unvisited}

module _ (s : SearchState) (sound : IsSound s) where
  -- a client with a position is visited
  pub position-some : (c a place : ℕ) → position_of s.routes c ≡ Some (a, place) → is_visited s.routes c ≡ true
  position-some c a place at =
      let there = stands-at s.routes c a place at in
      visited-at s.routes c a (place - 1) (lawful-once s.problem s.routes sound.lawful c) there.1

  -- by whether it has one
  pub is-visited : (c : ℕ) (o : Option (ℕ × ℕ)) → position_of s.routes c ≡ o → is_some o ≡ true → is_visited s.routes c ≡ true
  is-visited c None e h = cc
  is-visited c (Some at) e h = position-some c at.0 at.1 e

  pub is-absent : (c : ℕ) (o : Option (ℕ × ℕ)) → position_of s.routes c ≡ o → is_some o ≡ false → is_visited s.routes c ≡ false
  is-absent c None e h = position-none s.routes c e
  is-absent c (Some at) e h = cc

  absent-so : (c : ℕ) (o : Option (ℕ × ℕ)) → position_of s.routes c ≡ o → is_none o ≡ not (is_visited s.routes c)
  absent-so c None e = ap not (sym (position-none s.routes c e))
  absent-so c (Some at) e = ap not (sym (position-some c at.0 at.1 e))

  step : (b : Bool) (n : ℕ) → (not b && (n == 0)) ≡ ((cond b 1 0 + n) == 0)
  step true n = grind (arith, nat_tests)
  step false n = grind (arith, nat_tests)

  -- none is visited where none is counted
  pub none-counted : (members : List ℕ) → are_unvisited s.routes members ≡ (count_by (is_visited s.routes) members == 0)
  none-counted [] = refl
  none-counted (c ∷ members) =
      ap₂ (λ (a b : Bool). a && b) (absent-so c (position_of s.routes c) refl) (none-counted members)
      ∙ step (is_visited s.routes c) (count_by (is_visited s.routes) members)
      ∙ ap (λ (n : ℕ). n == 0) (sym (sum_by-cons (λ d. cond (is_visited s.routes d) 1 0) c members))
