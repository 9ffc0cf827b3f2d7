-- What positions and marks tell of pieces.
use Rattle.std.proofs.Common.{◌≡◌, ℕ, ◌+◌, ◌-◌, ◌<◌, ◌≤◌, Bool, true, false, ◌&&◌, length, refl, sym, ◌∙◌, ap, ap₂, subst, arith, Some, None, slice_get, slice_range}
use Rattle.std.specs.Prelude.{nat_le}
use Rattle.std.specs.List.{list_all}
use Rattle.std.proofs.lemmas.Bool.Decides.{nat_tests}
use Rattle.problem_data.specs.declared.visit.Visit.TheVariants.{Client}
use Rattle.problem_data.specs.Places.{vehicle_count}
use Rattle.routing_model.specs.Routes.{is_client, list_at}
use Rattle.search_model.specs.Edits.{piece, position_of}
use Rattle.search_model.proofs.ClientPlaces.{StandsAt, stands-at}
use Rattle.search_model.proofs.ExchangedPieces.{piece-none, piece-unvisited}
use Rattle.search_model.proofs.Pieces.{is_piece}
use Rattle.search_model.proofs.PutMoves.{position-none}
use Rattle.search_model.proofs.RunMoves.{lawful-once}
use Rattle.move_core.specs.Searches.{IsSound, SearchState}
use Rattle.exchange_screens.specs.declared.piece.Piece.{Piece}
use Rattle.exchange_screens.specs.inside.Pieces.{IsPieceFrom}

module _ (s : SearchState) (sound : IsSound s) (u n : ℕ) where
  -- a client that isn't visited has no piece
  pub no-position : position_of s.routes u ≡ None → piece s.routes n u ≡ None
  no-position none = piece-unvisited s.routes n u (position-none s.routes u none)

  module _ (a place : ℕ) (at : position_of s.routes u ≡ Some (a, place)) where
    pub stands : StandsAt s.routes u a (place - 1)
    stands = (stands-at s.routes u a place at).1

    pub no-run : is_piece (list_at s.routes a) (place - 1) n ≡ false → piece s.routes n u ≡ None
    no-run none = piece-none s.routes u a (place - 1) n (lawful-once s.problem s.routes sound.lawful) stands none

    -- the list ends before it
    pub too-long : length (list_at s.routes a) < place - 1 + n → piece s.routes n u ≡ None
    too-long short = no-run (ap (λ (b : Bool). b && list_all is_client (slice_range (list_at s.routes a) (place - 1) (place - 1 + n))) (over (place - 1 + n) (length (list_at s.routes a)) short))
      where
        over : (m n : ℕ) → n < m → nat_le m n ≡ false
        over m n h = grind (arith, nat_tests)

    -- a reload is among the visits
    pub has-reload : list_all is_client (slice_range (list_at s.routes a) (place - 1) (place - 1 + n)) ≡ false → piece s.routes n u ≡ None
    has-reload none = no-run (ap (λ (b : Bool). nat_le (place - 1 + n) (length (list_at s.routes a)) && b) none ∙ and-false (nat_le (place - 1 + n) (length (list_at s.routes a))))
      where
        and-false : (b : Bool) → (b && false) ≡ false
        and-false true = refl
        and-false false = refl

    -- the piece
    pub found : (piece : Piece) → a < vehicle_count s.problem → piece.vehicle ≡ a → piece.first ≡ place - 1 → piece.end ≡ place - 1 + n → place - 1 + n ≤ length (list_at s.routes a) →
        list_all is_client (slice_range (list_at s.routes a) (place - 1) (place - 1 + n)) ≡ true → IsPieceFrom s u n piece
    found piece in_range is_vehicle is_first is_end inside clients = record {
      in_range = omega arith;
      stands = subst (λ (v : ℕ). slice_get (list_at s.routes v) piece.first ≡ Some (Client u)) (sym is_vehicle) (ap (slice_get (list_at s.routes a)) is_first ∙ stands);
      long = omega arith;
      within = subst (λ (v : ℕ). piece.end ≤ length (list_at s.routes v)) (sym is_vehicle) (omega arith);
      clients = ap (λ (v : ℕ). list_all is_client (slice_range (list_at s.routes v) piece.first piece.end)) is_vehicle
          ∙ (ap₂ (λ (i j : ℕ). list_all is_client (slice_range (list_at s.routes a) i j)) is_first is_end ∙ clients);
    }

fits : (m n : ℕ) → m ≤ n → nat_le m n ≡ true
fits m n h = grind (arith, nat_tests)

-- a piece, as the laws of moves have it
pub piece-there : (s : SearchState) (u n : ℕ) (piece : Piece) → IsPieceFrom s u n piece → is_piece (list_at s.routes piece.vehicle) piece.first n ≡ true
piece-there s u n piece is =
    let long = is.long in
    let within = is.within in
    ap₂ (λ (a b : Bool). a && b) (fits (piece.first + n) (length (list_at s.routes piece.vehicle)) (omega arith))
    (ap (λ (e : ℕ). list_all is_client (slice_range (list_at s.routes piece.vehicle) piece.first e)) (sym is.long) ∙ is.clients)
