-- What trials change, from the laws of their moves.
use Rattle.std.proofs.Common.{◌≡◌, ◌≢◌, ℕ, suc, ◌<◌, ◌≤◌, List, [], ◌∷◌, ◌++◌, length, ap, subst, arith, slice_range}
use Rattle.std.specs.Prelude.{All}
use Rattle.std.proofs.lemmas.List.{append-nil}
use Rattle.problem_data.specs.declared.visit.Visit.{Visit}
use Rattle.problem_data.specs.Places.{vehicle_count}
use Rattle.routing_model.specs.Routes.{list_at}
use Rattle.search_model.specs.declared.candidate.Target.TheVariants.{After}
use Rattle.move_core.specs.Searches.{IsSound, SearchState}
use Rattle.list_changes.specs.declared.aim.Aim.{Aim}
use Rattle.list_changes.specs.declared.change.Change.TheVariants.{One, Two}
use Rattle.list_changes.specs.declared.gap.Gap.{Gap}
use Rattle.list_changes.specs.declared.layout.Layout.{Layout}
use Rattle.exchange_screens.specs.declared.piece.Piece.{Piece}
use Rattle.exchange_screens.specs.declared.trial.Trial.{Trial}
use Rattle.list_changes.specs.Aims.{IsAim}
use Rattle.list_changes.specs.Moves.{Makes}
use Rattle.list_changes.specs.Gaps.{IsGap}
use Rattle.list_changes.specs.Layouts.{IsLayout, IsSpan, runs_of}
use Rattle.exchange_screens.specs.inside.Pieces.{IsPieceFrom}
use Rattle.exchange_screens.specs.Trials.{candidate_of, IsChange, IsOwn, most_lent}
use Rattle.list_changes.proofs.LaidLists.{slice-size}
use Rattle.list_changes.proofs.LaidMoves.{move-one, move-two}
use Rattle.list_changes.proofs.NodeVehicles.{aim-vehicle}
use Rattle.exchange_screens.proofs.OwnVehicles.{own-one, own-two, piece-vehicle}
use Rattle.exchange_screens.proofs.PutLaws.{aim-within, earlier_layout, later_layout, moves-across, moves-earlier, moves-later, nothing, span_of_piece, with_layout, without_layout}
use Rattle.exchange_screens.proofs.SwapLaws.{other_layout, swapped_layout, swaps-across, swaps-earlier, swaps-later}

no-span : (visits : List Visit) → IsSpan visits nothing
no-span visits = record { in_order = omega arith; in_list = omega arith }

piece-span : (s : SearchState) (u n : ℕ) (piece : Piece) → IsPieceFrom s u n piece → IsSpan (list_at s.routes piece.vehicle) (span_of_piece piece)
piece-span s u n piece is = let long = is.long in record { in_order = omega arith; in_list = is.within }

-- a piece is short
piece-few : (s : SearchState) (u n : ℕ) (piece : Piece) → IsPieceFrom s u n piece → n ≤ most_lent → length (slice_range (list_at s.routes piece.vehicle) piece.first piece.end ++ []) ≤ most_lent
piece-few s u n piece is few =
    let visits : List Visit = list_at s.routes piece.vehicle in
    let whole : length (slice_range visits piece.first piece.end ++ []) ≡ length (slice_range visits piece.first piece.end) = ap length (append-nil (slice_range visits piece.first piece.end)) in
    let run = slice-size visits piece.first piece.end is.within in
    let long = is.long in
    omega arith

-- one new list, and two with few visits of another list
module _ (s : SearchState) (sound : IsSound s) (trial : Trial) (a : ℕ) (in_a : a < vehicle_count s.problem) where
  change-one : (layout : Layout) → IsLayout (list_at s.routes a) (list_at s.routes a) layout → Makes s (candidate_of trial) (One a layout) → All (IsOwn s trial) (a ∷ []) → IsChange s trial (One a layout)
  change-one layout laid moves own = record { move = move-one s sound (candidate_of trial) a in_a layout laid moves own; few = tt }

  change-two : (b : ℕ) → b < vehicle_count s.problem → b ≢ a → (one two : Layout) →
      IsLayout (list_at s.routes a) (list_at s.routes b) one → IsLayout (list_at s.routes b) (list_at s.routes a) two → length (runs_of (list_at s.routes b) one) ≤ most_lent →
      length (runs_of (list_at s.routes a) two) ≤ most_lent → Makes s (candidate_of trial) (Two a b one two) → All (IsOwn s trial) (a ∷ b ∷ []) → IsChange s trial (Two a b one two)
  change-two b in_b apart one two first second few few' moves own = record {
    move = move-two s sound (candidate_of trial) a in_a b in_b apart one two first second moves own;
    few = record { first_few = few; second_few = few' };
  }

module _ (s : SearchState) (sound : IsSound s) (trial : Trial) (some : 1 ≤ trial.n) (few : trial.n ≤ 3) (piece : Piece) (is : IsPieceFrom s trial.client trial.n piece) where
  abbrev own_list : List Visit
  own_list = list_at s.routes piece.vehicle

  module _ (put : trial.m ≡ 0) (aim : Aim) (at : IsAim s trial.target aim) (gap : Gap) (gone : IsGap own_list piece.first piece.end gap) where
    within : aim.place ≤ length (list_at s.routes aim.vehicle)
    within = aim-within s sound trial put some few piece is aim at

    pub earlier-change : aim.vehicle ≡ piece.vehicle → aim.place < piece.first → IsChange s trial (One piece.vehicle (earlier_layout piece aim.place gap))
    earlier-change own before =
        let long = is.long in
        let inside = is.within in
        let near = gone.near_left in
        let right = gone.right in
        change-one s sound trial piece.vehicle is.in_range (earlier_layout piece aim.place gap)
        (record {
          in_order = omega arith;
          right = gone.in_list;
          one = piece-span s trial.client trial.n piece is;
          two = record { in_order = omega arith; in_list = let left = gone.left in omega arith };
          three = no-span own_list;
        })
        (moves-earlier s sound trial put some few piece is aim at own gap gone before)
        (own-one s sound trial piece is)

    pub later-change : aim.vehicle ≡ piece.vehicle → piece.end < aim.place → IsChange s trial (One piece.vehicle (later_layout piece aim.place gap))
    later-change own behind =
        let here : aim.place ≤ length own_list = subst (λ (v : ℕ). aim.place ≤ length (list_at s.routes v)) own within in
        let long = is.long in
        let left = gone.left in
        let near = gone.near_right in
        change-one s sound trial piece.vehicle is.in_range (later_layout piece aim.place gap)
        (record {
          in_order = omega arith;
          right = here;
          one = record { in_order = omega arith; in_list = here };
          two = piece-span s trial.client trial.n piece is;
          three = no-span own_list;
        })
        (moves-later s sound trial put some few piece is aim at own gap gone behind)
        (own-one s sound trial piece is)

    pub across-change : aim.vehicle ≢ piece.vehicle → IsChange s trial (Two piece.vehicle aim.vehicle (without_layout gap) (with_layout piece aim.place))
    across-change apart =
        let long = is.long in
        let left = gone.left in
        let right = gone.right in
        change-two s sound trial piece.vehicle is.in_range aim.vehicle at.in_range apart (without_layout gap) (with_layout piece aim.place)
        (record {
          in_order = omega arith;
          right = gone.in_list;
          one = no-span (list_at s.routes aim.vehicle);
          two = no-span (list_at s.routes aim.vehicle);
          three = no-span (list_at s.routes aim.vehicle);
        })
        (record { in_order = omega arith; right = within; one = piece-span s trial.client trial.n piece is; two = no-span own_list; three = no-span own_list })
        (omega arith) (piece-few s trial.client trial.n piece is few)
        (moves-across s sound trial put some few piece is aim at gap gone apart)
        (own-two s sound trial piece is aim.vehicle (aim-vehicle s sound trial.target aim at))

  module _ (m v : ℕ) (swap : trial.m ≡ suc m) (fewer : trial.m ≤ trial.n) (target : trial.target ≡ After v) (other : Piece) (is' : IsPieceFrom s v trial.m other) where
    pub swap-across : other.vehicle ≢ piece.vehicle → IsChange s trial (Two piece.vehicle other.vehicle (other_layout piece other) (other_layout other piece))
    swap-across apart =
        let long = is.long in
        let long' = is'.long in
        change-two s sound trial piece.vehicle is.in_range other.vehicle is'.in_range apart (other_layout piece other) (other_layout other piece)
        (record {
          in_order = omega arith;
          right = is.within;
          one = piece-span s v trial.m other is';
          two = no-span (list_at s.routes other.vehicle);
          three = no-span (list_at s.routes other.vehicle);
        })
        (record { in_order = omega arith; right = is'.within; one = piece-span s trial.client trial.n piece is; two = no-span own_list; three = no-span own_list })
        (piece-few s v trial.m other is' (omega arith)) (piece-few s trial.client trial.n piece is few)
        (swaps-across s sound trial m v swap some few fewer target piece other is is' apart)
        (own-two s sound trial piece is other.vehicle (piece-vehicle s sound trial.target v trial.m other target is'))

    module _ (own : other.vehicle ≡ piece.vehicle) where
      there : IsSpan own_list (span_of_piece other)
      there = subst (λ (b : ℕ). IsSpan (list_at s.routes b) (span_of_piece other)) own (piece-span s v trial.m other is')

      pub swap-earlier : piece.end ≤ other.first → IsChange s trial (One piece.vehicle (swapped_layout piece other))
      swap-earlier before =
          let long = is.long in
          let order' = there.in_order in
          let inside' = there.in_list in
          change-one s sound trial piece.vehicle is.in_range (swapped_layout piece other)
          (record {
            in_order = omega arith;
            right = inside';
            one = there;
            two = record { in_order = before; in_list = omega arith };
            three = piece-span s trial.client trial.n piece is;
          })
          (swaps-earlier s sound trial m v swap some few fewer target piece other is is' own before)
          (own-one s sound trial piece is)

      pub swap-later : other.end ≤ piece.first → IsChange s trial (One piece.vehicle (swapped_layout other piece))
      swap-later behind =
          let long = is.long in
          let inside = is.within in
          let order' = there.in_order in
          change-one s sound trial piece.vehicle is.in_range (swapped_layout other piece)
          (record {
            in_order = omega arith;
            right = inside;
            one = piece-span s trial.client trial.n piece is;
            two = record { in_order = behind; in_list = omega arith };
            three = there;
          })
          (swaps-later s sound trial m v swap some few fewer target piece other is is' own behind)
          (own-one s sound trial piece is)
