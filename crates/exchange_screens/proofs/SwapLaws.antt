-- The moves of kinds 4 to 9, by what the code looks up: the two pieces.
use Rattle.std.proofs.Common.{◌≡◌, ◌≢◌, ℕ, suc, ◌+◌, ◌<◌, ◌≤◌, ◌⊎◌, true, List, sym, ◌∙◌, ap, ap₂, subst, inl, inr, arith, Some, None, slice_get, slice_range}
use Rattle.std.specs.Prelude.{option_and_then}
use Rattle.problem_data.specs.declared.visit.Visit.{Visit}
use Rattle.problem_data.specs.declared.visit.Visit.TheVariants.{Client}
use Rattle.routing_model.specs.Routes.{list_at}
use Rattle.search_model.specs.declared.candidate.Target.{Target}
use Rattle.search_model.specs.declared.candidate.Target.TheVariants.{After}
use Rattle.search_model.specs.Edits.{piece}
use Rattle.search_model.specs.Exchange.{exchanged}
use Rattle.search_model.specs.Moves.{if_lawful, made}
use Rattle.search_model.proofs.ExchangeMoves.{MovesOne, MovesTwo, exchange-earlier-moves, exchange-later-moves, exchange-two-moves}
use Rattle.search_model.proofs.ExchangedPieces.{exchange-none-first, exchange-none-second, overlap-earlier, overlap-later}
use Rattle.search_model.proofs.Pieces.{is_piece}
use Rattle.search_model.proofs.RunMoves.{lawful-once, with_run, with_runs}
use Rattle.gain_model.proofs.OperatorAnswers.{answer-none}
use Rattle.move_core.specs.Searches.{IsSound, SearchState}
use Rattle.list_changes.specs.declared.layout.Layout.{Layout}
use Rattle.exchange_screens.specs.declared.piece.Piece.{Piece}
use Rattle.exchange_screens.specs.declared.trial.Trial.{Trial}
use Rattle.list_changes.specs.Layouts.{laid_out}
use Rattle.exchange_screens.specs.inside.Pieces.{IsPieceFrom}
use Rattle.exchange_screens.specs.Trials.{IsAnswer, candidate_of}
use Rattle.exchange_screens.proofs.Exchanged.{made-exchange}
use Rattle.exchange_screens.proofs.PieceFacts.{piece-there}
use Rattle.exchange_screens.proofs.PutLaws.{nothing, span_of_piece}

-- a list with another list's piece in the place of its own
abbrev pub other_layout : Piece → Piece → Layout
other_layout own other = record { left = own.first; one = span_of_piece other; two = nothing; three = nothing; right = own.end }

-- a list in which two pieces change places
abbrev pub swapped_layout : Piece → Piece → Layout
swapped_layout earlier later =
    record { left = earlier.first; one = span_of_piece later; two = record { first = earlier.end; end = later.first }; three = span_of_piece earlier; right = later.end }

-- pieces change places behind a client alone
pub not-behind : (s : SearchState) (trial : Trial) (m : ℕ) → trial.m ≡ suc m → 1 ≤ trial.n → trial.n ≤ 3 → trial.m ≤ trial.n →
    exchanged s.problem s.routes trial.n (suc m) trial.client trial.target ≡ None → IsAnswer s trial None
not-behind s trial m swap some few fewer none =
    answer-none s.problem s.weights s.routes (candidate_of trial)
    (ap (option_and_then (if_lawful s.problem))
    (made-exchange s.problem s.weights s.routes trial.n trial.m trial.client trial.target some few fewer
    ∙ (ap (λ (m : ℕ). exchanged s.problem s.routes trial.n m trial.client trial.target) swap ∙ none)))

module _ (s : SearchState) (sound : IsSound s) (trial : Trial) (m v : ℕ) (swap : trial.m ≡ suc m) (some : 1 ≤ trial.n) (few : trial.n ≤ 3) (fewer : trial.m ≤ trial.n) (target : trial.target ≡ After v) where
  makes : made s.problem s.weights s.routes (candidate_of trial) ≡ exchanged s.problem s.routes trial.n (suc m) trial.client (After v)
  makes =
      made-exchange s.problem s.weights s.routes trial.n trial.m trial.client trial.target some few fewer
      ∙ ap₂ (λ (m : ℕ) (t : Target). exchanged s.problem s.routes trial.n m trial.client t) swap target

  nothing-made : exchanged s.problem s.routes trial.n (suc m) trial.client (After v) ≡ None → IsAnswer s trial None
  nothing-made none = answer-none s.problem s.weights s.routes (candidate_of trial) (ap (option_and_then (if_lawful s.problem)) (makes ∙ none))

  -- there is no piece
  pub no-first : piece s.routes trial.n trial.client ≡ None → IsAnswer s trial None
  no-first none = nothing-made (exchange-none-first s.problem s.routes trial.n m trial.client v none)

  pub no-second : piece s.routes trial.m v ≡ None → IsAnswer s trial None
  no-second none = nothing-made (exchange-none-second s.problem s.routes trial.n m trial.client v (ap (λ (m : ℕ). piece s.routes m v) (sym swap) ∙ none))

  module _ (first second : Piece) (is : IsPieceFrom s trial.client trial.n first) (is' : IsPieceFrom s v trial.m second) where
    abbrev A : List Visit
    A = list_at s.routes first.vehicle

    abbrev B : List Visit
    B = list_at s.routes second.vehicle

    there : is_piece A first.first trial.n ≡ true
    there = piece-there s trial.client trial.n first is

    there' : is_piece B second.first (suc m) ≡ true
    there' = ap (is_piece B second.first) (sym swap) ∙ piece-there s v trial.m second is'

    end : first.first + trial.n ≡ first.end
    end = sym is.long

    end' : second.first + suc m ≡ second.end
    end' = ap (λ (m : ℕ). second.first + m) (sym swap) ∙ sym is'.long

    -- of two lists
    pub swaps-across : second.vehicle ≢ first.vehicle →
        MovesTwo s.problem s.weights s.routes (candidate_of trial) first.vehicle second.vehicle (laid_out A B (other_layout first second)) (laid_out B A (other_layout second first))
    swaps-across apart =
        subst (λ (e : ℕ). MovesTwo s.problem s.weights s.routes (candidate_of trial) first.vehicle second.vehicle
        (with_run A first.first e (slice_range B second.first second.end)) (with_run B second.first second.end (slice_range A first.first e))) end
        (subst (λ (e : ℕ). MovesTwo s.problem s.weights s.routes (candidate_of trial) first.vehicle second.vehicle
        (with_run A first.first (first.first + trial.n) (slice_range B second.first e)) (with_run B second.first e (slice_range A first.first (first.first + trial.n)))) end'
        (exchange-two-moves s.problem s.weights s.routes (candidate_of trial) sound.lawful first.vehicle first.first trial.n trial.client is.stands some there
        second.vehicle second.first v is'.stands apart m there' makes))

    -- of one list
    module _ (own : second.vehicle ≡ first.vehicle) where
      at_v : slice_get A second.first ≡ Some (Client v)
      at_v = subst (λ (b : ℕ). slice_get (list_at s.routes b) second.first ≡ Some (Client v)) own is'.stands

      there_v : is_piece A second.first (suc m) ≡ true
      there_v = subst (λ (b : ℕ). is_piece (list_at s.routes b) second.first (suc m) ≡ true) own there'

      pub swaps-earlier : first.end ≤ second.first → MovesOne s.problem s.weights s.routes (candidate_of trial) first.vehicle (laid_out A A (swapped_layout first second))
      swaps-earlier before =
          let long = is.long in
          subst (λ (e : ℕ). MovesOne s.problem s.weights s.routes (candidate_of trial) first.vehicle
          (with_runs A first.first e (slice_range A second.first second.end) second.first second.end (slice_range A first.first e))) end
          (subst (λ (e : ℕ). MovesOne s.problem s.weights s.routes (candidate_of trial) first.vehicle
          (with_runs A first.first (first.first + trial.n) (slice_range A second.first e) second.first e (slice_range A first.first (first.first + trial.n)))) end'
          (exchange-earlier-moves s.problem s.weights s.routes (candidate_of trial) sound.lawful first.vehicle first.first trial.n trial.client is.stands some there
          second.first v at_v m there_v (omega arith) makes))

      pub swaps-later : second.end ≤ first.first → MovesOne s.problem s.weights s.routes (candidate_of trial) first.vehicle (laid_out A A (swapped_layout second first))
      swaps-later behind =
          let long = end' in
          subst (λ (e : ℕ). MovesOne s.problem s.weights s.routes (candidate_of trial) first.vehicle
          (with_runs A second.first second.end (slice_range A first.first e) first.first e (slice_range A second.first second.end))) end
          (subst (λ (e : ℕ). MovesOne s.problem s.weights s.routes (candidate_of trial) first.vehicle
          (with_runs A second.first e (slice_range A first.first (first.first + trial.n)) first.first (first.first + trial.n) (slice_range A second.first e))) end'
          (exchange-later-moves s.problem s.weights s.routes (candidate_of trial) sound.lawful first.vehicle first.first trial.n trial.client is.stands some there
          second.first v at_v m there_v (omega arith) makes))

      -- pieces that overlap
      pub overlaps : second.first < first.end → first.first < second.end → IsAnswer s trial None
      overlaps low high = by (either first.first second.first)
        where
          either : (k l : ℕ) → (k ≤ l) ⊎ (l < k)
          either k l = grind arith

          by : ((first.first ≤ second.first) ⊎ (second.first < first.first)) → IsAnswer s trial None
          by (inl before) =
              nothing-made (overlap-earlier s.problem s.routes (lawful-once s.problem s.routes sound.lawful) first.vehicle first.first second.first trial.n m trial.client v is.stands at_v some there there_v
              before (omega (arith, end)))
          by (inr behind) =
              nothing-made (overlap-later s.problem s.routes (lawful-once s.problem s.routes sound.lawful) first.vehicle first.first second.first trial.n m trial.client v is.stands at_v some there there_v
              (omega arith) (omega (arith, end')))
