-- The moves of kinds 1 to 3, by what the code looks up: the piece, the place that the target names, and the gap that the piece leaves.
use Rattle.std.proofs.Common.{◌≡◌, ◌≢◌, ℕ, ◌<◌, ◌≤◌, ◌⊎◌, true, List, ◌++◌, length, sym, ◌∙◌, ap, ap₂, subst, inl, inr, arith, None, slice_get, slice_range}
use Rattle.std.specs.Prelude.{option_and_then}
use Rattle.problem_data.specs.declared.visit.Visit.{Visit}
use Rattle.routing_model.specs.Routes.{list_at}
use Rattle.routing_model.proofs.TidyJoints.{joined}
use Rattle.search_model.specs.declared.candidate.Target.{Target}
use Rattle.search_model.specs.declared.candidate.Target.TheVariants.{After, Empty, StartOf}
use Rattle.search_model.specs.Edits.{piece}
use Rattle.search_model.specs.Exchange.{exchanged}
use Rattle.search_model.specs.Moves.{if_lawful, made}
use Rattle.search_model.specs.Targets.{put_to}
use Rattle.search_model.proofs.ExchangeMoves.{MovesOne, MovesTwo}
use Rattle.search_model.proofs.Pieces.{is_piece}
use Rattle.search_model.proofs.PutMoves.{NamesNone, NamesPlace, place-within, put-earlier, put-here, put-later, put-none, put-own, put-two}
use Rattle.search_model.proofs.RunMoves.{with_run}
use Rattle.gain_model.proofs.OperatorAnswers.{answer-none}
use Rattle.gain_model.proofs.ProposedMoves.{dear-one}
use Rattle.trips.specs.Joints.{joint_of}
use Rattle.route_cache.specs.Gaps.{visit_before}
use Rattle.route_cache.proofs.Gaps.{joined-earlier, joined-later, left_by, right_by}
use Rattle.move_core.specs.Searches.{IsSound, SearchState}
use Rattle.list_changes.specs.declared.aim.Aim.{Aim}
use Rattle.list_changes.specs.declared.gap.Gap.{Gap}
use Rattle.list_changes.specs.declared.layout.Layout.{Layout}
use Rattle.list_changes.specs.declared.layout.Span.{Span}
use Rattle.exchange_screens.specs.declared.piece.Piece.{Piece}
use Rattle.exchange_screens.specs.declared.trial.Trial.{Trial}
use Rattle.list_changes.specs.Aims.{IsAim, IsNoAim, Names}
use Rattle.list_changes.specs.Gaps.{IsGap}
use Rattle.list_changes.specs.Layouts.{laid_out}
use Rattle.list_changes.proofs.GapLists.{gap-left, gap-list, gap-right}
use Rattle.exchange_screens.specs.inside.Pieces.{IsPieceFrom}
use Rattle.exchange_screens.specs.Trials.{IsAnswer, candidate_of}
use Rattle.exchange_screens.proofs.Exchanged.{made-exchange}
use Rattle.exchange_screens.proofs.PieceFacts.{piece-there}

-- no visits
abbrev pub nothing : Span
nothing = record { first = 0; end = 0 }

abbrev pub span_of_piece : Piece → Span
span_of_piece piece = record { first = piece.first; end = piece.end }

-- the list of the piece, the piece put to a place before it, and to one behind it
abbrev pub earlier_layout : Piece → ℕ → Gap → Layout
earlier_layout piece place gap =
    record { left = place; one = span_of_piece piece; two = record { first = place; end = gap.left }; three = nothing; right = gap.right }

abbrev pub later_layout : Piece → ℕ → Gap → Layout
later_layout piece place gap =
    record { left = gap.left; one = record { first = gap.right; end = place }; two = span_of_piece piece; three = nothing; right = place }

-- the list without the piece, and another list with it
abbrev pub without_layout : Gap → Layout
without_layout gap = record { left = gap.left; one = nothing; two = nothing; three = nothing; right = gap.right }

abbrev pub with_layout : Piece → ℕ → Layout
with_layout piece place = record { left = place; one = span_of_piece piece; two = nothing; three = nothing; right = place }

-- the place that a target names
named : (s : SearchState) (target : Target) (aim : Aim) → Names s target aim → NamesPlace s.problem s.routes target aim.vehicle aim.place
named s (After v) aim names = (names.some, names.stands)
named s (StartOf v) aim names = (names.front, names.stands)
named s (Empty type) aim names = (names.front, names.found)

named-none : (s : SearchState) (target : Target) → IsNoAim s target → NamesNone s.problem s.routes target
named-none s (After v) none = none
named-none s (StartOf v) none = none
named-none s (Empty type) none = none

module _ (s : SearchState) (sound : IsSound s) (trial : Trial) (put : trial.m ≡ 0) (some : 1 ≤ trial.n) (few : trial.n ≤ 3) where
  makes : made s.problem s.weights s.routes (candidate_of trial) ≡ exchanged s.problem s.routes trial.n 0 trial.client trial.target
  makes =
      made-exchange s.problem s.weights s.routes trial.n trial.m trial.client trial.target some few (omega arith)
      ∙ ap (λ (m : ℕ). exchanged s.problem s.routes trial.n m trial.client trial.target) put

  pub nothing-made : exchanged s.problem s.routes trial.n 0 trial.client trial.target ≡ None → IsAnswer s trial None
  nothing-made none = answer-none s.problem s.weights s.routes (candidate_of trial) (ap (option_and_then (if_lawful s.problem)) (makes ∙ none))

  -- there is no piece
  pub no-piece : piece s.routes trial.n trial.client ≡ None → IsAnswer s trial None
  no-piece none = nothing-made (ap (option_and_then (λ us. put_to s.problem s.routes us trial.target)) none)

  module _ (piece : Piece) (is : IsPieceFrom s trial.client trial.n piece) where
    abbrev A : List Visit
    A = list_at s.routes piece.vehicle

    there : is_piece A piece.first trial.n ≡ true
    there = piece-there s trial.client trial.n piece is

    -- what the target names isn't there
    pub no-aim : IsNoAim s trial.target → IsAnswer s trial None
    no-aim none =
        nothing-made (put-none s.problem s.weights s.routes (candidate_of trial) sound.lawful piece.vehicle piece.first trial.n trial.client is.stands some there trial.target
        (named-none s trial.target none))

    module _ (aim : Aim) (at : IsAim s trial.target aim) where
      names : NamesPlace s.problem s.routes trial.target aim.vehicle aim.place
      names = named s trial.target aim at.names

      -- the place is there
      pub aim-within : aim.place ≤ length (list_at s.routes aim.vehicle)
      aim-within =
          place-within s.problem s.weights s.routes (candidate_of trial) sound.lawful piece.vehicle piece.first trial.n trial.client is.stands some there trial.target aim.vehicle aim.place names

      module _ (own : aim.vehicle ≡ piece.vehicle) where
        own-names : NamesPlace s.problem s.routes trial.target piece.vehicle aim.place
        own-names = subst (λ (v : ℕ). NamesPlace s.problem s.routes trial.target v aim.place) own names

        -- into itself, or where it stands
        pub no-move : piece.first ≤ aim.place → aim.place ≤ piece.end → IsAnswer s trial None
        no-move low high = by (equal_or_more piece.first aim.place low)
          where
            equal_or_more : (m n : ℕ) → m ≤ n → (m ≡ n) ⊎ (m < n)
            equal_or_more m n h = grind arith

            stays : ((exchanged s.problem s.routes trial.n 0 trial.client trial.target ≡ None) ⊎ MovesOne s.problem s.weights s.routes (candidate_of trial) piece.vehicle A) → IsAnswer s trial None
            stays (inl none) = nothing-made none
            stays (inr moves) = dear-one s.problem s.weights s.routes (candidate_of trial) piece.vehicle A moves (omega arith)

            by : ((piece.first ≡ aim.place) ⊎ (piece.first < aim.place)) → IsAnswer s trial None
            by (inl same) =
                stays (put-here s.problem s.weights s.routes (candidate_of trial) sound.lawful piece.vehicle piece.first trial.n trial.client is.stands some there trial.target
                (subst (λ (x : ℕ). NamesPlace s.problem s.routes trial.target piece.vehicle x) (sym same) own-names) makes)
            by (inr more) =
                let long = is.long in
                nothing-made (put-own s.problem s.weights s.routes (candidate_of trial) sound.lawful piece.vehicle piece.first trial.n trial.client is.stands some there trial.target
                aim.place own-names more (omega arith))

        module _ (gap : Gap) (gone : IsGap A piece.first piece.end gap) where
          left-is : gap.left ≡ left_by (joint_of (visit_before A piece.first) (slice_get A piece.end)) piece.first
          left-is = ap (λ (g : Gap). g.left) gone.is ∙ gap-left (joint_of (visit_before A piece.first) (slice_get A piece.end)) piece.first piece.end

          right-is : gap.right ≡ right_by (joint_of (visit_before A piece.first) (slice_get A piece.end)) piece.end
          right-is = ap (λ (g : Gap). g.right) gone.is ∙ gap-right (joint_of (visit_before A piece.first) (slice_get A piece.end)) piece.first piece.end

          pub moves-earlier : aim.place < piece.first → MovesOne s.problem s.weights s.routes (candidate_of trial) piece.vehicle (laid_out A A (earlier_layout piece aim.place gap))
          moves-earlier before =
              let long = is.long in
              let within = is.within in
              let list : joined (slice_range A 0 aim.place ++ (slice_range A piece.first piece.end ++ slice_range A aim.place piece.first)) (slice_range A piece.end (length A)) ≡ laid_out A A (earlier_layout piece aim.place gap) =
              joined-earlier A aim.place piece.first piece.end (slice_range A piece.first piece.end) before (omega arith) within
              ∙ ap₂ (λ (l r : ℕ). slice_range A 0 aim.place ++ (slice_range A piece.first piece.end ++ (slice_range A aim.place l ++ slice_range A r (length A)))) (sym left-is) (sym right-is) in
              subst (MovesOne s.problem s.weights s.routes (candidate_of trial) piece.vehicle) list
              (subst (λ (e : ℕ). MovesOne s.problem s.weights s.routes (candidate_of trial) piece.vehicle
              (joined (slice_range A 0 aim.place ++ (slice_range A piece.first e ++ slice_range A aim.place piece.first)) (slice_range A e (length A)))) (sym is.long)
              (put-earlier s.problem s.weights s.routes (candidate_of trial) sound.lawful piece.vehicle piece.first trial.n trial.client is.stands some there trial.target aim.place own-names before makes))

          pub moves-later : piece.end < aim.place → MovesOne s.problem s.weights s.routes (candidate_of trial) piece.vehicle (laid_out A A (later_layout piece aim.place gap))
          moves-later behind =
              let long = is.long in
              let within = is.within in
              let inside : aim.place ≤ length A = subst (λ (v : ℕ). aim.place ≤ length (list_at s.routes v)) own aim-within in
              let list : joined (slice_range A 0 piece.first) (slice_range A piece.end aim.place ++ (slice_range A piece.first piece.end ++ slice_range A aim.place (length A))) ≡ laid_out A A (later_layout piece aim.place gap) =
              joined-later A piece.first piece.end aim.place (slice_range A piece.first piece.end) (omega arith) behind inside
              ∙ ap₂ (λ (l r : ℕ). slice_range A 0 l ++ (slice_range A r aim.place ++ (slice_range A piece.first piece.end ++ slice_range A aim.place (length A)))) (sym left-is) (sym right-is) in
              subst (MovesOne s.problem s.weights s.routes (candidate_of trial) piece.vehicle) list
              (subst (λ (e : ℕ). MovesOne s.problem s.weights s.routes (candidate_of trial) piece.vehicle
              (joined (slice_range A 0 piece.first) (slice_range A e aim.place ++ (slice_range A piece.first e ++ slice_range A aim.place (length A))))) (sym is.long)
              (put-later s.problem s.weights s.routes (candidate_of trial) sound.lawful piece.vehicle piece.first trial.n trial.client is.stands some there trial.target aim.place own-names (omega arith) makes))

      -- to another list
      pub moves-across : (gap : Gap) → IsGap A piece.first piece.end gap → aim.vehicle ≢ piece.vehicle →
          MovesTwo s.problem s.weights s.routes (candidate_of trial) piece.vehicle aim.vehicle (laid_out A (list_at s.routes aim.vehicle) (without_layout gap))
          (laid_out (list_at s.routes aim.vehicle) A (with_layout piece aim.place))
      moves-across gap gone apart =
          let long = is.long in
          let within = is.within in
          let list : joined (slice_range A 0 piece.first) (slice_range A piece.end (length A)) ≡ laid_out A (list_at s.routes aim.vehicle) (without_layout gap) =
          gap-list A piece.first piece.end gap gone (omega arith) within in
          subst (λ (xs : List Visit). MovesTwo s.problem s.weights s.routes (candidate_of trial) piece.vehicle aim.vehicle xs (laid_out (list_at s.routes aim.vehicle) A (with_layout piece aim.place))) list
          (subst (λ (e : ℕ). MovesTwo s.problem s.weights s.routes (candidate_of trial) piece.vehicle aim.vehicle (joined (slice_range A 0 piece.first) (slice_range A e (length A)))
          (with_run (list_at s.routes aim.vehicle) aim.place aim.place (slice_range A piece.first e))) (sym is.long)
          (put-two s.problem s.weights s.routes (candidate_of trial) sound.lawful piece.vehicle piece.first trial.n trial.client is.stands some there trial.target aim.vehicle aim.place names apart makes))
