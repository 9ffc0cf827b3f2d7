-- What exchanges of tails change, as layouts, and their answers.
use Rattle.std.proofs.Common.{◌≡◌, ◌≢◌, ℕ, ◌+◌, ◌-◌, ◌<◌, ◌≤◌, inl, inr, List, [], ◌∷◌, ◌++◌, length, sym, ◌∙◌, ap, ap₂, arith, subst, Option, None, Some, slice_range}
use Rattle.std.specs.Option.{MatchOption}
use Rattle.std.proofs.lemmas.List.{append-nil}
use Rattle.problem_data.specs.declared.visit.Visit.{Visit}
use Rattle.problem_data.specs.Places.{vehicle_count}
use Rattle.routing_model.specs.Routes.{list_at}
use Rattle.search_model.specs.declared.candidate.Target.{Target}
use Rattle.search_model.specs.declared.kind.Kind.TheVariants.{SwapTails}
use Rattle.search_model.specs.Edits.{vehicle_of}
use Rattle.search_model.proofs.ClientPlaces.{StandsAt}
use Rattle.search_model.proofs.ExchangeMoves.{MovesTwo}
use Rattle.search_model.proofs.RunMoves.{lawful-once}
use Rattle.search_model.proofs.TailMoves.{vehicle_of-at}
use Rattle.gain_model.specs.CandidateVehicles.{both, listed, vehicles_of}
use Rattle.gain_model.specs.MoveReads.{move_reads}
use Rattle.route_cache.proofs.Slices.{slice-none}
use Rattle.move_core.specs.Operators.{operator_reads}
use Rattle.move_core.specs.Searches.{IsSound, SearchState}
use Rattle.list_changes.specs.declared.aim.Aim.{Aim}
use Rattle.list_changes.specs.declared.change.Change.{Change}
use Rattle.list_changes.specs.declared.change.Change.TheVariants.{Two}
use Rattle.list_changes.specs.declared.layout.Layout.{Layout}
use Rattle.list_changes.specs.Aims.{IsAim}
use Rattle.list_changes.specs.Layouts.{IsLayout, laid_out, lent_layout, runs_of}
use Rattle.list_changes.specs.Moves.{IsAnswerTo, Makes}
use Rattle.list_changes.specs.Reads.{improve_reads}
use Rattle.list_changes.proofs.LaidLists.{slice-size}
use Rattle.list_changes.proofs.LaidMoves.{move-two}
use Rattle.list_changes.proofs.NodeVehicles.{aim-vehicle, node-two}
use Rattle.tail_changes.specs.declared.tails.Cut.{Cut}
use Rattle.tail_changes.specs.Tails.{IsTailChange, tail_candidate}
use Rattle.tail_changes.specs.inside.Cuts.{IsExchange}
use Rattle.tail_changes.specs.inside.TailBegins.{tail_begin}
use Rattle.tail_changes.proofs.TailLists.{begin-high, with_tail_of}
use Rattle.tail_changes.proofs.TailMoved.{aim-inside, bare-exchange, granted-exchange, refused-exchange}
use Rattle.tail_changes.proofs.TailReads.{both-vehicles, tail-room}

-- a list with another tail
laid-tail : (own lender : List Visit) (left first end : ℕ) → laid_out own lender (lent_layout left (length own) first end) ≡ slice_range own 0 left ++ slice_range lender first end
laid-tail own lender left first end =
    ap (λ (xs : List Visit). slice_range own 0 left ++ (slice_range lender first end ++ xs)) (slice-none own (length own))
    ∙ ap (λ (xs : List Visit). slice_range own 0 left ++ xs) (append-nil (slice_range lender first end))

tail-layout : (own lender : List Visit) (left first : ℕ) → left ≤ length own → first ≤ length lender → IsLayout own lender (lent_layout left (length own) first (length lender))
tail-layout own lender left first inside within = record {
  in_order = inside;
  right = omega arith;
  one = record { in_order = within; in_list = omega arith };
  two = record { in_order = omega arith; in_list = omega arith };
  three = record { in_order = omega arith; in_list = omega arith };
}

-- how many visits come
tail-size : (own lender : List Visit) (left first : ℕ) → length (runs_of lender (lent_layout left (length own) first (length lender))) ≤ length lender
tail-size own lender left first =
    let whole : length (slice_range lender first (length lender) ++ []) ≡ length (slice_range lender first (length lender)) = ap length (append-nil (slice_range lender first (length lender))) in
    let run = slice-size lender first (length lender) (omega arith) in
    omega arith

module _ (s : SearchState) (sound : IsSound s) (u a i : ℕ) (some : 1 ≤ i) (at_u : StandsAt s.routes u a (i - 1)) (in_a : a < vehicle_count s.problem) (inside : i ≤ length (list_at s.routes a))
    (target : Target) (aim : Aim) (at : IsAim s target aim) (apart : aim.vehicle ≢ a) where
  abbrev A : List Visit
  A = list_at s.routes a

  abbrev B : List Visit
  B = list_at s.routes aim.vehicle

  abbrev first_cut : Cut
  first_cut = record { vehicle = a; left = i; size = length A }

  abbrev second_cut : Cut
  second_cut = record { vehicle = aim.vehicle; left = aim.place; size = length B }

  abbrev one : Layout
  one = lent_layout i (length A) aim.place (length B)

  abbrev two : Layout
  two = lent_layout aim.place (length B) (tail_begin A i aim.place) (length A)

  other : a ≢ aim.vehicle
  other e = apart (sym e)

  of-client : vehicle_of s.routes u ≡ Some a
  of-client = vehicle_of-at s.routes u a (i - 1) (lawful-once s.problem s.routes sound.lawful u) at_u

  within : aim.place ≤ length B
  within = aim-inside s target aim at

  makes : MovesTwo s.problem s.weights s.routes (tail_candidate u target) a aim.vehicle (with_tail_of s.routes a i aim.vehicle aim.place)
      (slice_range B 0 aim.place ++ slice_range A (tail_begin A i aim.place) (length A)) → Makes s (tail_candidate u target) (Two a aim.vehicle one two)
  makes moves =
      subst (λ (xs : List Visit). MovesTwo s.problem s.weights s.routes (tail_candidate u target) a aim.vehicle xs (laid_out B A two)) (sym (laid-tail A B i aim.place (length B)))
      (subst (λ (ys : List Visit). MovesTwo s.problem s.weights s.routes (tail_candidate u target) a aim.vehicle (with_tail_of s.routes a i aim.vehicle aim.place) ys)
      (sym (laid-tail B A aim.place (tail_begin A i aim.place) (length A))) moves)

  few : improve_reads s (Two a aim.vehicle one two) + 8 ≤ operator_reads s.problem s.routes (tail_candidate u target)
  few =
      let vehicles : vehicles_of s.problem s.routes (tail_candidate u target) ≡ a ∷ aim.vehicle ∷ [] =
      ap₂ (λ (o q : Option ℕ). both (listed o) (listed q)) of-client (aim-vehicle s sound target aim at) ∙ both-vehicles a aim.vehicle apart in
      let reads : operator_reads s.problem s.routes (tail_candidate u target) ≡ move_reads s.problem s.routes (a ∷ aim.vehicle ∷ []) - 24 = ap (λ (vs : List ℕ). move_reads s.problem s.routes vs - 24) vehicles in
      subst (λ (n : ℕ). improve_reads s (Two a aim.vehicle one two) + 8 ≤ n) (sym reads)
      (tail-room s.problem s.routes a aim.vehicle (length (runs_of B one)) (length (runs_of A two)) (tail-size A B i aim.place) (tail-size B A aim.place (tail_begin A i aim.place)))

  answer-at : (found : Option Change) → IsExchange s first_cut second_cut found →
      MatchOption found (IsAnswerTo s (tail_candidate u target) None) (λ change. IsTailChange s u target change)
  answer-at None (inl bare) = bare-exchange s sound u a i some at_u target aim at other in_a bare.first_bare bare.second_bare
  answer-at None (inr refused) = refused-exchange s sound u a i some at_u target aim at other in_a refused
  answer-at (Some change) is =
      subst (IsTailChange s u target) (sym is.0) (record {
        move = move-two s sound (tail_candidate u target) a in_a aim.vehicle at.in_range apart one two (tail-layout A B i aim.place inside within)
            (tail-layout B A aim.place (tail_begin A i aim.place) within (begin-high A i aim.place inside))
            (makes (granted-exchange s sound u a i some at_u target aim at other in_a is.1))
            (node-two s SwapTails u target a of-client aim.vehicle (aim-vehicle s sound target aim at));
        few = few;
      })

  -- with the sizes of the lists, however they are known
  pub tail-answer : (n m : ℕ) → n ≡ length (list_at s.routes a) → m ≡ length (list_at s.routes aim.vehicle) → (found : Option Change) →
      IsExchange s (record { vehicle = a; left = i; size = n }) (record { vehicle = aim.vehicle; left = aim.place; size = m }) found →
      MatchOption found (IsAnswerTo s (tail_candidate u target) None) (λ change. IsTailChange s u target change)
  tail-answer n m long long_b found is =
      answer-at found (subst (λ (k : ℕ). IsExchange s first_cut (record { vehicle = aim.vehicle; left = aim.place; size = k }) found) long_b
      (subst (λ (k : ℕ). IsExchange s (record { vehicle = a; left = i; size = k }) (record { vehicle = aim.vehicle; left = aim.place; size = m }) found) long is))
