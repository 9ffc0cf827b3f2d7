-- The exchange of two vehicles' lists, by what the code looks up.
use Rattle.std.proofs.Common.{◌≡◌, ◌≢◌, ℕ, ◌+◌, ◌<◌, ◌≤◌, Bool, true, false, ◌&&◌, cond, not, List, [], ◌∷◌, ◌++◌, length, set, sym, ◌∙◌, ap, ap₂, subst, arith, slice_range, Some, None}
use Rattle.std.specs.Prelude.{◌==◌, All, filter, option_and_then}
use Rattle.std.proofs.lemmas.List.{append-nil}
use Rattle.std.proofs.lemmas.List.Elements.{All-cons, All-nil}
use Rattle.list_words.specs.Lists.{is_in}
use Rattle.problem_data.specs.declared.visit.Visit.{Visit}
use Rattle.problem_data.specs.Places.{type_of, vehicle_count}
use Rattle.routing_model.specs.Lawful.{reloads_as_allowed}
use Rattle.routing_model.specs.Listed.{type_of_vehicle}
use Rattle.routing_model.specs.Routes.{Routes, list_at}
use Rattle.routing_model.specs.Tidy.{tidied}
use Rattle.routing_model.proofs.LawfulAgain.{reloads_that}
use Rattle.routing_model.proofs.Tidying.{tidied-tidy}
use Rattle.search_model.specs.Moves.{if_lawful, made}
use Rattle.search_model.specs.RouteMoves.{are_two_vehicles}
use Rattle.search_model.proofs.ClientPlaces.{times_in}
use Rattle.search_model.proofs.ExchangeMoves.{MovesTwo, all-at}
use Rattle.search_model.proofs.LawfulMoves.{plan-tidy}
use Rattle.search_model.proofs.ReloadMoves.{amount-if-allowed, lawful-if-allowed, moved-if-allowed}
use Rattle.gain_model.specs.MoveReads.{move_reads}
use Rattle.gain_model.proofs.ListsOfPlans.{and-first}
use Rattle.gain_model.proofs.OperatorAnswers.{answer-none}
use Rattle.gain_model.proofs.TakenRoutes.{AreTwo, two_vehicles}
use Rattle.route_cache.proofs.Slices.{slice-all, slice-none}
use Rattle.move_core.specs.Operators.{operator_reads}
use Rattle.move_core.specs.Searches.{IsSound, SearchState}
use Rattle.list_changes.specs.declared.change.Change.TheVariants.{Two}
use Rattle.list_changes.specs.declared.layout.Span.{Span}
use Rattle.list_changes.specs.Layouts.{IsLayout, IsSpan, laid_out, runs_of}
use Rattle.list_changes.specs.Moves.{IsAnswerTo, IsVehicleOf}
use Rattle.list_changes.specs.Reads.{improve_reads}
use Rattle.list_changes.proofs.LaidMoves.{move-two}
use Rattle.list_changes.proofs.NodeVehicles.{in-first, in-second}
use Rattle.tail_changes.specs.Reloading.{taken}
use Rattle.tail_changes.proofs.TailReads.{both-vehicles, tail-room}
use Rattle.route_moves.specs.inside.Wholes.{IsWholeChange, may_swap, whole_candidate, whole_layout}

-- all visits of another list, in the place of all of a list
abbrev pub whole_span : ℕ → Span
whole_span size = record { first = 0; end = size }

pub whole-span : (visits : List Visit) → IsSpan visits (whole_span (length visits))
whole-span visits = record { in_order = omega arith; in_list = omega arith }

pub whole-run : (visits : List Visit) → slice_range visits 0 (length visits) ≡ visits
whole-run visits = slice-all visits (length visits) (omega arith)

pub whole-runs : (A B : List Visit) → runs_of B (whole_layout (length A) (length B)) ≡ B
whole-runs A B = ap (λ (xs : List Visit). xs ++ []) (whole-run B) ∙ append-nil B

pub whole-laid : (A B : List Visit) → laid_out A B (whole_layout (length A) (length B)) ≡ B
whole-laid A B = ap₂ (λ (xs ys : List Visit). xs ++ ys) (whole-run B) (slice-none A (length A)) ∙ append-nil B

whole-is : (A B : List Visit) → IsLayout A B (whole_layout (length A) (length B))
whole-is A B = record {
  in_order = omega arith;
  right = omega arith;
  one = whole-span B;
  two = record { in_order = omega arith; in_list = omega arith };
  three = record { in_order = omega arith; in_list = omega arith };
}

-- whose reloads a vehicle takes
pub whole-taken : (routes : Routes) (vehicle lender : ℕ) → taken routes vehicle 0 lender (whole_span (length (list_at routes lender))) ≡ list_at routes lender
whole-taken routes vehicle lender = whole-run (list_at routes lender)

module _ (s : SearchState) (sound : IsSound s) (i j : ℕ) where
  abbrev A : List Visit
  A = list_at s.routes i

  abbrev B : List Visit
  B = list_at s.routes j

  -- they may not change places
  pub whole-none : may_swap s.problem s.routes i j ≡ false → IsAnswerTo s (whole_candidate i j) None
  whole-none refused =
      answer-none s.problem s.weights s.routes (whole_candidate i j)
      (ap (option_and_then (if_lawful s.problem)) (ap (λ (b : Bool). cond b (Some (set (set s.routes i B) j A)) None) refused))

  module _ (may : may_swap s.problem s.routes i j ≡ true) where
    two-types : (are_two_vehicles s.problem i j && not (type_of s.problem i == type_of s.problem j)) ≡ true
    two-types = first-two (are_two_vehicles s.problem i j) (not (type_of s.problem i == type_of s.problem j)) _ _ _ may
      where
        first-two : (a b c d e : Bool) → (((a && b) && c) && d) && e ≡ true → (a && b) ≡ true
        first-two a b c d e h = and-first (a && b) c (and-first ((a && b) && c) d (and-first (((a && b) && c) && d) e h))

    two : AreTwo s.routes i j
    two = two_vehicles s.problem s.routes i j sound.lawful (and-first (are_two_vehicles s.problem i j) (not (type_of s.problem i == type_of s.problem j)) two-types)

    pub in-first-range : i < vehicle_count s.problem
    in-first-range = let each = sound.one_list_each in let there = two.first in omega (arith, each, there)

    pub in-second-range : j < vehicle_count s.problem
    in-second-range = let each = sound.one_list_each in let there = two.second in omega (arith, each, there)

    apart : j ≢ i
    apart e = two.apart (sym e)

    makes : made s.problem s.weights s.routes (whole_candidate i j) ≡ Some (set (set s.routes i B) j A)
    makes = ap (λ (b : Bool). cond b (Some (set (set s.routes i B) j A)) None) may

    tidy-list : (k : ℕ) → tidied (list_at s.routes k) ≡ list_at s.routes k
    tidy-list k = tidied-tidy false (list_at s.routes k) (all-at s.routes k (plan-tidy s.problem s.weights s.routes (whole_candidate i j) sound.lawful))

    clients : (c : ℕ) → times_in c B + times_in c A ≡ times_in c A + times_in c B
    clients c = omega arith

    fewer : (q : Visit → Bool) → reloads_that q B + reloads_that q A ≤ reloads_that q A + reloads_that q B
    fewer q = omega arith

    -- a vehicle may not reload as its new list does
    abbrev allowed : List Visit → List Visit → Bool
    allowed xs ys = reloads_as_allowed (type_of_vehicle s.problem i) xs && reloads_as_allowed (type_of_vehicle s.problem j) ys

    so : allowed (tidied B) (tidied A) ≡ allowed B A
    so = ap₂ allowed (tidy-list j) (tidy-list i)

    pub whole-refused : allowed B A ≡ false → IsAnswerTo s (whole_candidate i j) None
    whole-refused refused =
        answer-none s.problem s.weights s.routes (whole_candidate i j)
        (moved-if-allowed s.problem s.weights s.routes (whole_candidate i j) sound.lawful i j B A two.first two.second two.apart makes clients fewer
        ∙ ap (λ (b : Bool). cond b (Some (set (set s.routes i (tidied B)) j (tidied A))) None) (so ∙ refused))

    -- both may
    moves : allowed B A ≡ true → MovesTwo s.problem s.weights s.routes (whole_candidate i j) i j B A
    moves granted =
        subst (λ (xs : List Visit). MovesTwo s.problem s.weights s.routes (whole_candidate i j) i j xs A) (tidy-list j)
        (subst (λ (ys : List Visit). MovesTwo s.problem s.weights s.routes (whole_candidate i j) i j (tidied B) ys) (tidy-list i) (record {
          makes = moved-if-allowed s.problem s.weights s.routes (whole_candidate i j) sound.lawful i j B A two.first two.second two.apart makes clients fewer
              ∙ ap (λ (b : Bool). cond b (Some (set (set s.routes i (tidied B)) j (tidied A))) None) (so ∙ granted);
          lawful = lawful-if-allowed s.problem s.weights s.routes (whole_candidate i j) sound.lawful i j B A two.first two.second two.apart makes clients fewer ∙ (so ∙ granted);
          amount = amount-if-allowed s.problem s.weights s.routes (whole_candidate i j) sound.lawful i j B A two.first two.second two.apart makes clients fewer;
        }))

    own : All (IsVehicleOf s (whole_candidate i j)) (i ∷ j ∷ [])
    own =
        All-cons (IsVehicleOf s (whole_candidate i j)) i (j ∷ []) (in-first i (filter (λ v. not (is_in (i ∷ []) v)) (j ∷ [])))
        (All-cons (IsVehicleOf s (whole_candidate i j)) j [] (in-second i j) (All-nil (IsVehicleOf s (whole_candidate i j))))

    few : improve_reads s (Two i j (whole_layout (length A) (length B)) (whole_layout (length B) (length A))) + 8 ≤ operator_reads s.problem s.routes (whole_candidate i j)
    few =
        let one = whole-runs A B in
        let other = whole-runs B A in
        let one-few : length (runs_of B (whole_layout (length A) (length B))) ≤ length B = rw one (omega arith) in
        let other-few : length (runs_of A (whole_layout (length B) (length A))) ≤ length A = rw other (omega arith) in
        let room = tail-room s.problem s.routes i j (length (runs_of B (whole_layout (length A) (length B)))) (length (runs_of A (whole_layout (length B) (length A)))) one-few other-few in
        let vehicles = ap (move_reads s.problem s.routes) (both-vehicles i j apart) in
        omega (arith, room, vehicles)

    pub whole-changes : allowed B A ≡ true → IsWholeChange s i j (Two i j (whole_layout (length A) (length B)) (whole_layout (length B) (length A)))
    whole-changes granted = record {
      move = move-two s sound (whole_candidate i j) i in-first-range j in-second-range apart (whole_layout (length A) (length B)) (whole_layout (length B) (length A)) (whole-is A B) (whole-is B A)
          (subst (λ (xs : List Visit). MovesTwo s.problem s.weights s.routes (whole_candidate i j) i j xs (laid_out B A (whole_layout (length B) (length A)))) (sym (whole-laid A B))
          (subst (λ (ys : List Visit). MovesTwo s.problem s.weights s.routes (whole_candidate i j) i j B ys) (sym (whole-laid B A)) (moves granted)))
          own;
      few = few;
    }
