-- Kind Remove, by the place of the client.
use Rattle.std.proofs.Common.{◌≡◌, ℕ, ◌+◌, ◌-◌, ◌<◌, ◌≤◌, Bool, true, false, cond, List, [], length, set, refl, ◌∙◌, ap, subst, arith, Option, Some, None, slice_range}
use Rattle.std.specs.Prelude.{nat_eq, option_and_then}
use Rattle.list_words.specs.Lists.{is_in}
use Rattle.problem_data.specs.declared.visit.Visit.{Visit}
use Rattle.problem_data.specs.Places.{client_at, is_client_place, vehicle_count}
use Rattle.routing_model.specs.Routes.{is_visited, list_at}
use Rattle.routing_model.proofs.GroupChanges.{lets_out}
use Rattle.routing_model.proofs.TidyJoints.{joined}
use Rattle.search_model.specs.declared.candidate.Candidate.TheVariants.{Solo}
use Rattle.search_model.specs.declared.kind.Kind.TheVariants as kind
use Rattle.search_model.specs.Edits.{position_of}
use Rattle.search_model.specs.Moves.{if_lawful}
use Rattle.search_model.proofs.ClientEdits.{remove-moves, removed-none}
use Rattle.search_model.proofs.ClientMoves.{MovesIf, client-named}
use Rattle.search_model.proofs.ClientPlaces.{StandsAt, stands-at}
use Rattle.search_model.proofs.RunMoves.{lawful-once}
use Rattle.search_model.proofs.TailMoves.{vehicle_of-at}
use Rattle.gain_model.specs.declared.part.Part.TheVariants.{Run}
use Rattle.gain_model.specs.CandidateVehicles.{listed}
use Rattle.gain_model.specs.MoveReads.{profile_of}
use Rattle.gain_model.proofs.OperatorAnswers.{answer-none}
use Rattle.move_core.specs.Searches.{IsSound, SearchState}
use Rattle.new_lists.specs.Moves.{IsAnswerTo, IsVehicleOf}
use Rattle.new_lists.specs.NewLists.{IsPart, list_of, list_with_part}
use Rattle.new_lists.specs.Reads.{foreign_visits}
use Rattle.list_changes.specs.declared.gap.Gap.{Gap}
use Rattle.list_changes.specs.Gaps.{IsGap}
use Rattle.list_changes.proofs.GapLists.{gap-list}
use Rattle.list_changes.proofs.NodeVehicles.{in-first}
use Rattle.group_moves.specs.inside.Lists.{MakesList}
use Rattle.group_moves.proofs.TestedMoves.{tested-makes}
use Rattle.group_moves.proofs.VisitedMembers.{position-some}

-- no visits are none of another profile
pub none-foreign : (s : SearchState) (v : ℕ) → foreign_visits s v (Run v 0 0) ≡ 0
none-foreign s v = by (nat_eq (profile_of s.problem v) (profile_of s.problem v))
  where
    by : (b : Bool) → cond {A = ℕ} b 0 0 ≡ 0
    by true = refl
    by false = refl

module _ (s : SearchState) (sound : IsSound s) (u : ℕ) where
  pub remove-unvisited : is_visited s.routes u ≡ false → IsAnswerTo s (Solo kind.Remove u) None
  remove-unvisited absent = answer-none s.problem s.weights s.routes (Solo kind.Remove u) (ap (option_and_then (if_lawful s.problem)) (removed-none s.routes u absent))

  module _ (a place : ℕ) (in_a : a < vehicle_count s.problem) (at : position_of s.routes u ≡ Some (a, place)) (within : place ≤ length (list_at s.routes a)) where
    some : 1 ≤ place
    some = (stands-at s.routes u a place at).0

    stands : StandsAt s.routes u a (place - 1)
    stands = (stands-at s.routes u a place at).1

    -- it is a client's place
    pub visited-client : is_client_place s.problem u ≡ true
    visited-client = client-named s.problem s.routes sound.lawful u (position-some s sound u a place at)

    module _ (gap : Gap) (gone : IsGap (list_at s.routes a) (place - 1) place gap) where
      moves : MovesIf s.problem s.weights s.routes (Solo kind.Remove u) a (list_of s.routes (list_with_part a gap.left (Run a 0 0) gap.right))
          (lets_out s.problem u (client_at s.problem u).group) (client_at s.problem u).prize 0
      moves =
          let low = some in
          let next : place - 1 + 1 ≡ place = omega (arith, low) in
          subst (λ (xs : List Visit). MovesIf s.problem s.weights s.routes (Solo kind.Remove u) a xs (lets_out s.problem u (client_at s.problem u).group) (client_at s.problem u).prize 0)
          (gap-list (list_at s.routes a) (place - 1) place gap gone (omega (arith, within)) within)
          (subst (λ (m : ℕ). MovesIf s.problem s.weights s.routes (Solo kind.Remove u) a
          (joined (slice_range (list_at s.routes a) 0 (place - 1)) (slice_range (list_at s.routes a) m (length (list_at s.routes a))))
          (lets_out s.problem u (client_at s.problem u).group) (client_at s.problem u).prize 0) next
          (remove-moves s.problem s.weights s.routes (Solo kind.Remove u) sound.lawful a (place - 1) u stands sound.valid refl))

      own : IsVehicleOf s (Solo kind.Remove u) a
      own =
          ap (λ (o : Option ℕ). is_in (listed o) a) (vehicle_of-at s.routes u a (place - 1) (lawful-once s.problem s.routes sound.lawful u) stands)
          ∙ in-first a []

      nothing-there : IsPart s (Run a 0 0)
      nothing-there = record { in_range = in_a; in_order = omega arith; in_list = omega arith }

      left-inside : gap.left ≤ length (list_at s.routes a)
      left-inside = let left = gone.left in omega (arith, left, within)

      -- where neither it nor its group is required, and where one is
      pub remove-makes : lets_out s.problem u (client_at s.problem u).group ≡ true → MakesList s (Solo kind.Remove u) (list_with_part a gap.left (Run a 0 0) gap.right)
      remove-makes free =
          tested-makes s sound (Solo kind.Remove u) a gap.left (Run a 0 0) gap.right (lets_out s.problem u (client_at s.problem u).group) (client_at s.problem u).prize 0 moves free in_a
          left-inside gone.in_list nothing-there (none-foreign s a) own

    -- where it or its group is required
    pub remove-barred : lets_out s.problem u (client_at s.problem u).group ≡ false → IsAnswerTo s (Solo kind.Remove u) None
    remove-barred needed =
        let low = some in
        let found = remove-moves s.problem s.weights s.routes (Solo kind.Remove u) sound.lawful a (place - 1) u stands sound.valid refl in
        answer-none s.problem s.weights s.routes (Solo kind.Remove u)
        (found.makes ∙ ap (λ (b : Bool). cond b (Some (set s.routes a (joined (slice_range (list_at s.routes a) 0 (place - 1)) (slice_range (list_at s.routes a) (place - 1 + 1) (length (list_at s.routes a)))))) None) needed)
