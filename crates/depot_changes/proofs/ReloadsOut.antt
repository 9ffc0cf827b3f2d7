-- What taking out the reload behind a client makes, by where the client stands.
use Rattle.std.proofs.Common.{◌≡◌, ℕ, zero, suc, ◌+◌, ◌-◌, ◌<◌, ◌≤◌, true, false, List, [], ◌∷◌, ◌++◌, length, refl, ◌∙◌, ap, arith, subst, Option, None, Some, slice_get, slice_range}
use Rattle.std.specs.Prelude.{All, option_and_then, option_map, slice_set}
use Rattle.std.proofs.lemmas.List.Elements.{All-cons, All-nil}
use Rattle.std.proofs.lemmas.Option.{slice_get_within}
use Rattle.problem_data.specs.declared.visit.Visit.{Visit}
use Rattle.problem_data.specs.declared.visit.Visit.TheVariants.{Client, Reload}
use Rattle.problem_data.specs.Places.{vehicle_count}
use Rattle.routing_model.specs.Routes.{list_at}
use Rattle.routing_model.proofs.TidyJoints.{joined}
use Rattle.search_model.specs.Edits.{following, list_with, position_of, up_to}
use Rattle.search_model.specs.Moves.{if_lawful}
use Rattle.search_model.specs.Reloads.{behind_reload, reload_removed}
use Rattle.search_model.proofs.ClientPlaces.{StandsAt, stands-at, vehicle-there}
use Rattle.search_model.proofs.ExchangeMoves.{MovesOne}
use Rattle.search_model.proofs.ListMoves.{reload-out-moves, removed-is}
use Rattle.search_model.proofs.RunMoves.{lawful-once}
use Rattle.search_model.proofs.TailMoves.{vehicle_of-at}
use Rattle.gain_model.specs.CandidateVehicles.{listed}
use Rattle.gain_model.proofs.OperatorAnswers.{answer-none}
use Rattle.list_words.specs.Lists.{is_in}
use Rattle.trips.specs.Joints.{first_visit, is_some_reload, joint_of}
use Rattle.trips.specs.declared.joint.Joint.{Joint}
use Rattle.trips.specs.declared.joint.Joint.TheVariants.{Keep}
use Rattle.route_cache.specs.Gaps.{visit_before}
use Rattle.route_cache.specs.Marks.{reloads_in}
use Rattle.route_cache.proofs.Counting.{reloads-cons}
use Rattle.route_cache.proofs.Gaps.{first-last, joined-gap, left_by, right_by}
use Rattle.move_core.specs.Searches.{IsSound, SearchState, some_type_reloads}
use Rattle.list_changes.specs.declared.change.Change.TheVariants.{One}
use Rattle.list_changes.specs.Layouts.{left_layout}
use Rattle.list_changes.specs.Moves.{IsAnswerTo, IsMove, IsVehicleOf}
use Rattle.list_changes.proofs.AllowedLists.{no-reloads}
use Rattle.list_changes.proofs.LaidMoves.{move-one}
use Rattle.list_changes.proofs.NodeVehicles.{in-first}
use Rattle.list_changes.proofs.Unvisited.{no-place}
use Rattle.depot_changes.specs.Removing.{out_candidate}

-- a list that begins with no reload
not-reload : (visits : List Visit) → is_some_reload (first_visit visits) ≡ false → behind_reload visits ≡ None
not-reload [] h = refl
not-reload (Client place ∷ rest) h = refl
not-reload (Reload depot ∷ rest) h = cc

-- a list without reloads has none at a place
not-in : (visits : List Visit) (k : ℕ) → reloads_in visits ≡ 0 → is_some_reload (slice_get visits k) ≡ false
not-in [] k none = refl
not-in (Client place ∷ rest) zero none = refl
not-in (Reload depot ∷ rest) zero none = absurd (let e : reloads_in (Reload depot ∷ rest) ≡ 1 + reloads_in rest = reloads-cons (Reload depot) rest in omega (arith, e, none))
not-in (visit ∷ rest) (suc k) none = not-in rest k (let e = reloads-cons visit rest in omega arith)

module _ (s : SearchState) (u : ℕ) where
  nothing : reload_removed s.routes u ≡ None → IsAnswerTo s (out_candidate u) None
  nothing none = answer-none s.problem s.weights s.routes (out_candidate u) (ap (option_and_then (if_lawful s.problem)) none)

  -- the client isn't visited
  pub no-client : position_of s.routes u ≡ None → IsAnswerTo s (out_candidate u) None
  no-client none =
      nothing (ap (option_and_then (λ vehicle. option_map (λ rest. slice_set s.routes vehicle (up_to u (list_with s.routes u) ++ rest)) (behind_reload (following u (list_with s.routes u)))))
      (no-place s.routes u none))

  module _ (sound : IsSound s) (a i : ℕ) (some : 1 ≤ i) (at_u : StandsAt s.routes u a (i - 1)) where
    abbrev A : List Visit
    A = list_at s.routes a

    here : i - 1 + 1 ≡ i
    here = omega arith

    room : i ≤ length A
    room = let e : i - 1 < length A = slice_get_within A (i - 1) (Client u) at_u in omega arith

    -- what follows it
    behind : slice_range A (i - 1 + 1) (length A) ≡ slice_range A i (length A)
    behind = ap (λ (n : ℕ). slice_range A n (length A)) here

    -- no reload does
    pub no-reload : is_some_reload (slice_get (list_at s.routes a) i) ≡ false → IsAnswerTo s (out_candidate u) None
    no-reload none =
        nothing (removed-is s.problem s.weights s.routes (out_candidate u) sound.lawful a (i - 1) u at_u
        ∙ ap (λ (o : Option (List Visit)). option_map (λ rest. slice_set s.routes a (slice_range A 0 (i - 1 + 1) ++ rest)) o)
        (ap behind_reload behind ∙ not-reload (slice_range A i (length A)) (ap is_some_reload (first-last A i room) ∙ none)))

    -- the reload goes
    pub reload-goes : a < vehicle_count s.problem → is_some_reload (slice_get (list_at s.routes a) i) ≡ true → IsMove s (out_candidate u) (One a (left_layout i (i + 1)))
    reload-goes in_a there = by (slice_get A i) refl there
      where
        keeps : (o : Option Visit) → joint_of (Some (Client u)) o ≡ Keep
        keeps None = refl
        keeps (Some (Client place)) = refl
        keeps (Some (Reload depot)) = refl

        before : (k : ℕ) → 1 ≤ k → visit_before A k ≡ slice_get A (k - 1)
        before zero low = absurd (omega (arith, low))
        before (suc k) low = let e : k ≡ suc k - 1 = omega arith in ap (slice_get A) e

        own : All (IsVehicleOf s (out_candidate u)) (a ∷ [])
        own =
            All-cons (IsVehicleOf s (out_candidate u)) a []
            (ap (λ (o : Option ℕ). is_in (listed o) a) (vehicle_of-at s.routes u a (i - 1) (lawful-once s.problem s.routes sound.lawful u) at_u) ∙ in-first a [])
            (All-nil (IsVehicleOf s (out_candidate u)))

        by : (o : Option Visit) → slice_get A i ≡ o → is_some_reload o ≡ true → IsMove s (out_candidate u) (One a (left_layout i (i + 1)))
        by None e reload = cc
        by (Some (Client place)) e reload = cc
        by (Some (Reload depot)) e reload =
            let within : i < length A = slice_get_within A i (Reload depot) e in
            let joint : joint_of (visit_before A i) (slice_get A (i + 1)) ≡ Keep = ap (λ (o : Option Visit). joint_of o (slice_get A (i + 1))) (before i some ∙ at_u) ∙ keeps (slice_get A (i + 1)) in
            let list : joined (slice_range A 0 i) (slice_range A (i + 1) (length A)) ≡ slice_range A 0 i ++ slice_range A (i + 1) (length A) =
            joined-gap A i (i + 1) room (omega arith) ∙ ap (λ (j : Joint). slice_range A 0 (left_by j i) ++ slice_range A (right_by j (i + 1)) (length A)) joint in
            move-one s sound (out_candidate u) a in_a (left_layout i (i + 1))
            (record {
              in_order = omega arith;
              right = omega arith;
              one = record { in_order = omega arith; in_list = omega arith };
              two = record { in_order = omega arith; in_list = omega arith };
              three = record { in_order = omega arith; in_list = omega arith };
            })
            (subst (MovesOne s.problem s.weights s.routes (out_candidate u) a) list
            (subst (λ (n : ℕ). MovesOne s.problem s.weights s.routes (out_candidate u) a (joined (slice_range A 0 n) (slice_range A (n + 1) (length A)))) here
            (reload-out-moves s.problem s.weights s.routes (out_candidate u) sound.lawful a (i - 1) u at_u depot (ap (slice_get A) here ∙ e) refl)))
            own

-- vehicles of no type may reload
pub no-types : (s : SearchState) → IsSound s → (u : ℕ) → some_type_reloads s.problem ≡ false → IsAnswerTo s (out_candidate u) None
no-types s sound u none = by (position_of s.routes u) refl
  where
    by : (o : Option (ℕ × ℕ)) → position_of s.routes u ≡ o → IsAnswerTo s (out_candidate u) None
    by None e = no-client s u e
    by (Some (a, i)) e =
        let there = stands-at s.routes u a i e in
        no-reload s u sound a i there.0 there.1 (not-in (list_at s.routes a) i (no-reloads s.problem s.routes a sound.lawful (vehicle-there s.routes u a (i - 1) there.1) none))
