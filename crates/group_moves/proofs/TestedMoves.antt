-- What moves of one list make where a test holds, as new lists with one part and as answers.
use Rattle.std.proofs.Common.{◌≡◌, ℕ, ◌+◌, ◌<◌, ◌≤◌, Bool, true, false, ◌||◌, cond, List, [], ◌∷◌, length, set, refl, sym, ◌∙◌, ap, arith, Option, Some, None, slice_range}
use Rattle.std.specs.Prelude.{nat_eq, nat_le, option_and_then}
use Rattle.std.proofs.lemmas.Bool.Decides.{nat_tests}
use Rattle.std.proofs.lemmas.List.Folds.{list_any-append}
use Rattle.list_words.specs.Lists.{is_in}
use Rattle.problem_data.specs.declared.visit.Visit.{Visit}
use Rattle.problem_data.specs.declared.visit.Visit.TheVariants as visit
use Rattle.problem_data.specs.Places.{is_client_place, vehicle_count}
use Rattle.routing_model.specs.Lawful.{IsLawful, is_lawful}
use Rattle.routing_model.specs.Routes.{Routes, has_client, is_visit_of, list_at}
use Rattle.routing_model.specs.Tidy.{tidied, tidied_routes}
use Rattle.routing_model.proofs.LawfulAgain.{times-tidied}
use Rattle.routing_model.proofs.LawfulFacts.{lawful-facts}
use Rattle.routing_model.proofs.VisitCounts.{has_client-count}
use Rattle.search_model.specs.declared.candidate.Candidate.{Candidate}
use Rattle.search_model.specs.Moves.{if_lawful, made}
use Rattle.search_model.proofs.ClientMoves.{MovesIf}
use Rattle.search_model.proofs.RunMoves.{with_run}
use Rattle.gain_model.specs.declared.part.Part.{Part}
use Rattle.gain_model.specs.CandidateVehicles.{both, listed}
use Rattle.gain_model.specs.MoveReads.{profile_of}
use Rattle.gain_model.proofs.ListsOfPlans.{list_at-set, list_at-tidied, named_list}
use Rattle.gain_model.proofs.OperatorAnswers.{answer-none}
use Rattle.move_core.specs.Searches.{IsSound, SearchState}
use Rattle.new_lists.specs.Moves.{IsAnswerTo, IsVehicleOf}
use Rattle.new_lists.specs.NewLists.{IsPart, list_of, list_with_part}
use Rattle.new_lists.specs.Reads.{foreign_visits, list_reads}
use Rattle.new_lists.proofs.MadeLists.{has-part, makes-one}
use Rattle.list_changes.proofs.NodeVehicles.{in-first, in-second}
use Rattle.group_moves.specs.inside.Lists.{MakesList}

-- a number is among two lists together, if it is in the second
pub in-both : (o : Option ℕ) (a : ℕ) → is_in (both (listed o) (a ∷ [])) a ≡ true
in-both None a = in-first a []
in-both (Some x) a = in-second x a

-- a list with one part, none of it from another profile, takes six legs
few-reads : (s : SearchState) (v left : ℕ) (part : Part) (right : ℕ) → foreign_visits s v part ≡ 0 → list_reads s (list_with_part v left part right) ≤ 6
few-reads s v left part right none = by (nat_eq (profile_of s.problem v) (profile_of s.problem v)) (foreign_visits s v part) none
  where
    by : (b : Bool) (n : ℕ) → n ≡ 0 → 6 + n + cond b 0 0 + cond b 0 0 ≤ 6
    by true n e = omega (arith, e)
    by false n e = omega (arith, e)

module _ (s : SearchState) (sound : IsSound s) (candidate : Candidate) where
  module _ (v left : ℕ) (part : Part) (right : ℕ) (test : Bool) (lost won : ℕ)
      (moves : MovesIf s.problem s.weights s.routes candidate v (list_of s.routes (list_with_part v left part right)) test lost won) where
    abbrev xs : List Visit
    xs = list_of s.routes (list_with_part v left part right)

    pub tested-makes : test ≡ true → v < vehicle_count s.problem → left ≤ length (list_at s.routes v) → right ≤ length (list_at s.routes v) → IsPart s part → foreign_visits s v part ≡ 0 →
        IsVehicleOf s candidate v → MakesList s candidate (list_with_part v left part right)
    tested-makes holds in_range left_in right_in is none own = record {
      makes = makes-one s sound candidate (list_with_part v left part right) (has-part s v left part right in_range left_in right_in is)
          (moves.makes ∙ ap (λ (b : Bool). cond b (Some (set s.routes v xs)) None) holds) (moves.lawful ∙ holds) own;
      few = few-reads s v left part right none;
    }

    pub tested-none : test ≡ false → IsAnswerTo s candidate None
    tested-none fails = answer-none s.problem s.weights s.routes candidate (moves.makes ∙ ap (λ (b : Bool). cond b (Some (set s.routes v xs)) None) fails)

  -- what isn't a client's place can't be visited
  module _ (a k m u : ℕ) (in_a : a < length s.routes) (order : k ≤ m) (inside : m ≤ length (list_at s.routes a)) (no_client : is_client_place s.problem u ≡ false)
      (makes : made s.problem s.weights s.routes candidate ≡ Some (set s.routes a (with_run (list_at s.routes a) k m (visit.Client u ∷ [])))) where
    abbrev ys : List Visit
    ys = with_run (list_at s.routes a) k m (visit.Client u ∷ [])

    abbrev plan : Routes
    plan = set s.routes a ys

    stands : has_client u (list_at (tidied_routes plan) a) ≡ true
    stands =
        ap (has_client u) (list_at-tidied plan a ∙ ap tidied (list_at-set s.routes a ys in_a))
        ∙ has_client-count u (tidied ys)
        ∙ ap (nat_le 1) (times-tidied u false ys)
        ∙ sym (has_client-count u ys)
        ∙ list_any-append (is_visit_of u) (slice_range (list_at s.routes a) 0 k) (visit.Client u ∷ slice_range (list_at s.routes a) m (length (list_at s.routes a)))
        ∙ ap (λ (b : Bool). has_client u (slice_range (list_at s.routes a) 0 k) || (b || has_client u (slice_range (list_at s.routes a) m (length (list_at s.routes a))))) itself
        ∙ or-yes (has_client u (slice_range (list_at s.routes a) 0 k))
      where
        itself : is_visit_of u (visit.Client u) ≡ true
        itself = grind (arith, nat_tests)

        or-yes : (b : Bool) → (b || true) ≡ true
        or-yes true = refl
        or-yes false = refl

    unlawful : is_lawful s.problem (tidied_routes plan) ≡ false
    unlawful = by (is_lawful s.problem (tidied_routes plan)) refl
      where
        by : (b : Bool) → is_lawful s.problem (tidied_routes plan) ≡ b → is_lawful s.problem (tidied_routes plan) ≡ false
        by false e = e
        by true e =
            let facts : IsLawful s.problem (tidied_routes plan) = lawful-facts s.problem (tidied_routes plan) e in
            let z : true ≡ false = sym (named_list s.problem u (tidied_routes plan) a facts.names_places stands) ∙ no_client in
            absurd (let w : ⊥ = cc in w)

    pub unnamed-none : IsAnswerTo s candidate None
    unnamed-none =
        answer-none s.problem s.weights s.routes candidate
        (ap (option_and_then (if_lawful s.problem)) makes ∙ ap (λ (b : Bool). cond b (Some (tidied_routes plan)) None) unlawful)
