-- Candidates that never apply: to the start before a client that doesn't stand first, putting in a client that is visited, and swapping the
-- lists of two vehicles of one type.
use Rattle.std.proofs.Common.{◌≡◌, ℕ, zero, suc, ◌==◌, Bool, true, false, not, ◌&&◌, ◌||◌, cond, List, [], ◌∷◌, ◌++◌, Option, Some, None, refl, ap, arith}
use Rattle.std.specs.Prelude.{find, option_and_then, unwrap_or}
use Rattle.std.specs.List.{list_any}
use Rattle.std.proofs.lemmas.Bool.Decides.{nat_tests}
use Rattle.list_words.specs.Lists.{is_in}
use Rattle.problem_data.specs.declared.problem.Problem.{Problem}
use Rattle.problem_data.specs.declared.visit.Visit.{Visit}
use Rattle.problem_data.specs.declared.visit.Visit.TheVariants.{Client}
use Rattle.problem_data.specs.Places.{type_of}
use Rattle.routing_model.specs.declared.weights.Weights.{Weights}
use Rattle.routing_model.specs.Routes.{Routes, has_client, is_used, is_visit_of, is_visited, list_at}
use Rattle.search_model.specs.declared.candidate.Candidate.{Candidate}
use Rattle.search_model.specs.declared.candidate.Candidate.TheVariants.{Node, Routes as Pair}
use Rattle.search_model.specs.declared.candidate.Target.{Target}
use Rattle.search_model.specs.declared.candidate.Target.TheVariants.{After, Empty, StartOf}
use Rattle.search_model.specs.declared.kind.Kind.{Kind}
use Rattle.search_model.specs.declared.kind.Kind.TheVariants.{DepotAfter, DepotBefore, Exchange10, Exchange11, Exchange20, Exchange21, Exchange22, Exchange30, Exchange31, Exchange32, Exchange33, Insert, Remove, RemoveDepot, Replace, SwapRoutes, SwapStar, SwapTails}
use Rattle.search_model.specs.Clients.{inserted}
use Rattle.search_model.specs.Edits.{begins_with, following, list_with, piece, substituted, up_to, vehicle_of}
use Rattle.search_model.specs.Exchange.{exchanged, tails_swapped, two_set}
use Rattle.search_model.specs.Moves.{if_lawful, made, made_to}
use Rattle.search_model.specs.RouteMoves.{are_two_vehicles, both_set, is_used_or_least}
use Rattle.search_model.specs.Targets.{put_before, put_to}
use Rattle.gain_model.specs.Operators.{bettered}
use Rattle.gain_model.proofs.OperatorAnswers.{answer-none}

-- the list with a client doesn't begin with it where no list does
begins-none : (v : ℕ) (routes : Routes) → list_any (begins_with v) routes ≡ false → begins_with v (list_with routes v) ≡ false
begins-none v [] h = refl
begins-none v (xs ∷ routes) h = by (begins_with v xs) refl h (has_client v xs) (λ k. begins-none v routes k)
  where
    by : (t : Bool) → begins_with v xs ≡ t → (t || list_any (begins_with v) routes) ≡ false → (s : Bool) → (list_any (begins_with v) routes ≡ false → begins_with v (list_with routes v) ≡ false) →
        begins_with v (unwrap_or (cond s (Some xs) (find (has_client v) routes)) []) ≡ false
    by true e k s later = cc
    by false e k true later = e
    by false e k false later = later k

module _ (p : Problem) (w : Weights) (routes : Routes) where
  -- what doesn't apply gives nothing
  nothing-made : (c : Candidate) → made p w routes c ≡ None → bettered p w routes c ≡ None
  nothing-made c e = answer-none p w routes c (ap (option_and_then (if_lawful p)) e)

  module _ (v : ℕ) (other : list_any (begins_with v) routes ≡ false) where
    not-put : (clients : List ℕ) → put_to p routes clients (StartOf v) ≡ None
    not-put clients = ap (λ (b : Bool). cond (b && not (is_in clients v)) (Some (substituted (put_before v clients) routes)) None) other

    not-exchanged : (n m u : ℕ) → exchanged p routes n m u (StartOf v) ≡ None
    not-exchanged n (suc m) u = refl
    not-exchanged n zero u = by (piece routes n u)
      where
        by : (o : Option (List ℕ)) → option_and_then (λ us. put_to p routes us (StartOf v)) o ≡ None
        by None = refl
        by (Some us) = not-put us

    not-inserted : (u : ℕ) → inserted p routes u (StartOf v) ≡ None
    not-inserted u = by (is_visited routes u)
      where
        by : (b : Bool) → cond b None (put_to p routes (u ∷ []) (StartOf v)) ≡ None
        by true = refl
        by false = not-put (u ∷ [])

    not-tails : (u : ℕ) → tails_swapped p routes u (StartOf v) ≡ None
    not-tails u =
        ap (λ (b : Bool). cond b (two_set routes (vehicle_of routes u) (up_to u (list_with routes u) ++ list_with routes v) (vehicle_of routes v) (following u (list_with routes u))) None)
        (begins-none v routes other)

    not-made : (kind : Kind) (u : ℕ) → made_to p w routes kind u (StartOf v) ≡ None
    not-made Exchange10 u = not-exchanged 1 0 u
    not-made Exchange20 u = not-exchanged 2 0 u
    not-made Exchange30 u = not-exchanged 3 0 u
    not-made Exchange11 u = not-exchanged 1 1 u
    not-made Exchange21 u = not-exchanged 2 1 u
    not-made Exchange31 u = not-exchanged 3 1 u
    not-made Exchange22 u = not-exchanged 2 2 u
    not-made Exchange32 u = not-exchanged 3 2 u
    not-made Exchange33 u = not-exchanged 3 3 u
    not-made SwapTails u = not-tails u
    not-made DepotBefore u = refl
    not-made DepotAfter u = refl
    not-made RemoveDepot u = refl
    not-made Insert u = not-inserted u
    not-made Remove u = refl
    not-made Replace u = refl
    not-made SwapRoutes u = refl
    not-made SwapStar u = refl

    -- nothing goes to the start before a client that doesn't stand first
    pub no-start : (kind : Kind) (u : ℕ) → bettered p w routes (Node kind u (StartOf v)) ≡ None
    no-start kind u = nothing-made (Node kind u (StartOf v)) (not-made kind u)

  module _ (u : ℕ) (visited : is_visited routes u ≡ true) where
    -- a client that is visited isn't put in
    pub no-insertion : (target : Target) → bettered p w routes (Node Insert u target) ≡ None
    no-insertion target = nothing-made (Node Insert u target) (ap (λ (b : Bool). cond b None (put_to p routes (u ∷ []) target)) visited)

    -- and takes no other's place
    pub no-replacement : (target : Target) → bettered p w routes (Node Replace u target) ≡ None
    no-replacement target = nothing-made (Node Replace u target) (by target)
      where
        by : (target : Target) → made_to p w routes Replace u target ≡ None
        by (After v) =
            ap (λ (b : Bool). cond (not b && is_visited routes v) (Some (substituted (λ (visit : Visit). cond (is_visit_of v visit) (Client u ∷ []) (visit ∷ [])) routes)) None) visited
        by (StartOf v) = refl
        by (Empty type) = refl

  -- vehicles of one type don't swap their lists
  pub same_type_nothing : (i j : ℕ) → type_of p i ≡ type_of p j → bettered p w routes (Pair SwapRoutes i j) ≡ None
  same_type_nothing i j e =
      nothing-made (Pair SwapRoutes i j)
      (ap (λ (b : Bool). cond b (Some (both_set routes i (list_at routes j) j (list_at routes i))) None)
      (fails (are_two_vehicles p i j) (type_of p i == type_of p j) (is_used (list_at routes i) || is_used (list_at routes j)) (is_used_or_least p routes i) (is_used_or_least p routes j) (same (type_of p i) (type_of p j) e)))
    where
      same : (m n : ℕ) → m ≡ n → (m == n) ≡ true
      same m n e = grind (arith, nat_tests, e)

      fails : (a t x y z : Bool) → t ≡ true → (a && not t && x && y && z) ≡ false
      fails true true x y z e = refl
      fails false true x y z e = refl
      fails a false x y z e = cc
