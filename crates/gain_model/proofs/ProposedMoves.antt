-- From the proposal of a move's new lists to an operator's answer: the proposal speaks of the plan, what its gain makes is the move's
-- plan, and a gain below 0 is the answer; none is where the new lists cost no less.
use Rattle.std.proofs.Common.{◌≡◌, ◌≢◌, ℕ, ◌+◌, ◌<◌, ◌≤◌, ◌⊎◌, Bool, true, false, ◌||◌, List, [], ◌∷◌, length, set, refl, sym, ◌∙◌, ap, inl, inr, arith, subst, Option, Some, None, ℤ, pos, ◌-ℤ◌, ◌+ℤ◌, ◌<ℤ◌, ◌≤ℤ◌}
use Rattle.std.specs.Prelude.{All, IfSome, IsFalse, nat_eq}
use Rattle.std.proofs.lemmas.Bool.Decides.{nat_tests}
use Rattle.std.proofs.lemmas.Int.{ints}
use Rattle.std.proofs.lemmas.List.Elements.{All-cons}
use Rattle.std.proofs.lemmas.Option.{slice_get-get_or}
use Rattle.list_words.specs.Lists.{is_in}
use Rattle.problem_data.specs.declared.problem.Problem.{Problem}
use Rattle.problem_data.specs.declared.visit.Visit.{Visit}
use Rattle.routing_model.specs.declared.weights.Weights.{Weights}
use Rattle.routing_model.specs.Cost.{solution_cost}
use Rattle.routing_model.specs.Lawful.{is_lawful}
use Rattle.routing_model.specs.Routes.{Routes, has_client, list_at}
use Rattle.routing_model.proofs.ListChanges.{cost_with}
use Rattle.search_model.specs.declared.candidate.Candidate.{Candidate}
use Rattle.search_model.specs.Moves.{moved}
use Rattle.search_model.proofs.ClientPlaces.{list-read}
use Rattle.search_model.proofs.ExchangeMoves.{MovesOne, MovesTwo}
use Rattle.search_model.proofs.RunMoves.{lawful-once}
use Rattle.gain_model.specs.Gains.{GainState}
use Rattle.gain_model.specs.Operators.{HasItsVehicles, IsEvaluation}
use Rattle.gain_model.specs.Proposals.{IsGainOf, IsListedIn, IsRightFor, Lender, Proposed, SpeaksOf, with_lists}
use Rattle.gain_model.proofs.ListsOfPlans.{length-slice_set, list_at-set, list_at-set_other, lawful_one_list}
use Rattle.gain_model.proofs.OperatorAnswers.{answer-dear, answer-some}

-- a vehicle and its list in a plan
abbrev pub lender_at : Routes → ℕ → Lender
lender_at routes vehicle = record { vehicle = vehicle; list = list_at routes vehicle }

pub listed-at : (routes : Routes) (vehicle : ℕ) → vehicle < length routes → IsListedIn routes (lender_at routes vehicle)
listed-at routes vehicle there = slice_get-get_or routes vehicle [] there ∙ ap (λ (xs : List Visit). Some xs) (sym (list-read routes vehicle))

-- what is proposed for one vehicle, and for two
abbrev pub proposed_one : Routes → ℕ → List Visit → List Lender → Proposed
proposed_one routes a xs lenders = record { sides = lender_at routes a ∷ []; lenders = lenders; lists = xs ∷ [] }

abbrev pub proposed_two : Routes → ℕ → ℕ → List Visit → List Visit → List Lender → Proposed
proposed_two routes a b xs ys lenders = record { sides = lender_at routes a ∷ lender_at routes b ∷ []; lenders = lenders; lists = xs ∷ ys ∷ [] }

same : (v : ℕ) → nat_eq v v ≡ true
same v = grind (arith, nat_tests)

itself : (v : ℕ) (rest : List ℕ) → is_in (v ∷ rest) v ≡ true
itself v rest = ap (λ (b : Bool). b || is_in rest v) (same v)

module _ (p : Problem) (routes : Routes) (lawful : is_lawful p routes ≡ true) where
  module _ (a : ℕ) (xs : List Visit) (lenders : List Lender) (in_a : a < length routes) (new_lawful : is_lawful p (set routes a xs) ≡ true) (lent : All (IsListedIn routes) lenders) where
    -- a client of the new list stands in no other list
    elsewhere-one : (c v : ℕ) → has_client c xs ≡ true → v ≢ a → has_client c (list_at routes v) ≡ false
    elsewhere-one c v there other = by (has_client c (list_at routes v)) refl
      where
        by : (b : Bool) → has_client c (list_at routes v) ≡ b → b ≡ false
        by false e = refl
        by true e = absurd (other (lawful_one_list p (set routes a xs) new_lawful c v a
            (ap (has_client c) (list_at-set_other routes a v xs (λ k. other (sym k))) ∙ e) (ap (has_client c) (list_at-set routes a xs in_a) ∙ there)))

    pub speaks-one : SpeaksOf (proposed_one routes a xs lenders) routes
    speaks-one = record {
      once = lawful-once p routes lawful;
      listed = All-cons (IsListedIn routes) (lender_at routes a) lenders (listed-at routes a in_a) lent;
      not_elsewhere = λ c v there other. elsewhere-one c v (or-last (has_client c xs) there) (λ e. apart v e other);
    }
      where
        or-last : (b : Bool) → (b || false) ≡ true → b ≡ true
        or-last true h = refl
        or-last false h = h

        apart : (v : ℕ) → v ≡ a → IsFalse (is_in (a ∷ []) v) → ⊥
        apart v e other = let k : true ≡ false = sym (itself v []) ∙ ap (λ (n : ℕ). is_in (n ∷ []) v) e ∙ other in cc

  module _ (a b : ℕ) (xs ys : List Visit) (lenders : List Lender) (in_a : a < length routes) (in_b : b < length routes) (apart : b ≢ a)
      (new_lawful : is_lawful p (set (set routes a xs) b ys) ≡ true) (lent : All (IsListedIn routes) lenders) where
    first-at : list_at (set (set routes a xs) b ys) a ≡ xs
    first-at = list_at-set_other (set routes a xs) b a ys apart ∙ list_at-set routes a xs in_a

    second-at : list_at (set (set routes a xs) b ys) b ≡ ys
    second-at = list_at-set (set routes a xs) b ys (let e = length-slice_set routes a xs in omega arith)

    kept-at : (v : ℕ) → v ≢ a → v ≢ b → list_at (set (set routes a xs) b ys) v ≡ list_at routes v
    kept-at v n m = list_at-set_other (set routes a xs) b v ys (λ k. m (sym k)) ∙ list_at-set_other routes a v xs (λ k. n (sym k))

    elsewhere-two : (c v : ℕ) → ((has_client c xs ≡ true) ⊎ (has_client c ys ≡ true)) → v ≢ a → v ≢ b → has_client c (list_at routes v) ≡ false
    elsewhere-two c v there n m = by (has_client c (list_at routes v)) refl there
      where
        by : (b' : Bool) → has_client c (list_at routes v) ≡ b' → ((has_client c xs ≡ true) ⊎ (has_client c ys ≡ true)) → b' ≡ false
        by false e k = refl
        by true e (inl k) = absurd (n (lawful_one_list p (set (set routes a xs) b ys) new_lawful c v a (ap (has_client c) (kept-at v n m) ∙ e) (ap (has_client c) first-at ∙ k)))
        by true e (inr k) = absurd (m (lawful_one_list p (set (set routes a xs) b ys) new_lawful c v b (ap (has_client c) (kept-at v n m) ∙ e) (ap (has_client c) second-at ∙ k)))

    pub speaks-two : SpeaksOf (proposed_two routes a b xs ys lenders) routes
    speaks-two = record {
      once = lawful-once p routes lawful;
      listed =
          All-cons (IsListedIn routes) (lender_at routes a) (lender_at routes b ∷ lenders) (listed-at routes a in_a)
          (All-cons (IsListedIn routes) (lender_at routes b) lenders (listed-at routes b in_b) lent);
      not_elsewhere = λ c v there other. elsewhere-two c v (either (has_client c xs) (has_client c ys) there) (λ e. not-first v e other) (λ e. not-second v e other);
    }
      where
        either : (x y : Bool) → (x || (y || false)) ≡ true → (x ≡ true) ⊎ (y ≡ true)
        either true y h = inl refl
        either false true h = inr refl
        either false false h = cc

        not-first : (v : ℕ) → v ≡ a → IsFalse (is_in (a ∷ b ∷ []) v) → ⊥
        not-first v e other = let k : true ≡ false = sym (itself v (b ∷ [])) ∙ ap (λ (n : ℕ). is_in (n ∷ b ∷ []) v) e ∙ other in cc

        later : (x y : Bool) → y ≡ true → (x || y) ≡ true
        later true y h = refl
        later false y h = h

        not-second : (v : ℕ) → v ≡ b → IsFalse (is_in (a ∷ b ∷ []) v) → ⊥
        not-second v e other =
            let last : is_in (b ∷ []) v ≡ true = sym (ap (λ (n : ℕ). is_in (n ∷ []) v) e) ∙ itself v [] in
            let k : true ≡ false = sym (later (nat_eq v a) (is_in (b ∷ []) v) last) ∙ other in cc

-- the plans with the new lists
pub lists-one : (routes : Routes) (a : ℕ) (xs : List Visit) (lenders : List Lender) → with_lists (proposed_one routes a xs lenders) routes ≡ set routes a xs
lists-one routes a xs lenders = refl

pub lists-two : (routes : Routes) (a b : ℕ) (xs ys : List Visit) (lenders : List Lender) → with_lists (proposed_two routes a b xs ys lenders) routes ≡ set (set routes a xs) b ys
lists-two routes a b xs ys lenders = refl

-- What improving a proposal finds: a gain of it that is below 0; or none, where no plan of which it speaks costs less with the new lists.
abbrev pub IsImprovement : Problem → Weights → Proposed → Option GainState → Type 0
IsImprovement p w proposed (Some gain) = IsGainOf p w proposed gain × (gain.amount <ℤ pos 0)
IsImprovement p w proposed None = (routes : Routes) → SpeaksOf proposed routes → solution_cost p w routes ≤ solution_cost p w (with_lists proposed routes)

module _ (p : Problem) (w : Weights) (routes : Routes) (candidate : Candidate) where
  no-fall : (m n : ℕ) → n ≤ m → pos 0 ≤ℤ (pos m -ℤ pos n)
  no-fall m n h = omega (arith, ints)

  -- a proposal that speaks of the plan, of the lists that the candidate makes of it
  pub answer-proposed : (proposed : Proposed) (new : Routes) → SpeaksOf proposed routes → with_lists proposed routes ≡ new → moved p w routes candidate ≡ Some new →
      (found : Option GainState) → IfSome found (HasItsVehicles p routes candidate) → IsImprovement p w proposed found → IsEvaluation p w routes candidate found
  answer-proposed proposed new speaks is makes (Some gain) its found =
      let right : IsRightFor p w proposed gain routes = found.0 routes speaks in
      answer-some p w routes candidate gain right.within (makes ∙ ap (λ (rs : Routes). Some rs) (sym (right.makes ∙ is))) right.amount found.1 its
  answer-proposed proposed new speaks is makes None its found =
      answer-dear p w routes candidate new makes
      (no-fall (solution_cost p w new) (solution_cost p w routes) (subst (λ (rs : Routes). solution_cost p w routes ≤ solution_cost p w rs) is (found routes speaks)))

  module _ (lawful : is_lawful p routes ≡ true) where
    -- one list changed
    pub answer-one : (a : ℕ) (xs : List Visit) (lenders : List Lender) → a < length routes → MovesOne p w routes candidate a xs → All (IsListedIn routes) lenders →
        (found : Option GainState) → IfSome found (HasItsVehicles p routes candidate) → IsImprovement p w (proposed_one routes a xs lenders) found → IsEvaluation p w routes candidate found
    answer-one a xs lenders in_a moves lent found its improves =
        answer-proposed (proposed_one routes a xs lenders) (set routes a xs) (speaks-one p routes lawful a xs lenders in_a moves.lawful lent) refl moves.makes found its improves

    -- two lists changed
    pub answer-two : (a b : ℕ) (xs ys : List Visit) (lenders : List Lender) → a < length routes → b < length routes → b ≢ a → MovesTwo p w routes candidate a b xs ys →
        All (IsListedIn routes) lenders → (found : Option GainState) → IfSome found (HasItsVehicles p routes candidate) → IsImprovement p w (proposed_two routes a b xs ys lenders) found → IsEvaluation p w routes candidate found
    answer-two a b xs ys lenders in_a in_b apart moves lent found its improves =
        answer-proposed (proposed_two routes a b xs ys lenders) (set (set routes a xs) b ys) (speaks-two p routes lawful a b xs ys lenders in_a in_b apart moves.lawful lent)
        refl moves.makes found its improves

  -- no gain, where the new lists cost no less than the old ones
  pub dear-one : (a : ℕ) (xs : List Visit) → MovesOne p w routes candidate a xs → cost_with p w a (list_at routes a) ≤ cost_with p w a xs → IsEvaluation p w routes candidate None
  dear-one a xs moves dear =
      answer-dear p w routes candidate (set routes a xs) moves.makes
      (by (pos (solution_cost p w (set routes a xs)) -ℤ pos (solution_cost p w routes)) (cost_with p w a xs) (cost_with p w a (list_at routes a)) moves.amount dear)
    where
      by : (z : ℤ) (m n : ℕ) → z ≡ pos m -ℤ pos n → n ≤ m → pos 0 ≤ℤ z
      by z m n e h = omega (arith, ints)

  pub dear-two : (a b : ℕ) (xs ys : List Visit) → MovesTwo p w routes candidate a b xs ys →
      cost_with p w a (list_at routes a) + cost_with p w b (list_at routes b) ≤ cost_with p w a xs + cost_with p w b ys → IsEvaluation p w routes candidate None
  dear-two a b xs ys moves dear =
      answer-dear p w routes candidate (set (set routes a xs) b ys) moves.makes
      (by (pos (solution_cost p w (set (set routes a xs) b ys)) -ℤ pos (solution_cost p w routes)) (cost_with p w a xs) (cost_with p w b ys)
      (cost_with p w a (list_at routes a)) (cost_with p w b (list_at routes b)) moves.amount dear)
    where
      by : (z : ℤ) (m n k l : ℕ) → z ≡ (pos m +ℤ pos n) -ℤ (pos k +ℤ pos l) → k + l ≤ m + n → pos 0 ≤ℤ z
      by z m n k l e h = omega (arith, ints)
