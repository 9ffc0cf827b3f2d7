-- The least vehicle of a type that has no visit is the least unused one.
use Rattle.std.proofs.Common.{◌≡◌, ℕ, zero, suc, ◌+◌, ◌<◌, ◌≤◌, Bool, true, false, cond, ◌&&◌, List, [], ◌∷◌, length, map, get_or, refl, sym, ◌∙◌, ap, arith, subst, Option, Some, None, All, ◌⊎◌, inl, inr}
use Rattle.std.specs.Prelude.{◌==◌, find, not, option_map, slice_index}
use Rattle.std.specs.List.{enumerate_from}
use Rattle.std.proofs.lemmas.Bool.Decides.{nat_tests}
use Rattle.std.proofs.lemmas.List.{get_or-map, length-map}
use Rattle.problem_data.specs.declared.problem.Problem.{Problem}
use Rattle.problem_data.specs.declared.visit.Visit.{Visit}
use Rattle.problem_data.specs.Places.{type_of}
use Rattle.routing_model.specs.Listed.{IsListed}
use Rattle.routing_model.specs.Routes.{Routes, is_used}
use Rattle.routing_model.specs.declared.weights.Weights.{Weights}
use Rattle.route_cache.specs.Routes.{RouteState}
use Rattle.penalty_cost.proofs.UsedCosts.{tidy-used}
use Rattle.plan_tables.specs.declared.plan_tables.PlanTables.{PlanTables}
use Rattle.plan_tables.specs.Routes.{lists_of}
use Rattle.plan_tables.specs.Unused.{AreLeast, AreUnused, IsLeast, is_left}
use Rattle.plan_tables.specs.Tables.{HasPlanTables}
use Rattle.plan_tables.specs.Figures.{size_in}

-- the first number from one on, of so many, that passes
abbrev first_left : (ℕ → Bool) → ℕ → ℕ → Option ℕ
first_left left start zero = None
first_left left start (suc n) = cond (left start) (Some start) (first_left left (start + 1) n)

eq_or : (start v : ℕ) → start ≤ v → (start < v) ⊎ (start ≡ v)
eq_or start v h = grind arith

least_first : (left : ℕ → Bool) (start n v : ℕ) → start ≤ v → v < start + n → left v ≡ true → ((k : ℕ) → start ≤ k → k < v → left k ≡ false) → first_left left start n ≡ Some v
least_first left start zero v low high is least = absurd (omega arith)
least_first left start (suc n) v low high is least =
    by (eq_or start v low) (λ (h : start < v). least_first left (start + 1) n v (omega (arith, h)) (omega (arith, high)) is (λ k a b. least k (omega (arith, a)) b))
  where
    by : (start < v) ⊎ (start ≡ v) → (start < v → first_left left (start + 1) n ≡ Some v) → cond (left start) (Some start) (first_left left (start + 1) n) ≡ Some v
    by (inl h) later = ap (λ (b : Bool). cond b (Some start) (first_left left (start + 1) n)) (least start (omega arith) h) ∙ later h
    by (inr e) later = ap (λ (b : Bool). cond b (Some start) (first_left left (start + 1) n)) (ap left e ∙ is) ∙ ap (λ (k : ℕ). Some k) e

none_first : (left : ℕ → Bool) (start n : ℕ) → ((k : ℕ) → start ≤ k → k < start + n → left k ≡ false) → first_left left start n ≡ None
none_first left start zero absent = refl
none_first left start (suc n) absent =
    ap (λ (b : Bool). cond b (Some start) (first_left left (start + 1) n)) (absent start (omega arith) (omega arith))
    ∙ none_first left (start + 1) n (λ k a b. absent k (omega (arith, a)) (omega (arith, b)))

module _ (p : Problem) (type : ℕ) (left : ℕ → Bool) where
  found : (start : ℕ) (routes : Routes) → ((k : ℕ) → k < length routes → ((type_of p (start + k) == type) && not (is_used (get_or routes k []))) ≡ left (start + k)) →
      option_map (λ (e : ℕ × List Visit). e.0) (find (λ (e : ℕ × List Visit). (type_of p e.0 == type) && not (is_used e.1)) (enumerate_from start routes)) ≡ first_left left start (length routes)
  found start [] are = refl
  found start (xs ∷ routes) are =
      by ((type_of p start == type) && not (is_used xs)) (left start) here
      (found (start + 1) routes (λ k h. let e : start + 1 + k ≡ start + suc k = omega arith in
      subst (λ (n : ℕ). ((type_of p n == type) && not (is_used (get_or routes k []))) ≡ left n) (sym e) (are (suc k) (omega (arith, h)))))
    where
      here : ((type_of p start == type) && not (is_used xs)) ≡ left start
      here = let e : start + 0 ≡ start = omega arith in subst (λ (n : ℕ). ((type_of p n == type) && not (is_used xs)) ≡ left n) e (are 0 (omega arith))

      by : (b c : Bool) → b ≡ c →
          option_map (λ (e : ℕ × List Visit). e.0) (find (λ (e : ℕ × List Visit). (type_of p e.0 == type) && not (is_used e.1)) (enumerate_from (start + 1) routes)) ≡ first_left left (start + 1) (length routes) →
          option_map (λ (e : ℕ × List Visit). e.0) (cond b (Some (start, xs)) (find (λ (e : ℕ × List Visit). (type_of p e.0 == type) && not (is_used e.1)) (enumerate_from (start + 1) routes)))
          ≡ cond c (Some start) (first_left left (start + 1) (length routes))
      by true true e later = refl
      by true false e later = absurd (let never : ⊥ = cc in never)
      by false true e later = absurd (let never : ⊥ = cc in never)
      by false false e later = later

least_is : (p : Problem) (sizes : List ℕ) (type : ℕ) (r : Option ℕ) → IsLeast p sizes type r → r ≡ first_left (is_left p sizes type) 0 (length sizes)
least_is p sizes type None least = sym (none_first (is_left p sizes type) 0 (length sizes) (λ k a b. least k (omega (arith, b))))
least_is p sizes type (Some v) least = sym (least_first (is_left p sizes type) 0 (length sizes) v (omega arith) (omega (arith, least.inside)) least.left (λ k a b. least.least k b))

-- a list that a vehicle can have is used where it has a visit
used_by : (p : Problem) (visits : List Visit) → IsListed p visits → not (is_used visits) ≡ (length visits == 0)
used_by p [] listed = refl
used_by p (x ∷ visits) listed = ap not (tidy-used (x ∷ visits) (omega arith) listed.tidy) ∙ sym (not_zero (length visits))
  where
    not_zero : (n : ℕ) → (suc n == 0) ≡ false
    not_zero n = grind (arith, nat_tests)

pub unused-are : (p : Problem) (routes : Routes) (sizes : List ℕ) (unused : List (Option ℕ)) → length sizes ≡ length routes → ((k : ℕ) → k < length routes → slice_index sizes k ≡ length (get_or routes k [])) → All (IsListed p) routes →
    AreLeast p sizes unused → AreUnused p routes unused
unused-are p routes sizes unused count sized listed are = record {
  count = are.count;
  each = λ type none h.
      least_is p sizes type (get_or unused type none) (are.each type none h)
      ∙ ap (first_left (is_left p sizes type) 0) count
      ∙ sym (found p type (is_left p sizes type) 0 routes (λ k t.
      let e : 0 + k ≡ k = omega arith in
      subst (λ (n : ℕ). ((type_of p n == type) && not (is_used (get_or routes k []))) ≡ is_left p sizes type n) (sym e)
      (ap (λ (b : Bool). (type_of p k == type) && b) (used_by p (get_or routes k []) (listed k [] t) ∙ ap (λ (n : ℕ). n == 0) (sym (sized k t))))));
}

-- the same by what is kept of a plan
pub kept-unused : (p : Problem) (w : Weights) (states : List RouteState) (tables : PlanTables) → All (IsListed p) (lists_of states) → HasPlanTables p w states tables → AreUnused p (lists_of states) tables.unused.items
kept-unused p w states tables listed has = unused-are p (lists_of states) sizes tables.unused.items count sized listed has.has_unused
  where
    sizes : List ℕ
    sizes = tables.sizes.items

    e : sizes ≡ map size_in states
    e = has.has_figures.are_sizes

    some : RouteState
    some = record { problem = p; vehicle = 0; visits = [] }

    lists : length (lists_of states) ≡ length states
    lists = length-map states (λ (state : RouteState). state.visits)

    count : length sizes ≡ length (lists_of states)
    count = ap length e ∙ length-map states size_in ∙ sym lists

    sized : (k : ℕ) → k < length (lists_of states) → slice_index sizes k ≡ length (get_or (lists_of states) k [])
    sized k h =
        let near : k < length states = omega (arith, lists, h) in
        ap (λ (xs : List ℕ). get_or xs k 0) e
        ∙ get_or-map size_in states k some 0 near
        ∙ sym (ap length (get_or-map (λ (state : RouteState). state.visits) states k some [] near))
