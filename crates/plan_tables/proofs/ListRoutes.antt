-- Routes made one after the other, of a plan's lists.
use Rattle.std.proofs.Common.{◌≡◌, ℕ, ◌+◌, ◌<◌, ◌⊎◌, inl, inr, List, [], ◌∷◌, ◌++◌, length, take, get_or, refl, sym, ◌∙◌, ap, arith}
use Rattle.std.proofs.lemmas.Grind.{common_steps}
use Rattle.std.proofs.lemmas.List.{length-map, length-take-le, take_more}
use Rattle.problem_data.specs.declared.problem.Problem.{Problem}
use Rattle.problem_data.specs.declared.visit.Visit.{Visit}
use Rattle.routing_model.specs.Routes.{Routes}
use Rattle.route_cache.specs.Routes.{RouteState}
use Rattle.plan_tables.specs.Routes.{AreRoutes, AreRoutesOf, lists_of}

before_or_last : (k n : ℕ) → k < n + 1 → (k < n) ⊎ (k ≡ n)
before_or_last k n h = grind arith

lists-more : (states : List RouteState) (r : RouteState) → lists_of (states ++ r ∷ []) ≡ lists_of states ++ r.visits ∷ []
lists-more [] r = refl
lists-more (x ∷ states) r = ap (λ (rest : Routes). x.visits ∷ rest) (lists-more states r)

at_last : (states : List RouteState) (r none : RouteState) → get_or (states ++ r ∷ []) (length states) none ≡ r
at_last states r none = grind (arith, common_steps)

at_before : (states : List RouteState) (r none : RouteState) (k : ℕ) → k < length states → get_or (states ++ r ∷ []) k none ≡ get_or states k none
at_before states r none k h = grind (arith, common_steps)

one_more : (states : List RouteState) (r : RouteState) → length (states ++ r ∷ []) ≡ length states + 1
one_more states r = grind (arith, common_steps)

are-more : (p : Problem) (states : List RouteState) (r : RouteState) → AreRoutes p states → r.problem ≡ p → r.vehicle ≡ length states → AreRoutes p (states ++ r ∷ [])
are-more p states r are problem vehicle = record {
  problems = λ k none h. at_problem k none (before_or_last k (length states) (omega (arith, one_more states r, h)));
  vehicles = λ k none h. at_vehicle k none (before_or_last k (length states) (omega (arith, one_more states r, h)));
}
  where
    at_problem : (k : ℕ) (none : RouteState) → (k < length states) ⊎ (k ≡ length states) → (get_or (states ++ r ∷ []) k none).problem ≡ p
    at_problem k none (inl h) = ap (λ (s : RouteState). s.problem) (at_before states r none k h) ∙ are.problems k none h
    at_problem k none (inr e) = ap (λ (n : ℕ). (get_or (states ++ r ∷ []) n none).problem) e ∙ ap (λ (s : RouteState). s.problem) (at_last states r none) ∙ problem

    at_vehicle : (k : ℕ) (none : RouteState) → (k < length states) ⊎ (k ≡ length states) → (get_or (states ++ r ∷ []) k none).vehicle ≡ k
    at_vehicle k none (inl h) = ap (λ (s : RouteState). s.vehicle) (at_before states r none k h) ∙ are.vehicles k none h
    at_vehicle k none (inr e) = ap (λ (n : ℕ). (get_or (states ++ r ∷ []) n none).vehicle) e ∙ ap (λ (s : RouteState). s.vehicle) (at_last states r none) ∙ vehicle ∙ sym e

pub routes-more : (p : Problem) (lists : Routes) (i : ℕ) (none : List Visit) (states : List RouteState) (r : RouteState) → i < length lists → AreRoutesOf p (take i lists) states → r ≡ record { problem = p; vehicle = i; visits = get_or lists i none } →
    AreRoutesOf p (take (i + 1) lists) (states ++ r ∷ [])
routes-more p lists i none states r near are is =
    let many : length states ≡ i = sym (length-map states (λ (s : RouteState). s.visits)) ∙ ap length are.are_lists ∙ taken lists i near in
    record {
      are_lists =
          lists-more states r
          ∙ ap (λ (xs : Routes). xs ++ r.visits ∷ []) are.are_lists
          ∙ ap (λ (visits : List Visit). take i lists ++ visits ∷ []) (ap (λ (s : RouteState). s.visits) is)
          ∙ sym (take_more lists i none near);
      are_routes = are-more p states r are.are_routes (ap (λ (s : RouteState). s.problem) is) (ap (λ (s : RouteState). s.vehicle) is ∙ sym many);
    }
  where
    taken : (xs : Routes) (n : ℕ) → n < length xs → length (take n xs) ≡ n
    taken xs n h = length-take-le n xs (omega arith)
