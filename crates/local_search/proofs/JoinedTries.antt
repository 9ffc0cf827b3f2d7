-- Tries of some candidates and of others after them.
use Rattle.std.proofs.Common.{◌≡◌, ◌∙◌, ◌+◌, List, [], ◌∷◌, ◌++◌, refl, ap, Option, Some, None, cond}
use Rattle.std.specs.Prelude.{unwrap_or, filter}
use Rattle.std.specs.List.{AllByRecursion}
use Rattle.std.proofs.lemmas.List.Elements.{filter-append}
use Rattle.std.proofs.lemmas.List.Sums.{sum_by-append}
use Rattle.problem_data.specs.declared.problem.Problem.{Problem}
use Rattle.routing_model.specs.declared.weights.Weights.{Weights}
use Rattle.routing_model.specs.Cost.{solution_cost}
use Rattle.routing_model.specs.Routes.{Routes}
use Rattle.search_model.specs.declared.candidate.Candidate.{Candidate}
use Rattle.search_model.specs.declared.kind.Kind.{Kind}
use Rattle.search_model.specs.Descent.{Try, after_try, is_taken}
use Rattle.search_model.specs.Moves.{moved}
use Rattle.search_model.specs.Search.{is_of_kind, moves_of_kind}
use Rattle.gain_model.specs.Operators.{bettered}
use Rattle.local_search.specs.inside.Stages.{moves_of, plan_after, tries_of}

module _ (p : Problem) (w : Weights) where
  abbrev pub next : Routes → Candidate → Routes
  next plan c = after_try (moved p w) (solution_cost p w) plan c

  pub plan-append : (cs ds : List Candidate) (plan : Routes) → plan_after p w (cs ++ ds) plan ≡ plan_after p w ds (plan_after p w cs plan)
  plan-append [] ds plan = refl
  plan-append (c ∷ cs) ds plan = plan-append cs ds (next plan c)

  pub tries-append : (cs ds : List Candidate) (plan : Routes) → tries_of p w (cs ++ ds) plan ≡ tries_of p w cs plan ++ tries_of p w ds (plan_after p w cs plan)
  tries-append [] ds plan = refl
  tries-append (c ∷ cs) ds plan =
      let first : Try Routes Candidate = record { candidate = c; before = plan; made = bettered p w plan c } in
      ap (λ (ts : List (Try Routes Candidate)). first ∷ ts) (tries-append cs ds (next plan c))

  pub moves-append : (cs ds : List Candidate) (plan : Routes) → moves_of p w (cs ++ ds) plan ≡ moves_of p w cs plan ++ moves_of p w ds (plan_after p w cs plan)
  moves-append cs ds plan = ap (λ (ts : List (Try Routes Candidate)). filter is_taken ts) (tries-append cs ds plan) ∙ filter-append is_taken (tries_of p w cs plan) (tries_of p w ds (plan_after p w cs plan))

  pub kind-append : (kind : Kind) (cs ds : List Candidate) (plan : Routes) →
      moves_of_kind kind (moves_of p w (cs ++ ds) plan) ≡ moves_of_kind kind (moves_of p w cs plan) + moves_of_kind kind (moves_of p w ds (plan_after p w cs plan))
  kind-append kind cs ds plan = ap (λ (ts : List (Try Routes Candidate)). moves_of_kind kind ts) (moves-append cs ds plan)
      ∙ sum_by-append (λ (t : Try Routes Candidate). cond (is_of_kind kind t.candidate) 1 0) (moves_of p w cs plan) (moves_of p w ds (plan_after p w cs plan))

  -- candidates of which none gives anything
  abbrev pub AllNothing : List Candidate → Routes → Type 0
  AllNothing cs plan = AllByRecursion (λ (c : Candidate). bettered p w plan c ≡ None) cs

  pub nothing-plan : (cs : List Candidate) (plan : Routes) → AllNothing cs plan → plan_after p w cs plan ≡ plan
  nothing-plan [] plan h = refl
  nothing-plan (c ∷ cs) plan h =
      ap (λ (o : Option Routes). plan_after p w cs (unwrap_or o plan)) h.0 ∙ nothing-plan cs plan h.1

  pub nothing-moves : (cs : List Candidate) (plan : Routes) → AllNothing cs plan → moves_of p w cs plan ≡ []
  nothing-moves [] plan h = refl
  nothing-moves (c ∷ cs) plan h = by (bettered p w plan c) h.0 (nothing-moves cs plan h.1)
    where
      by : (o : Option Routes) → o ≡ None → moves_of p w cs plan ≡ [] → filter is_taken (record { candidate = c; before = plan; made = o } ∷ tries_of p w cs (unwrap_or o plan)) ≡ []
      by None e rest = rest
      by (Some made) e rest = cc
