-- The two parents, by the scores.
use Rattle.std.proofs.Common.{◌≡◌, ◌∙◌, ap, ap₂, ℕ, List}
use Rattle.problem_data.specs.declared.problem.Problem.{Problem}
use Rattle.vrp_num.specs.Words.{State}
use Rattle.random_model.specs.Draws.{Draw}
use Rattle.routing_model.specs.declared.weights.Weights.{Weights}
use Rattle.genetic_model.specs.Population.{Population}
use Rattle.genetic_model.specs.Selection.{Score, scores, second_parent, tournament}
use Rattle.population.specs.Populations.{AreSelected}
use Rattle.population.specs.inside.Seconds.{IsSecondParent}

-- two tournaments' draws with so many more
second-is : (p : Problem) (population : Population) (m : ℕ) (all right : List Score) (s : State) → all ≡ right → (first : ℕ) (now : State) →
    first ≡ (tournament all s).value → now ≡ (tournament all s).state →
    second_parent p population all first m now ≡ second_parent p population right (tournament right s).value m (tournament right s).state
second-is p population m all right s e first now f g =
    ap₂ (λ (n : ℕ) (t : State). second_parent p population all n m t) f g
    ∙ ap (λ (l : List Score). second_parent p population l (tournament l s).value m (tournament l s).state) e

-- what a second parent beside the first of the right scores gives
chosen : (p : Problem) (population : Population) (m : ℕ) (all right : List Score) (s : State) → all ≡ right → (first second : ℕ) (now after : State) →
    first ≡ (tournament all s).value → now ≡ (tournament all s).state → IsSecondParent p population all first m now second after →
    IsSecondParent p population right (tournament right s).value m (tournament right s).state second after
chosen p population m all right s e first second now after f g is =
    let draw = second-is p population m all right s e first now f g in
    record { place = is.place ∙ ap (λ (d : Draw ℕ). d.value) draw; state = is.state ∙ ap (λ (d : Draw ℕ). d.state) draw }

module _ (p : Problem) (w : Weights) (population : Population) (s : State) where
  -- these are selected
  pub selected-are : (all : List Score) → all ≡ scores p w population → (first second : ℕ) (now after : State) →
      first ≡ (tournament all s).value → now ≡ (tournament all s).state → IsSecondParent p population all first 9 now second after →
      AreSelected p w population s (first, second) after
  selected-are all e first second now after f g is =
      let other = chosen p population 9 all (scores p w population) s e first second now after f g is in
      let one = f ∙ ap (λ (l : List Score). (tournament l s).value) e in
      record { parents = λ i. (one i, other.place i); state = other.state }
