use Rattle.std.proofs.Common.{◌≡◌, ◌∙◌, ℕ, [], ap}
use Rattle.routing_model.specs.declared.weights.Weights.{Weights}
use Rattle.routing_model.specs.Routes.{Routes}
use Rattle.random_model.specs.Draws.{Draw}
use Rattle.genetic_model.specs.Fitness.{item_at}
use Rattle.genetic_model.specs.Population.{items_of}
use Rattle.genetic_model.specs.RouteExchange.{exchange}
use Rattle.genetic_model.specs.Run.{offspring}
use Rattle.genetic_model.specs.Selection.{selected}
use Rattle.population.specs.Populations.{population_of}
use Rattle.genetic.specs.inside.Runs.{reached}
use Rattle.genetic.proofs.run.Run.offspring.Goals as goal

pub exchange-requires-clause-first : goal.exchange-requires-clause-first
exchange-requires-clause-first c = c.item.ensures.lawful c.args.self.now.given.now c.requires.running.kept

pub exchange-requires-clause-second : goal.exchange-requires-clause-second
exchange-requires-clause-second c = c.item-2.ensures.lawful c.args.self.now.given.now c.requires.running.kept

pub returns-clause-child : goal.returns-clause-child
returns-clause-child c =
    let s = c.args.self.now in
    let p = s.given.now in
    let weights = c.weights-weights.ensures.weights in
    let parents : (c.in_ok-first.first, c.in_ok-first.second) ≡ (selected p s.penalties.weights (population_of s.population) s.generator).value =
    c.in_ok-first.ensures.ok.parents ∙ ap (λ (w : Weights). (selected p w (population_of s.population) s.generator).value) weights in
    let state : c.select.new.words ≡ (selected p s.penalties.weights (population_of s.population) s.generator).state =
    c.in_ok-first.ensures.ok.state ∙ ap (λ (w : Weights). (selected p w (population_of s.population) s.generator).state) weights in
    let one = c.item.ensures.plan ∙ ap (λ (x : ℕ × ℕ). item_at (items_of (population_of s.population)) x.0) parents in
    let two = c.item-2.ensures.plan ∙ ap (λ (x : ℕ × ℕ). item_at (items_of (population_of s.population)) x.1) parents in
    let drawn : exchange p c.weights-weights.result c.item.result.now.routes c.item-2.result.now.routes c.select.new.words ≡ offspring p (reached s []) =
    (λ i. exchange p (weights i) (one i) (two i) (state i)) in
    (c.in_ok-child.ensures.child ∙ ap (λ (d : Draw Routes). d.value) drawn, c.in_ok-child.ensures.state ∙ ap (λ (d : Draw Routes). d.state) drawn)
