use Rattle.std.proofs.Common.{◌≡◌, ◌∙◌, sym, ap, ℕ, suc, ◌+◌, ◌-◌, arith}
use Rattle.random_model.specs.Draws.{Draw}
use Rattle.genetic_model.specs.Selection.{is_diverse, second_parent}
use Rattle.population.specs.Populations.{population_of}
use Rattle.population.proofs.SecondParents.{passed_over, taken}
use Rattle.population.proofs.plans.Population.second_parent.Goals as goal

pub returns-then-is_diverse-clause-second : goal.returns-then-is_diverse-clause-second
returns-then-is_diverse-clause-second c =
    let p = c.args.given.now in
    let population = population_of c.args.self.now in
    let all = c.args.scores.now in
    let first = c.args.first in
    let m : ℕ = c.args.more - (c.loop-held._held + 1) in
    let left : c.args.more - c.loop-held._held ≡ suc m = omega arith in
    let diverse = ap (is_diverse p population first) (sym c.tournament-second.ensures.place) ∙ (sym c.is_diverse.ensures ∙ c.if-is_diverse.true) in
    let whole = c.loop-held.invariant ∙ (ap (λ (n : ℕ). second_parent p population all first n c.loop-held.words) left ∙ taken p population all first m c.loop-held.words diverse) in
    record {
      place = c.tournament-second.ensures.place ∙ ap (λ (d : Draw ℕ). d.value) (sym whole);
      state = c.tournament-second.ensures.state ∙ ap (λ (d : Draw ℕ). d.state) (sym whole);
    }

pub loop-held-preserved : goal.loop-held-preserved
loop-held-preserved c =
    let p = c.args.given.now in
    let population = population_of c.args.self.now in
    let all = c.args.scores.now in
    let first = c.args.first in
    let m : ℕ = c.args.more - (c.loop-held._held + 1) in
    let left : c.args.more - c.loop-held._held ≡ suc m = omega arith in
    let alike = ap (is_diverse p population first) (sym c.tournament-second.ensures.place) ∙ (sym c.is_diverse.ensures ∙ c.if-is_diverse.false) in
    c.loop-held.invariant ∙ (ap (λ (n : ℕ). second_parent p population all first n c.loop-held.words) left
    ∙ (passed_over p population all first m c.loop-held.words alike ∙ ap (second_parent p population all first m) (sym c.tournament-second.ensures.state)))

pub returns-clause-second : goal.returns-clause-second
returns-clause-second c =
    let p = c.args.given.now in
    let population = population_of c.args.self.now in
    let all = c.args.scores.now in
    let first = c.args.first in
    let left : c.args.more - c.loop-held._held ≡ 0 = omega arith in
    let whole = c.loop-held.invariant ∙ ap (λ (n : ℕ). second_parent p population all first n c.loop-held.words) left in
    record {
      place = c.tournament.ensures.place ∙ ap (λ (d : Draw ℕ). d.value) (sym whole);
      state = c.tournament.ensures.state ∙ ap (λ (d : Draw ℕ). d.state) (sym whole);
    }
