use Rattle.std.proofs.Common.{◌∙◌}
use Rattle.population.specs.Populations.{population_of}
use Rattle.population.proofs.SelectedPlans.{selected-are}
use Rattle.population.proofs.plans.Population.select.Goals as goal

pub returns-clause-ok : goal.returns-clause-ok
returns-clause-ok c =
    let scores = c.as_slice-all.ensures.value ∙ c.in_ok-scores.ensures.scores in
    selected-are c.args.given.now c.args.weights (population_of c.args.self.now) c.args.words.now c.as_slice-all.result.now scores c.tournament-first.result c.second_parent-second.result
    c.tournament-first.new.words c.second_parent-second.new.words
    c.tournament-first.ensures.place c.tournament-first.ensures.state c.second_parent-second.ensures.second
