use Rattle.std.proofs.Common.{ap}
use Rattle.genetic_model.specs.Population.{Population}
use Rattle.genetic.proofs.run.Run.empty.Goals as goal

pub returns-clause-running : goal.returns-clause-running
returns-clause-running g c = record {
  in_range = c.requires;
  same_descents = c.in_ok-descents.ensures;
  kept = c.new-3.ensures.kept c.args.given.now;
  same_sizes = ap (λ (x : Population). x.params) c.new-3.ensures.population;
}
