use Rattle.penalty_cost.proofs.TestedPlaces.{visited-by_count}
use Rattle.penalty_cost.proofs.lawful.is_visited.Goals as goal

pub returns : goal.returns
returns c = λ routes h. visited-by_count routes c.args.place _ (h.at c.args.place c.requires)
