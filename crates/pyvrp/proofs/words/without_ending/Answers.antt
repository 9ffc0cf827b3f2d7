use Rattle.pyvrp.proofs.Paths.{ending_taken, no_ending}
use Rattle.pyvrp.proofs.words.without_ending.Goals as goal

pub returns-in-Some : goal.returns-in-Some
returns-in-Some c = ending_taken c.args.path.now c.in-Some.name.now c.in-Some.ensures.cases

pub returns-in-None : goal.returns-in-None
returns-in-None c = no_ending c.args.path.now c.in-None.ensures.cases
