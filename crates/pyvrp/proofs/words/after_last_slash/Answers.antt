use Rattle.pyvrp.proofs.Paths.{behind_slash, without_slash}
use Rattle.pyvrp.proofs.words.after_last_slash.Goals as goal

pub returns-in-Some : goal.returns-in-Some
returns-in-Some c = behind_slash c.args.path.now _ c.in-Some.name.now c.in-Some.ensures.cases

pub returns-in-None : goal.returns-in-None
returns-in-None c = without_slash c.args.path.now c.in-None.ensures.cases
