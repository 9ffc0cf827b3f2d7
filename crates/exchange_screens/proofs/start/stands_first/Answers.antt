use Rattle.exchange_screens.proofs.Starts.{no-start}
use Rattle.exchange_screens.proofs.start.stands_first.Goals as goal

pub returns-in-None : goal.returns-in-None
returns-in-None c = λ _. no-start c.args.search.now c.soundness.ensures c.args.client c.in-None.ensures
