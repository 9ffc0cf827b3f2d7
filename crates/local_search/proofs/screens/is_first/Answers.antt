use Rattle.local_search.proofs.NoMoves.{no-start}
use Rattle.local_search.proofs.screens.is_first.Goals as goal

pub returns-in-None : goal.returns-in-None
returns-in-None c = λ _ kind u. no-start c.args.search.now.problem c.args.search.now.weights c.args.search.now.routes c.args.client c.in-None.ensures kind u
