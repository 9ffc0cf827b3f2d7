use Rattle.list_changes.proofs.BoundLaws.{two-no_less}
use Rattle.list_changes.proofs.screen.is_dear.Goals as goal

pub returns-else-paid-least-clause-dear : goal.returns-else-paid-least-clause-dear
returns-else-paid-least-clause-dear c = λ enough.
    rw c.in-Two.is (two-no_less c.args.search.now c.in-Two.first c.in-Two.second c.in-Two.one c.in-Two.two c.bound_of-bound.result c.bound_of-other.result
    c.load_cost.result c.load_cost-else-paid-least.result c.bound_of-bound.ensures.bound c.bound_of-other.ensures.bound
    c.load_cost.ensures.least c.load_cost-else-paid-least.ensures.least c.load_cost.ensures.small c.load_cost-else-paid-least.ensures.small enough)
