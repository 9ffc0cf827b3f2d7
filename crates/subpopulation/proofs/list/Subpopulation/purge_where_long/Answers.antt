use Rattle.std.proofs.Common.{◌-◌, ap, arith, length}
use Rattle.list_words.specs.Lists.{times}
use Rattle.genetic_model.specs.Population.{without_last_duplicate}
use Rattle.genetic_model.proofs.Purging.{worst-go}
use Rattle.subpopulation.specs.Kept.{plans_of}
use Rattle.subpopulation.proofs.list.Subpopulation.purge_where_long.Goals as goal

pub returns-then-len-most-clause-few : goal.returns-then-len-most-clause-few
returns-then-len-most-clause-few c =
    let plans = plans_of c.args.self.now in
    let least = c.args.params.min_pop_size in
    let short = worst-go c.args.given.now c.args.params c.args.weights least (times (length plans - least) without_last_duplicate plans) in
    let e = ap length c.purge.ensures.plans in
    omega arith
