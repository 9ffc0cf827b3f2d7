use Rattle.joined_views.proofs.Folding.{fits, goes}
use Rattle.joined_views.proofs.open_run.OpenRun.follow.Goals as goal

pub join-requires-clause-fit : goal.join-requires-clause-fit
join-requires-clause-fit c = fits c.args.given.now c.args.vehicle_type.now c.args.self c.args.next c.args.first c.args.last c.requires.fit

pub returns-clause-goes : goal.returns-clause-goes
returns-clause-goes c = goes c.args.given.now c.args.vehicle_type.now c.args.self c.args.next c.args.first c.args.last c.join.result c.requires.last c.join.ensures.joins
