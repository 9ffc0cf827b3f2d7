use Rattle.route_moves.proofs.StarMoves.{first-few, second-few}
use Rattle.route_moves.proofs.star_lists.lists_of.Goals as goal

pub list_with-requires-clause-goes : goal.list_with-requires-clause-goes
list_with-requires-clause-goes c = (first-few c.args.search.now c.soundness.ensures c.args.first c.args.second c.requires.may c.args.pair c.requires).0

pub list_with-requires-clause-place : goal.list_with-requires-clause-place
list_with-requires-clause-place c = (first-few c.args.search.now c.soundness.ensures c.args.first c.args.second c.requires.may c.args.pair c.requires).1

pub list_with-requires-2-clause-goes : goal.list_with-requires-2-clause-goes
list_with-requires-2-clause-goes c = (second-few c.args.search.now c.soundness.ensures c.args.first c.args.second c.requires.may c.args.pair c.requires).0

pub list_with-requires-2-clause-place : goal.list_with-requires-2-clause-place
list_with-requires-2-clause-place c = (second-few c.args.search.now c.soundness.ensures c.args.first c.args.second c.requires.may c.args.pair c.requires).1
