use Rattle.std.proofs.Common.{◌≡◌, List, length, ap, arith}
use Rattle.problem_data.specs.declared.visit.Visit.{Visit}
use Rattle.list_changes.proofs.LoadLaws.{gone-part, load-laid}
use Rattle.list_changes.proofs.load.laid_load.Goals as goal

pub without-requires : goal.without-requires
without-requires c =
    let route = c.args.route.now in
    let long : length c.visits.result.now ≡ length route.visits = ap (λ (xs : List Visit). length xs) c.visits.ensures.visits in
    gone-part route.visits c.args.lender.now.visits c.args.layout c.requires.layout route.problem c.args.lender.now.problem c.requires.problem (length c.visits.result.now) (omega arith)
    c.load_of-whole.result c.load_of-gone.result c.load_of-one.result c.load_of-two.result c.load_of-three.result
    c.load_of-whole.ensures.load c.load_of-gone.ensures.load c.load_of-one.ensures.load c.load_of-two.ensures.load c.load_of-three.ensures.load

pub returns-clause-load : goal.returns-clause-load
returns-clause-load c =
    let route = c.args.route.now in
    let long : length c.visits.result.now ≡ length route.visits = ap (λ (xs : List Visit). length xs) c.visits.ensures.visits in
    load-laid route.visits c.args.lender.now.visits c.args.layout c.requires.layout route.problem c.args.lender.now.problem c.requires.problem (length c.visits.result.now) (omega arith)
    c.load_of-whole.result c.load_of-gone.result c.load_of-one.result c.load_of-two.result c.load_of-three.result
    c.load_of-whole.ensures.load c.load_of-gone.ensures.load c.load_of-one.ensures.load c.load_of-two.ensures.load c.load_of-three.ensures.load
    c.without.result c.without.ensures
