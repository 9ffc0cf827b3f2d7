use Rattle.std.proofs.Common.{rules, w64, FitsSigned}
use Rattle.route_rings.proofs.Crossings.{crossing}
use Rattle.route_rings.proofs.direction.lies_left.Goals as goal

pub returns : goal.returns
returns c =
    let ux : FitsSigned w64 c.args.u.x = search rules in
    let uy : FitsSigned w64 c.args.u.y = search rules in
    let vx : FitsSigned w64 c.args.v.x = search rules in
    let vy : FitsSigned w64 c.args.v.y = search rules in
    crossing c.args.u.y c.args.v.x c.args.u.x c.args.v.y c.from.result c.from-2.result c.from-3.result c.from-4.result uy vx ux vy c.from.ensures c.from-2.ensures c.from-3.ensures c.from-4.ensures
