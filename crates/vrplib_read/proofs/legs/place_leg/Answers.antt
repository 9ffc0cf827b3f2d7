use Rattle.std.proofs.Common.{◌≤◌, ◌*◌, ◌^◌, rules, w64}
use Rattle.std.specs.Int.RustNames.{FitsSigned}
use Rattle.std.proofs.lemmas.Int.{to_z-of_z}
use Rattle.vrplib_read.proofs.LegBounds.{leg_within}
use Rattle.vrplib_read.proofs.legs.place_leg.Goals as goal

within : (c : goal.After-euclid) → c.euclid.result ≤ 4 * 10 ^ 9
within c =
    let ax : FitsSigned w64 c.args.a.now.x = search rules in
    let ay : FitsSigned w64 c.args.a.now.y = search rules in
    let bx : FitsSigned w64 c.args.b.now.x = search rules in
    let by : FitsSigned w64 c.args.b.now.y = search rules in
    leg_within c.args.mode (c.args.a.now.x, c.args.a.now.y) (c.args.b.now.x, c.args.b.now.y) c.euclid.result
    (c.requires.a.x, c.requires.a.y) (c.requires.b.x, c.requires.b.y) (simp to_z-of_z at c.euclid.ensures.is)

pub overflow_cast-result : goal.overflow_cast-result
overflow_cast-result c = let small = within c in search rules

pub returns-clause-bound : goal.returns-clause-bound
returns-clause-bound c = within c
