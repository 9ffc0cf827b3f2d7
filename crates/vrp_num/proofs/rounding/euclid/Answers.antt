use Rattle.std.proofs.Common.{rules, arith, ◌^◌, ◌<◌}
use Rattle.vrp_num.specs.Rounding.{square, IsDistance}
use Rattle.vrp_num.proofs.RoundingLaws.{distance_is_one, distance_is}
use Rattle.vrp_num.proofs.rounding.euclid.Goals as goal

pub returns-in-Round-clause-value : goal.returns-in-Round-clause-value
returns-in-Round-clause-value c =
    let mode = c.args.mode in
    let a = c.args.a in
    let b = c.args.b in
    let bound : square mode a b < 2 ^ 128 = omega (arith, c.square-square.ensures.value, c.square-square.ensures.bound) in
    let is : IsDistance mode a b c.nearest_root.result = search rules in
    distance_is_one mode a b _ _ is (distance_is mode a b bound)

pub returns-in-Trunc-clause-value : goal.returns-in-Trunc-clause-value
returns-in-Trunc-clause-value c =
    let mode = c.args.mode in
    let a = c.args.a in
    let b = c.args.b in
    let bound : square mode a b < 2 ^ 128 = omega (arith, c.square-square.ensures.value, c.square-square.ensures.bound) in
    let is : IsDistance mode a b c.cut_root.result = search rules in
    distance_is_one mode a b _ _ is (distance_is mode a b bound)
