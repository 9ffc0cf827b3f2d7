use Rattle.std.proofs.Common.{◌≡◌, ◌+◌, ◌++◌, ◌<◌, ◌≤◌, List, length, get_or, drop, ap, ◌∙◌, arith}
use Rattle.problem_data.specs.declared.problem.VehicleType.{VehicleType}
use Rattle.solution_write.specs.inside.Lines.{used_of_type}
use Rattle.solution_write.proofs.LineLaws.{length-used_of_type, left-more, lines_left, used_from, used_from-more}
use Rattle.solution_write.proofs.solution.push_routes.Goals as goal

pub loop-type_number-preserved : goal.loop-type_number-preserved
loop-type_number-preserved c =
    let i = c.loop-type_number.type_number in
    let written = c.loop-type_number.written in
    let types = c.args.problem.now.types in
    let left = c.loop-type_number.left.now in
    let of_type = c.split_at.result.0.now in
    let rest = c.split_at.result.1.now in
    let t = c.vehicle_type-item.result in
    let listed = c.items-vehicle_type-items.ensures in
    let within : i < length types = omega (arith, ap (λ (ts : List VehicleType). length ts) listed) in
    let read : t ≡ get_or types i t = c.vehicle_type-item.is ∙ ap (λ (ts : List VehicleType). get_or ts i t) listed in
    let fits : t.count ≤ length left = omega arith in
    let split : used_from i (drop i types) left ≡ used_of_type i of_type ++ used_from (i + 1) (drop (i + 1) types) rest =
    rw (c.split_at.ensures.front, c.split_at.ensures.back) (used_from-more i types t left within read fits) in
    let few = length-used_of_type i of_type in
    let count = c.in_ok-written.ensures.count in
    record {
      text = lines_left c.args.problem.now (written + 1) (c.in_ok-written.written + 1) (used_of_type i of_type) (used_from (i + 1) (drop (i + 1) types) rest) _ _ _ _
          c.loop-type_number.invariant.text (omega arith) c.in_ok-written.ensures.text split;
      left = left-more i types t (length left) (length rest) within read c.loop-type_number.invariant.left c.split_at.ensures.back_len;
      written = omega arith;
    }
