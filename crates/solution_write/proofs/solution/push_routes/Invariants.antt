use Rattle.std.proofs.Common.{◌≡◌, ◌+◌, ◌≤◌, ◌++◌, string_bytes, drop, length}
use Rattle.vrp_texts.specs.Printed.{route_lines_from, used_by_type}
use Rattle.solution_write.proofs.LineLaws.{types_from, used_from}
use Rattle.solution_write.proofs.solution.push_routes.Given as goal

-- the text, followed by the lines of the vehicles that are left, is the whole
abbrev pub invariant-loop-type_number : goal.invariant-loop-type_number
invariant-loop-type_number l = record {
  text : string_bytes l.text ++ route_lines_from l.problem (l.written + 1) (used_from l.type_number (drop l.type_number l.problem.types) l.left)
      ≡ string_bytes l.initial.text ++ route_lines_from l.problem 1 (used_by_type l.problem l.routes);
  left : length l.left ≡ length (types_from l.type_number (drop l.type_number l.problem.types));
  written : l.written + length l.left ≤ length l.routes;
}
