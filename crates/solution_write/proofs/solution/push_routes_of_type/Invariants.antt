use Rattle.std.proofs.Common.{◌≡◌, ◌+◌, ◌++◌, string_bytes, take, length}
use Rattle.vrp_texts.specs.Printed.{route_lines_from}
use Rattle.solution_write.specs.inside.Lines.{used_of_type}
use Rattle.solution_write.proofs.solution.push_routes_of_type.Given as goal

-- the lines of the first vehicles are added
abbrev pub invariant-loop-visits : goal.invariant-loop-visits
invariant-loop-visits l = record {
  text : string_bytes l.text ≡ string_bytes l.initial.text ++ route_lines_from l.problem (l.written + 1) (used_of_type l.type_number (take l.visits-index l.routes));
  count : l.count ≡ l.written + length (used_of_type l.type_number (take l.visits-index l.routes));
}
