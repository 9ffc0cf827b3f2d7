use Rattle.std.proofs.Common.{rules}
use Rattle.vrp_texts.specs.Printed.{solution_text}
use Rattle.solution_write.proofs.solution.write_solution.Goals as goal

pub returns : goal.returns
unfolding solution_text
returns c = search rules
