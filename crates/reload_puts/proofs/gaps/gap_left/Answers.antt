use Rattle.std.proofs.Common.{◌+◌, List, subst}
use Rattle.problem_data.specs.declared.visit.Visit.{Visit}
use Rattle.list_changes.specs.Gaps.{IsGap}
use Rattle.reload_puts.proofs.gaps.gap_left.Goals as goal

pub returns : goal.returns
returns c = subst (λ (xs : List Visit). IsGap xs c.args.seats.position (c.args.seats.position + 1) c.gap_of.result) c.route.ensures.visits c.gap_of.ensures
