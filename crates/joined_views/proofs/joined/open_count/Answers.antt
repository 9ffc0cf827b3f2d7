use Rattle.std.proofs.Common.{sym, ◌∙◌}
use Rattle.joined_views.proofs.SideRuns.{open-all, open-less}
use Rattle.joined_views.proofs.joined.open_count.Goals as goal

pub returns-then-is_ended : goal.returns-then-is_ended
returns-then-is_ended c = sym (open-less c.args.views.now (sym c.is_ended.ensures ∙ c.if-is_ended.true))

pub returns-else-is_ended : goal.returns-else-is_ended
returns-else-is_ended c = sym (open-all c.args.views.now (sym c.is_ended.ensures ∙ c.if-is_ended.false))
