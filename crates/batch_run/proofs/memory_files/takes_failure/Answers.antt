use Rattle.std.proofs.Common.{sym}
use Rattle.std.proofs.lemmas.List.{drop-drop}
use Rattle.batch_run.proofs.memory_files.takes_failure.Goals as goal

pub returns-clause-counted : goal.returns-clause-counted
returns-clause-counted c = sym (drop-drop 1 c.args.calls.now c.args.failing.now)
