use Rattle.recording_operators.proofs.own_run.OwnRun.child.Goals as goal

pub exchange-requires-clause-first : goal.exchange-requires-clause-first
exchange-requires-clause-first c = c.item.ensures.lawful c.args.self.now.given.now c.requires.own.kept

pub exchange-requires-clause-second : goal.exchange-requires-clause-second
exchange-requires-clause-second c = c.item-2.ensures.lawful c.args.self.now.given.now c.requires.own.kept
