use Rattle.std.proofs.Common.{sym, ◌∙◌}
use Rattle.depot_moves.proofs.TriedPuts.{few-lawful, few-tried, lawful-lists, many-tried}
use Rattle.depot_moves.proofs.trial.gain_at.Goals as goal

pub returns-then-not-may_reload-clause-gain : goal.returns-then-not-may_reload-clause-gain
returns-then-not-may_reload-clause-gain c =
    let s = c.args.search.now in
    let few = few-lawful s c.soundness.ensures c.args.beside c.args.seats c.requires.seats c.args.depot c.requires.depot c.requires.allowed c.put_lists-lists.result c.put_lists-lists.ensures in
    many-tried s c.soundness.ensures c.args.beside c.args.seats c.requires.seats c.args.depot c.requires.depot c.requires.allowed c.put_lists-lists.result c.put_lists-lists.ensures
    (few ∙ (sym c.may_reload.ensures ∙ c.if-not-may_reload.true))

pub improving_gain-requires-clause-lists : goal.improving_gain-requires-clause-lists
improving_gain-requires-clause-lists c =
    let s = c.args.search.now in
    let few = few-lawful s c.soundness.ensures c.args.beside c.args.seats c.requires.seats c.args.depot c.requires.depot c.requires.allowed c.put_lists-lists.result c.put_lists-lists.ensures in
    lawful-lists s c.soundness.ensures c.put_lists-lists.result c.put_lists-lists.ensures.parts (few ∙ (sym c.may_reload.ensures ∙ c.if-not-may_reload.false))

pub improving_gain-requires-clause-lawful : goal.improving_gain-requires-clause-lawful
improving_gain-requires-clause-lawful c =
    let s = c.args.search.now in
    let few = few-lawful s c.soundness.ensures c.args.beside c.args.seats c.requires.seats c.args.depot c.requires.depot c.requires.allowed c.put_lists-lists.result c.put_lists-lists.ensures in
    few ∙ (sym c.may_reload.ensures ∙ c.if-not-may_reload.false)

pub returns-clause-gain : goal.returns-clause-gain
returns-clause-gain c =
    let s = c.args.search.now in
    let few = few-lawful s c.soundness.ensures c.args.beside c.args.seats c.requires.seats c.args.depot c.requires.depot c.requires.allowed c.put_lists-lists.result c.put_lists-lists.ensures in
    few-tried s c.soundness.ensures c.args.beside c.args.seats c.requires.seats c.args.depot c.requires.depot c.requires.allowed c.put_lists-lists.result c.put_lists-lists.ensures
    (few ∙ (sym c.may_reload.ensures ∙ c.if-not-may_reload.false)) c.improving_gain.result c.improving_gain.ensures.gain
