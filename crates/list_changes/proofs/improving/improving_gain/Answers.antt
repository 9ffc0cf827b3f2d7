use Rattle.std.proofs.Common.{◌≡◌, ◌+◌, ◌≤◌, true, sym, subst, arith}
use Rattle.routing_model.specs.Lawful.{is_lawful}
use Rattle.new_lists.specs.declared.new_list.NewLists.{NewLists}
use Rattle.new_lists.specs.Improvements as new
use Rattle.new_lists.specs.NewLists.{AreNewLists, plan_of}
use Rattle.new_lists.specs.Reads as parts
use Rattle.list_changes.proofs.LaidNewLists.{are-new-lists, lawful-lists, no-more-reads, of-lists}
use Rattle.list_changes.proofs.improving.improving_gain.Goals as goal

pub improving_gain-requires-clause-lists : goal.improving_gain-requires-clause-lists
improving_gain-requires-clause-lists c = subst (AreNewLists c.args.search.now) (sym c.lists_of.ensures) (are-new-lists c.args.search.now c.args.change c.requires.laid)

pub improving_gain-requires-clause-lawful : goal.improving_gain-requires-clause-lawful
improving_gain-requires-clause-lawful c =
    let s = c.args.search.now in
    subst (λ (lists : NewLists). is_lawful s.problem (plan_of s.routes lists) ≡ true) (sym c.lists_of.ensures) (lawful-lists s c.args.change c.requires.lawful)

pub returns-clause-gain : goal.returns-clause-gain
returns-clause-gain c =
    let s = c.args.search.now in
    of-lists s c.args.change c.improving_gain.result (subst (λ (lists : NewLists). new.IsImprovement s lists c.improving_gain.result) c.lists_of.ensures c.improving_gain.ensures.gain)

pub returns-clause-reads : goal.returns-clause-reads
returns-clause-reads c =
    let s = c.args.search.now in
    let few = no-more-reads s c.args.change in
    let read = subst (λ (lists : NewLists). c.improving_gain.new.reads ≤ c.args.reads.now + parts.improve_reads s lists) c.lists_of.ensures c.improving_gain.ensures.reads.most in
    record { kept = c.improving_gain.ensures.reads.kept; most = omega (arith, few, read) }
