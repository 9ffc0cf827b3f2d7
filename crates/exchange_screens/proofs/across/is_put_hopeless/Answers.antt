use Rattle.std.proofs.Common.{◌+◌, ◌-◌, List, subst}
use Rattle.problem_data.specs.declared.visit.Visit.{Visit}
use Rattle.list_changes.specs.Gaps.{IsGap}
use Rattle.exchange_screens.proofs.DearTrials.{dear-answer}
use Rattle.exchange_screens.proofs.LookedTrials.{is-put, put-change, put-none}
use Rattle.exchange_screens.proofs.across.is_put_hopeless.Goals as goal

pub returns-in_default-clause-hopeless : goal.returns-in_default-clause-hopeless
returns-in_default-clause-hopeless c = λ _.
    let r = c.requires in
    put-none c.args.search.now c.soundness.ensures c.args.u c.args.v r.u r.v c.args.n r.some r.few (rw c.in_default.is at r.taken_u)

pub is_put_dear-requires-clause-side : goal.is_put_dear-requires-clause-side
is_put_dear-requires-clause-side c =
    let r = c.requires in
    let one = rw c.in-Some.is at r.taken_u in
    let gone = subst (λ (xs : List Visit). IsGap xs (c.args.u.place - 1) (c.args.u.place - 1 + c.args.n) c.gap_of-gap.result) c.route.ensures.visits c.gap_of-gap.ensures in
    (put-change c.args.search.now c.soundness.ensures c.args.u c.args.v r.u r.v c.args.n r.some r.few r.apart one.there c.gap_of-gap.result gone).move.laid.first_side

pub is_put_dear-requires-clause-lent : goal.is_put_dear-requires-clause-lent
is_put_dear-requires-clause-lent c =
    let r = c.requires in
    let one = rw c.in-Some.is at r.taken_u in
    let gone = subst (λ (xs : List Visit). IsGap xs (c.args.u.place - 1) (c.args.u.place - 1 + c.args.n) c.gap_of-gap.result) c.route.ensures.visits c.gap_of-gap.ensures in
    let change = put-change c.args.search.now c.soundness.ensures c.args.u c.args.v r.u r.v c.args.n r.some r.few r.apart one.there c.gap_of-gap.result gone in
    is-put c.args.search.now c.args.u c.args.v r.u r.v c.args.n c.args.paid c.args.come r.paid r.some r.come change.move.laid.second_side

pub returns-clause-hopeless : goal.returns-clause-hopeless
returns-clause-hopeless c = λ dear.
    let r = c.requires in
    let one = rw c.in-Some.is at r.taken_u in
    let gone = subst (λ (xs : List Visit). IsGap xs (c.args.u.place - 1) (c.args.u.place - 1 + c.args.n) c.gap_of-gap.result) c.route.ensures.visits c.gap_of-gap.ensures in
    dear-answer c.args.search.now _ _ (put-change c.args.search.now c.soundness.ensures c.args.u c.args.v r.u r.v c.args.n r.some r.few r.apart one.there c.gap_of-gap.result gone) (c.is_put_dear.ensures.dear dear)
