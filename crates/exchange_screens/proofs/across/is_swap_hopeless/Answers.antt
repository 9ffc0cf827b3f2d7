use Rattle.exchange_screens.proofs.LookedTrials.{behind, is-replaced, lent-answer, swap-change, swap-no_first, swap-no_second}
use Rattle.exchange_screens.proofs.across.is_swap_hopeless.Goals as goal

pub returns-in_default-clause-hopeless : goal.returns-in_default-clause-hopeless
returns-in_default-clause-hopeless c = λ _.
    let r = c.requires in
    swap-no_first c.args.search.now c.soundness.ensures c.args.u c.args.v r.u r.v c.args.n r.exchange.some r.exchange.few c.args.m r.other r.exchange.fewer (rw c.in_default.is at r.taken_u)

pub returns-in_default-taken_v-clause-hopeless : goal.returns-in_default-taken_v-clause-hopeless
returns-in_default-taken_v-clause-hopeless c = λ _.
    let r = c.requires in
    swap-no_second c.args.search.now c.soundness.ensures c.args.u c.args.v r.u r.v c.args.n r.exchange.some r.exchange.few c.args.m r.other r.exchange.fewer (rw c.in_default-taken_v.is at r.taken_v)

pub is_lent_dear-requires-clause-one : goal.is_lent_dear-requires-clause-one
is_lent_dear-requires-clause-one c =
    let r = c.requires in
    let one = rw c.in-Some.is at r.taken_u in
    let two = rw c.in-Some-taken_v.is at r.taken_v in
    let change = swap-change c.args.search.now c.soundness.ensures c.args.u c.args.v r.u r.v c.args.n r.exchange.some r.exchange.few r.apart c.args.m r.other r.exchange.fewer one.there two.there in
    rw (c.replaced-one.ensures, c.replaced-two.ensures)
    (is-replaced c.args.search.now c.args.u c.args.v r.u r.v c.args.n c.args.m c.in-Some.paid_u c.args.to_v one r.other r.to_v change.move.laid.first_side)

pub is_lent_dear-requires-clause-two : goal.is_lent_dear-requires-clause-two
is_lent_dear-requires-clause-two c =
    let r = c.requires in
    let one = rw c.in-Some.is at r.taken_u in
    let two = rw c.in-Some-taken_v.is at r.taken_v in
    let change = swap-change c.args.search.now c.soundness.ensures c.args.u c.args.v r.u r.v c.args.n r.exchange.some r.exchange.few r.apart c.args.m r.other r.exchange.fewer one.there two.there in
    rw (c.replaced-one.ensures, c.replaced-two.ensures)
    (is-replaced c.args.search.now c.args.v c.args.u r.v r.u c.args.m c.args.n c.in-Some-taken_v.paid_v c.args.to_u two r.exchange.some r.to_u change.move.laid.second_side)

pub returns-clause-hopeless : goal.returns-clause-hopeless
returns-clause-hopeless c = λ dear.
    let r = c.requires in
    let one = rw c.in-Some.is at r.taken_u in
    let two = rw c.in-Some-taken_v.is at r.taken_v in
    let change = swap-change c.args.search.now c.soundness.ensures c.args.u c.args.v r.u r.v c.args.n r.exchange.some r.exchange.few r.apart c.args.m r.other r.exchange.fewer one.there two.there in
    lent-answer c.args.search.now (behind c.args.n c.args.m c.args.u.client c.args.v.client) _ _ c.replaced-one.result c.replaced-two.result c.replaced-one.ensures c.replaced-two.ensures change
    (c.is_lent_dear.ensures.dear dear)
