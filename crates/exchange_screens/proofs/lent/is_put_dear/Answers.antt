use Rattle.std.proofs.Common.{◌≤◌, subst}
use Rattle.list_changes.specs.declared.layout.Layout.{Layout}
use Rattle.list_changes.specs.Changes.{new_list}
use Rattle.list_changes.specs.Bounds.{overloaded}
use Rattle.exchange_screens.specs.inside.Lents.{layout_of}
use Rattle.list_changes.specs.Layouts.{left_layout}
use Rattle.exchange_screens.proofs.LookLaws.{two-dear, two-dear-far}
use Rattle.exchange_screens.proofs.lent.is_put_dear.Goals as goal

pub returns-then-paid-left_least-clause-dear : goal.returns-then-paid-left_least-clause-dear
returns-then-paid-left_least-clause-dear c = λ _.
    let lent = c.args.lent.now in
    two-dear-far c.args.search.now c.args.seat.now.vehicle lent.seat.vehicle (left_layout c.args.gap.left c.args.gap.right) (layout_of lent) c.requires.side c.requires.lent.side
    c.left_least.result c.near.result c.paid_over.result lent.paid c.left_least.ensures c.near.ensures c.paid_over.ensures c.requires.lent.goes c.if-paid-left_least.true

pub returns-then-paid-least-clause-dear : goal.returns-then-paid-least-clause-dear
returns-then-paid-least-clause-dear c = λ _.
    let lent = c.args.lent.now in
    two-dear-far c.args.search.now c.args.seat.now.vehicle lent.seat.vehicle (left_layout c.args.gap.left c.args.gap.right) (layout_of lent) c.requires.side c.requires.lent.side
    c.left_least-2.result c.far.result c.paid_over.result lent.paid c.left_least-2.ensures c.far.ensures.least c.paid_over.ensures c.requires.lent.goes c.if-paid-least.true

pub returns-clause-dear : goal.returns-clause-dear
returns-clause-dear c = λ enough.
    let s = c.args.search.now in
    let lent = c.args.lent.now in
    let a = c.args.seat.now.vehicle in
    let b = lent.seat.vehicle in
    two-dear s a b (left_layout c.args.gap.left c.args.gap.right) (layout_of lent) c.requires.side c.requires.lent.side c.left_least-2.result c.far.result c.paid_over.result lent.paid
    c.load_cost-load.result c.load_cost.result c.left_least-2.ensures c.far.ensures.least c.paid_over.ensures c.requires.lent.goes
    (subst (λ (layout : Layout). c.load_cost-load.result ≤ overloaded s a (new_list s.routes a b layout)) c.layout.ensures c.load_cost-load.ensures.least)
    (subst (λ (layout : Layout). c.load_cost.result ≤ overloaded s b (new_list s.routes b a layout)) c.layout-2.ensures c.load_cost.ensures.least)
    c.load_cost-load.ensures.small c.load_cost.ensures.small enough
