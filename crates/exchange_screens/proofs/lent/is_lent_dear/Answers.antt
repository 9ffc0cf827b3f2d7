use Rattle.std.proofs.Common.{◌≤◌, subst}
use Rattle.list_changes.specs.declared.layout.Layout.{Layout}
use Rattle.list_changes.specs.Changes.{new_list}
use Rattle.list_changes.specs.Bounds.{overloaded}
use Rattle.exchange_screens.specs.inside.Lents.{layout_of}
use Rattle.exchange_screens.proofs.LookLaws.{two-dear, two-dear-far}
use Rattle.exchange_screens.proofs.lent.is_lent_dear.Goals as goal

pub returns-then-paid-near-clause-dear : goal.returns-then-paid-near-clause-dear
returns-then-paid-near-clause-dear c = λ _.
    let one = c.args.one.now in
    let two = c.args.two.now in
    two-dear-far c.args.search.now one.seat.vehicle two.seat.vehicle (layout_of one) (layout_of two) c.requires.one.side c.requires.two.side c.near.result c.near-2.result one.paid two.paid
    c.near.ensures c.near-2.ensures c.requires.one.goes c.requires.two.goes c.if-paid-near.true

pub returns-then-paid-least-clause-dear : goal.returns-then-paid-least-clause-dear
returns-then-paid-least-clause-dear c = λ _.
    let one = c.args.one.now in
    let two = c.args.two.now in
    two-dear-far c.args.search.now one.seat.vehicle two.seat.vehicle (layout_of one) (layout_of two) c.requires.one.side c.requires.two.side c.far.result c.far-2.result one.paid two.paid
    c.far.ensures.least c.far-2.ensures.least c.requires.one.goes c.requires.two.goes c.if-paid-least.true

pub returns-clause-dear : goal.returns-clause-dear
returns-clause-dear c = λ enough.
    let s = c.args.search.now in
    let one = c.args.one.now in
    let two = c.args.two.now in
    let a = one.seat.vehicle in
    let b = two.seat.vehicle in
    two-dear s a b (layout_of one) (layout_of two) c.requires.one.side c.requires.two.side c.far.result c.far-2.result one.paid two.paid c.load_cost-load.result c.load_cost.result
    c.far.ensures.least c.far-2.ensures.least c.requires.one.goes c.requires.two.goes
    (subst (λ (layout : Layout). c.load_cost-load.result ≤ overloaded s a (new_list s.routes a b layout)) c.layout.ensures c.load_cost-load.ensures.least)
    (subst (λ (layout : Layout). c.load_cost.result ≤ overloaded s b (new_list s.routes b a layout)) c.layout-2.ensures c.load_cost.ensures.least)
    c.load_cost-load.ensures.small c.load_cost.ensures.small enough
