use Rattle.std.proofs.Common.{◌≡◌, true, false, length, ◌∙◌, sym}
use Rattle.routing_model.specs.Routes.{list_at}
use Rattle.list_changes.specs.Layouts.{has_no_visit, left_layout}
use Rattle.exchange_screens.proofs.LookLaws.{least-none, least-some}
use Rattle.exchange_screens.proofs.lent.left_least.Goals as goal

pub returns-then-is_empty : goal.returns-then-is_empty
returns-then-is_empty c =
    let s = c.args.search.now in
    let seat = c.args.seat.now in
    let is = c.requires.seat in
    let none : has_no_visit (left_layout c.args.gap.left c.args.gap.right) (length (list_at s.routes seat.vehicle)) ≡ true =
    sym (λ i. has_no_visit (c.layout.ensures i) (is.size i)) ∙ (sym c.is_empty.ensures ∙ c.if-is_empty.true) in
    least-none s seat is c.args.lender (left_layout c.args.gap.left c.args.gap.right) c.requires.side none

pub returns : goal.returns
returns c =
    let s = c.args.search.now in
    let seat = c.args.seat.now in
    let is = c.requires.seat in
    let some : has_no_visit (left_layout c.args.gap.left c.args.gap.right) (length (list_at s.routes seat.vehicle)) ≡ false =
    sym (λ i. has_no_visit (c.layout.ensures i) (is.size i)) ∙ (sym c.is_empty.ensures ∙ c.if-is_empty.false) in
    least-some s seat is c.args.lender (left_layout c.args.gap.left c.args.gap.right) c.requires.side some c.args.far c.coming.result c.requires.far c.coming.ensures.least c.coming.ensures.small
