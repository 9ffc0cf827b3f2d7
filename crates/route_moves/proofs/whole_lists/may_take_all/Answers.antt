use Rattle.std.proofs.Common.{◌≡◌, ◌∙◌, length, sym, ap, subst}
use Rattle.routing_model.specs.Routes.{list_at}
use Rattle.list_changes.specs.declared.layout.Span.{Span}
use Rattle.list_changes.specs.Layouts.{IsSpan}
use Rattle.tail_changes.specs.Reloading.{may_have, taken}
use Rattle.route_moves.proofs.WholeMoves.{whole-span, whole-taken, whole_span}
use Rattle.route_moves.proofs.whole_lists.may_take_all.Goals as goal

pub may_take-requires-clause-span : goal.may_take-requires-clause-span
may_take-requires-clause-span c =
    let s = c.args.search.now in
    let all : c.whole.result ≡ whole_span (length (list_at s.routes c.args.lender)) = c.whole.ensures ∙ ap whole_span c.size.ensures.size in
    subst (IsSpan (list_at s.routes c.args.lender)) (sym all) (whole-span (list_at s.routes c.args.lender))

pub returns : goal.returns
returns c =
    let s = c.args.search.now in
    let all : c.whole.result ≡ whole_span (length (list_at s.routes c.args.lender)) = c.whole.ensures ∙ ap whole_span c.size.ensures.size in
    c.may_take.ensures
    ∙ ap (λ (span : Span). may_have s c.args.vehicle (taken s.routes c.args.vehicle 0 c.args.lender span)) all
    ∙ ap (may_have s c.args.vehicle) (whole-taken s.routes c.args.vehicle c.args.lender)
