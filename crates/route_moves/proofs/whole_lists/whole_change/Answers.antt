use Rattle.std.proofs.Common.{◌≡◌, ◌∙◌, length, sym, ap₂, subst}
use Rattle.routing_model.specs.Routes.{list_at}
use Rattle.list_changes.specs.declared.change.Change.TheVariants.{Two}
use Rattle.list_changes.specs.declared.layout.Layout.{Layout}
use Rattle.route_moves.specs.inside.Wholes.{IsWholeChange, whole_layout}
use Rattle.route_moves.proofs.WholeMoves.{whole-changes, whole-refused}
use Rattle.route_moves.proofs.whole_lists.whole_change.Goals as goal

pub returns-then-not-may_reload : goal.returns-then-not-may_reload
returns-then-not-may_reload c =
    whole-refused c.args.search.now c.soundness.ensures c.args.first c.args.second (sym c.may_swap.ensures ∙ c.if-not-may_swap.false) (sym c.may_reload.ensures ∙ c.if-not-may_reload.true)

pub returns : goal.returns
returns c =
    let s = c.args.search.now in
    let i = c.args.first in
    let j = c.args.second in
    let m = length (list_at s.routes i) in
    let n = length (list_at s.routes j) in
    let one : c.replaced.result ≡ whole_layout m n = c.replaced.ensures ∙ ap₂ whole_layout c.size-going.ensures.size c.size-coming.ensures.size in
    let two : c.replaced-2.result ≡ whole_layout n m = c.replaced-2.ensures ∙ ap₂ whole_layout c.size-coming.ensures.size c.size-going.ensures.size in
    subst (λ (l : Layout). IsWholeChange s i j (Two i j l c.replaced-2.result)) (sym one)
    (subst (λ (l : Layout). IsWholeChange s i j (Two i j (whole_layout m n) l)) (sym two)
    (whole-changes s c.soundness.ensures i j (sym c.may_swap.ensures ∙ c.if-not-may_swap.false) (sym c.may_reload.ensures ∙ c.if-not-may_reload.false)))
