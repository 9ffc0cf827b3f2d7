use Rattle.std.proofs.Common.{◌≡◌, ◌∙◌, ◌<◌, ◌||◌, Bool, true, false, take, ap₂, sym, length, arith, List, [], subst, ℕ}
use Rattle.std.specs.List.{list_any}
use Rattle.std.proofs.lemmas.List.Folds.{list_any_at, list_any_more}
use Rattle.std.proofs.lemmas.List.{get_or-take, length-take}
use Rattle.routing_model.specs.Routes.{Routes, is_same_plan}
use Rattle.genetic_model.specs.Fitness.{item_at}
use Rattle.compared_plans.specs.Compared.{plans_in}
use Rattle.compared_plans.proofs.ComparedItems.{as-many, item-plan}
use Rattle.compared_plans.proofs.duplicates.is_duplicate.Goals as goal

-- the answer of a comparison, by the plans' places
compared : (plans : List Routes) (place earlier : ℕ) (one other : Routes) (b c : Bool) → one ≡ item_at plans place → other ≡ item_at plans earlier → b ≡ is_same_plan one other → b ≡ c →
    is_same_plan (item_at plans place) (item_at plans earlier) ≡ c
compared plans place earlier one other b c e f g h = sym (ap₂ (λ (x y : Routes). is_same_plan x y) e f) ∙ (sym g ∙ h)

pub returns-then-is_same_plan : goal.returns-then-is_same_plan
returns-then-is_same_plan c =
    let items = c.args.items.now in
    let plans = plans_in items in
    let place = c.args.place in
    let earlier = c.loop-earlier.earlier in
    let many = as-many items in
    let long = length-take place plans in
    let low : earlier < length (take place plans) = omega arith in
    let found = compared plans place earlier c.items-routes.result.now c.items.result.now c.is_same_plan.result true
    (c.items-routes.ensures ∙ sym (item-plan items place c.index-items-place.result c.requires)) (c.items.ensures ∙ sym (item-plan items earlier c.index-items-earlier.result (omega arith)))
    c.is_same_plan.ensures c.if-is_same_plan.true in
    sym (list_any_at (is_same_plan (item_at plans place)) (take place plans) earlier [] low
    (subst (λ (r : Routes). is_same_plan (item_at plans place) r ≡ true) (sym (get_or-take place plans earlier [] c.loop-earlier-test.true)) found))

neither : (a b : Bool) → a ≡ false → b ≡ false → (a || b) ≡ false
neither true b h k = h
neither false b h k = k

pub loop-earlier-preserved : goal.loop-earlier-preserved
loop-earlier-preserved c =
    let items = c.args.items.now in
    let plans = plans_in items in
    let place = c.args.place in
    let earlier = c.loop-earlier.earlier in
    let many = as-many items in
    let found = compared plans place earlier c.items-routes.result.now c.items.result.now c.is_same_plan.result false
    (c.items-routes.ensures ∙ sym (item-plan items place c.index-items-place.result c.requires)) (c.items.ensures ∙ sym (item-plan items earlier c.index-items-earlier.result (omega arith)))
    c.is_same_plan.ensures c.if-is_same_plan.false in
    list_any_more (is_same_plan (item_at plans place)) plans earlier [] (omega arith)
    ∙ neither (list_any (is_same_plan (item_at plans place)) (take earlier plans)) (is_same_plan (item_at plans place) (item_at plans earlier)) c.loop-earlier.invariant found
