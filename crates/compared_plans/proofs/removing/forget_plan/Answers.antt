use Rattle.std.proofs.Common.{◌≡◌, ◌∙◌, ◌+◌, ◌<◌, ◌≤◌, List, ℕ, ap, arith, get_or, length, nat_lt, subst, sym}
use Rattle.std.specs.Prelude.{Contains}
use Rattle.list_words.specs.Order.{put_in_order}
use Rattle.problem_data.specs.declared.problem.Problem.{Problem}
use Rattle.routing_model.specs.Routes.{Routes}
use Rattle.genetic_model.specs.BrokenPairs.{broken_pairs}
use Rattle.genetic_model.specs.Fitness.{item_at, nearest}
use Rattle.plan_differences.specs.declared.flanks.Flanks.{Flanks}
use Rattle.plan_differences.specs.Beside.{AreFlanks}
use Rattle.compared_plans.specs.declared.item.ComparedPlan.{ComparedPlan}
use Rattle.compared_plans.specs.Compared.{plans_in}
use Rattle.compared_plans.specs.inside.Numbers.{near_while_removing, with_numbers}
use Rattle.compared_plans.proofs.ComparedItems.{as-many, compared-same, item-plan}
use Rattle.compared_plans.proofs.NearNumbers.{put-there}
use Rattle.compared_plans.proofs.NearSteps.{all-forgotten, forgotten-more, has-number}
use Rattle.compared_plans.proofs.removing.forget_plan.Goals as goal

-- the number that is counted
number-is : (p : Problem) (items now : List ComparedPlan) (at n : ℕ) (x gone : ComparedPlan) (here there : List Flanks) → at < length now → plans_in now ≡ plans_in items →
    AreFlanks p (get_or now at x).plan.routes (get_or now at x).flanks.items → here ≡ (get_or now at x).flanks.items → AreFlanks p gone.plan.routes gone.flanks.items → there ≡ gone.flanks.items →
    ((a b : Routes) → AreFlanks p a here → AreFlanks p b there → n ≡ broken_pairs p a b) → n ≡ broken_pairs p (item_at (plans_in items) at) gone.plan.routes
number-is p items now at n x gone here there inside same is e is' e' counted =
    counted (get_or now at x).plan.routes gone.plan.routes (subst (AreFlanks p (get_or now at x).plan.routes) (sym e) is) (subst (AreFlanks p gone.plan.routes) (sym e') is')
    ∙ ap (λ (r : Routes). broken_pairs p r gone.plan.routes) (sym (item-plan now at x inside) ∙ ap (λ (ps : List Routes). item_at ps at) same)

-- the item's numbers have it
holds-number : (p : Problem) (items : List ComparedPlan) (gone : Routes) (place at n : ℕ) → place ≤ length items → at < length items → n ≡ broken_pairs p (item_at (plans_in items) at) gone →
    near_while_removing p (plans_in items) gone place at at ≡ put_in_order nat_lt n (nearest p (plans_in items) at)
holds-number p items gone place at n fits inside is =
    let many = as-many items in
    has-number p (plans_in items) gone place at (omega arith) (omega arith) ∙ ap (λ (m : ℕ). put_in_order nat_lt m (nearest p (plans_in items) at)) (sym is)

pub forget-requires-clause-there : goal.forget-requires-clause-there
forget-requires-clause-there c = λ d.
    let p = c.args.given.now in
    let items = c.args.items.now in
    let gone = c.args.gone.now in
    let at = c.loop-at.at in
    let x = c.index-items-at.result in
    let n = c.broken_between-broken.result in
    let is = c.loop-at.invariant in
    let inside : at < length c.loop-at.items = let l = is.long in let t = c.loop-at-test.true in omega arith in
    let counted = number-is p items c.loop-at.items at n x gone c.as_slice.result.now c.as_slice-in-loop-at.result.now inside is.plans (is.compared.each at x inside).beside c.as_slice.ensures.value c.requires.flanks
    c.as_slice-in-loop-at.ensures.value c.broken_between-broken.ensures.pairs in
    let numbers = (is.compared.each at d inside).numbered ∙ holds-number p items gone.plan.routes c.args.place at n c.requires.place c.loop-at-test.true counted in
    subst (λ (xs : List ℕ). Contains xs n) (sym numbers) (put-there n (nearest p (plans_in items) at))

pub loop-at-preserved : goal.loop-at-preserved
loop-at-preserved c =
    let p = c.args.given.now in
    let items = c.args.items.now in
    let plans = plans_in items in
    let gone = c.args.gone.now in
    let place = c.args.place in
    let at = c.loop-at.at in
    let x = c.index-items-at.result in
    let n = c.broken_between-broken.result in
    let is = c.loop-at.invariant in
    let inside : at < length c.loop-at.items = let l = is.long in let t = c.loop-at-test.true in omega arith in
    let counted = number-is p items c.loop-at.items at n x gone c.as_slice.result.now c.as_slice-in-loop-at.result.now inside is.plans (is.compared.each at x inside).beside c.as_slice.ensures.value c.requires.flanks
    c.as_slice-in-loop-at.ensures.value c.broken_between-broken.ensures.pairs in
    record {
      long = let l = is.long in let k = c.forget.auto.items in omega arith;
      plans = c.forget.ensures.plans ∙ is.plans;
      compared = compared-same p (with_numbers (near_while_removing p plans gone.plan.routes place at) at (nearest p plans at)) (near_while_removing p plans gone.plan.routes place (at + 1)) c.forget.new.items
          (λ k low. forgotten-more p plans gone.plan.routes place at k)
          (c.forget.ensures.compared p (near_while_removing p plans gone.plan.routes place at) (nearest p plans at) is.compared (holds-number p items gone.plan.routes place at n c.requires.place c.loop-at-test.true counted));
    }

pub returns-clause-compared : goal.returns-clause-compared
returns-clause-compared c =
    let p = c.args.given.now in
    let plans = plans_in c.args.items.now in
    let gone = c.args.gone.now.plan.routes in
    let is = c.loop-at.invariant in
    compared-same p (near_while_removing p plans gone c.args.place c.loop-at.at) (nearest p (plans_in c.loop-at.items)) c.loop-at.items
    (λ k low. all-forgotten p plans gone c.args.place c.loop-at.at k (let l = is.long in let t = c.loop-at-test.false in omega arith) ∙ ap (λ (ps : List Routes). nearest p ps k) (sym is.plans)) is.compared
