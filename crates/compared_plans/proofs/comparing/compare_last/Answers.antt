use Rattle.std.proofs.Common.{◌≡◌, ◌∙◌, ◌+◌, ◌<◌, List, ℕ, ap, arith, length, nat_lt, subst, sym}
use Rattle.list_words.specs.Order.{put_in_order}
use Rattle.routing_model.specs.Routes.{Routes}
use Rattle.genetic_model.specs.BrokenPairs.{broken_pairs}
use Rattle.genetic_model.specs.Fitness.{item_at, nearest}
use Rattle.compared_plans.specs.Compared.{plans_in}
use Rattle.compared_plans.specs.inside.Numbers.{near_while_comparing, with_numbers}
use Rattle.compared_plans.proofs.ComparedItems.{as-many, compared-same, with-other}
use Rattle.compared_plans.proofs.NearSteps.{all-noted, few-left, few-newest, noted-both}
use Rattle.compared_plans.proofs.comparing.compare_last.Goals as goal

pub broken_at-broken-requires-clause-beside : goal.broken_at-broken-requires-clause-beside
broken_at-broken-requires-clause-beside c = λ k d low. (c.loop-at.invariant.compared.each k d low).beside

pub note-requires-clause-room : goal.note-requires-clause-room
note-requires-clause-room c = λ d.
    let p = c.args.given.now in
    let plans = plans_in c.args.items.now in
    let last = c.args.last in
    let at = c.loop-at.at in
    let many : length plans ≡ last + 1 = as-many c.args.items.now ∙ c.requires.last in
    let inside : at < length c.loop-at.items = let l = c.loop-at.invariant.long in omega arith in
    let few = few-left p plans last many at c.loop-at-test.true in
    let same = ap length (c.loop-at.invariant.compared.each at d inside).numbered in
    let room = c.requires.few in
    omega arith

pub note-requires-in-loop-at-clause-room : goal.note-requires-in-loop-at-clause-room
note-requires-in-loop-at-clause-room c = λ d.
    let p = c.args.given.now in
    let plans = plans_in c.args.items.now in
    let last = c.args.last in
    let at = c.loop-at.at in
    let many : length plans ≡ last + 1 = as-many c.args.items.now ∙ c.requires.last in
    let near = near_while_comparing p plans last at in
    let noted = put_in_order nat_lt c.broken_at-broken.result (near at) in
    let inside : last < length c.note.new.items = let l = c.loop-at.invariant.long in let k = c.note.auto.items in omega arith in
    let few = few-newest p plans last many at c.loop-at-test.true in
    let same = ap length ((c.note.ensures.compared p near c.loop-at.invariant.compared).each last d inside).numbered in
    let other = ap length (with-other near at noted last (λ e. omega arith)) in
    let room = c.requires.few in
    omega arith

pub loop-at-preserved : goal.loop-at-preserved
loop-at-preserved c =
    let p = c.args.given.now in
    let plans = plans_in c.args.items.now in
    let last = c.args.last in
    let at = c.loop-at.at in
    let is = c.loop-at.invariant in
    let many : length plans ≡ last + 1 = as-many c.args.items.now ∙ c.requires.last in
    let near = near_while_comparing p plans last at in
    let broken = c.broken_at-broken.result in
    let number : broken ≡ broken_pairs p (item_at plans at) (item_at plans last) =
    c.broken_at-broken.ensures ∙ ap (λ (ps : List Routes). broken_pairs p (item_at ps at) (item_at ps last)) is.plans in
    let first = with_numbers near at (put_in_order nat_lt broken (near at)) in
    let long : length c.note-in-loop-at.new.items ≡ last + 1 = let l = is.long in let k = c.note.auto.items in let m = c.note-in-loop-at.auto.items in omega arith in
    record {
      long = long;
      plans = c.note-in-loop-at.ensures.plans ∙ (c.note.ensures.plans ∙ is.plans);
      compared = compared-same p (with_numbers first last (put_in_order nat_lt broken (first last))) (near_while_comparing p plans last (at + 1)) c.note-in-loop-at.new.items
          (λ k low. noted-both p plans last many at broken c.loop-at-test.true number k (subst (λ (n : ℕ). k < n) long low))
          (c.note-in-loop-at.ensures.compared p first (c.note.ensures.compared p near is.compared));
    }

pub returns-clause-compared : goal.returns-clause-compared
returns-clause-compared c =
    let p = c.args.given.now in
    let plans = plans_in c.args.items.now in
    let last = c.args.last in
    let at = c.loop-at.at in
    let is = c.loop-at.invariant in
    let many : length plans ≡ last + 1 = as-many c.args.items.now ∙ c.requires.last in
    compared-same p (near_while_comparing p plans last at) (nearest p (plans_in c.loop-at.items)) c.loop-at.items
    (λ k low. all-noted p plans last many at k c.loop-at-test.false (omega arith) (subst (λ (n : ℕ). k < n) is.long low) ∙ ap (λ (ps : List Routes). nearest p ps k) (sym is.plans)) is.compared
