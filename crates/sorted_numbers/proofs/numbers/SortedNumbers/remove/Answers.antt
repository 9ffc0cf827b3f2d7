use Rattle.std.proofs.Common.{◌≡◌, ◌∙◌, ◌+◌, ◌<◌, ◌≤◌, ℕ, List, ap, arith, get_or, length, subst, sym}
use Rattle.std.specs.Prelude.{nat_lt}
use Rattle.std.specs.List.Sorted.{IsNonDecreasing}
use Rattle.std.specs.Ordering.{nat_cmp}
use Rattle.std.specs.Vec.{vec_capacity}
use Rattle.std.specs.declared.cmp.Ordering.TheVariants.{Equal}
use Rattle.std.proofs.lemmas.Bool.Decides.{nat_tests}
use Rattle.std.proofs.lemmas.List.Edits.{length-remove}
use Rattle.list_words.specs.Order.{put_in_order}
use Rattle.sorted_numbers.proofs.SortedLists.{left-ascends, put-again}
use Rattle.sorted_numbers.proofs.numbers.SortedNumbers.remove.Goals as goal

equal-is : (a b : ℕ) → nat_cmp a b ≡ Equal → b ≡ a
equal-is a b h = grind (arith, nat_tests)

there : (c : goal.After-remove) → c.in-Ok.at < length c.self.inside.numbers.items
there c = subst (λ (xs : List ℕ). c.in-Ok.at < length xs) c.deref.ensures.value c.in-Ok.ensures.bound

pub invariant_of-self : goal.invariant_of-self
invariant_of-self c =
    let xs = c.self.inside.numbers.items in
    let is = c.self.invariant in
    let fewer : length c.remove.new.self.items + 1 ≡ length xs = ap (λ (ys : List ℕ). length ys + 1) c.remove.ensures.items ∙ length-remove xs c.in-Ok.at (there c) in
    let few : length xs ≤ 400 = is.1 in
    let kept : vec_capacity c.remove.new.self ≡ vec_capacity c.self.inside.numbers = c.remove.ensures.capacity in
    let held : 400 ≤ vec_capacity c.self.inside.numbers = is.2 in (
      subst IsNonDecreasing (sym c.remove.ensures.items) (left-ascends xs c.in-Ok.at is.0 (there c)),
      omega arith,
      omega arith,
    )

pub returns-in-Ok : goal.returns-in-Ok
returns-in-Ok c =
    let xs = c.self.inside.numbers.items in
    let at = c.in-Ok.at in
    let x = c.args.number in
    let found : x ≡ get_or xs at x = equal-is (get_or xs at x) x (subst (λ (ys : List ℕ). nat_cmp (get_or ys at x) x ≡ Equal) c.deref.ensures.value (c.in-Ok.ensures.ok x)) in
    sym c.self.view_is ∙ (put-again xs at x c.self.invariant.0 (there c) found ∙ ap (put_in_order nat_lt x) (sym c.remove.ensures.items))
