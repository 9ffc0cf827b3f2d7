use Rattle.std.proofs.Common.{◌≡◌, ◌∙◌, ◌+◌, ◌≤◌, ℕ, List, ap, arith, length, refl, subst, sym}
use Rattle.std.specs.Prelude.{nat_lt}
use Rattle.std.specs.List.{insert}
use Rattle.std.specs.List.Sorted.{IsNonDecreasing}
use Rattle.std.specs.Vec.{vec_capacity}
use Rattle.std.proofs.lemmas.List.Edits.{length-insert}
use Rattle.list_words.specs.Order.{put_in_order}
use Rattle.sorted_numbers.specs.inside.Places.{IsPlaceFor}
use Rattle.sorted_numbers.proofs.SortedLists.{put-there, still}
use Rattle.sorted_numbers.proofs.numbers.SortedNumbers.insert.Goals as goal

items-are : (c : goal.After-unwrap) → c.insert.new.self.items ≡ insert c.self.inside.numbers.items c.place_for-at.result c.args.number
items-are c = c.insert.ensures.items ∙ rw c.unwrap.ensures refl

place-is : (c : goal.After-unwrap) → IsPlaceFor c.self.inside.numbers.items c.args.number c.place_for-at.result
place-is c = subst (λ (xs : List ℕ). IsPlaceFor xs c.args.number c.place_for-at.result) (sym c.self.view_is) c.place_for-at.ensures

pub invariant_of-self : goal.invariant_of-self
invariant_of-self c =
    let xs = c.self.inside.numbers.items in
    let at = c.place_for-at.result in
    let is = c.self.invariant in
    let place = place-is c in
    let grown : length c.insert.new.self.items ≡ length xs + 1 = ap length (items-are c) ∙ length-insert xs at c.args.number place.inside in
    let same : length xs ≡ length c.args.self.now = ap length c.self.view_is in
    let room = c.requires in
    let kept : vec_capacity c.self.inside.numbers ≤ vec_capacity c.insert.new.self = c.insert.ensures.capacity in
    let held : 400 ≤ vec_capacity c.self.inside.numbers = is.2 in (
      subst IsNonDecreasing (sym (items-are c)) (still xs at c.args.number is.0 place),
      omega arith,
      omega arith,
    )

pub returns : goal.returns
returns c =
    items-are c ∙ (put-there c.self.inside.numbers.items c.place_for-at.result c.args.number c.self.invariant.0 (place-is c) ∙ ap (put_in_order nat_lt c.args.number) c.self.view_is)
