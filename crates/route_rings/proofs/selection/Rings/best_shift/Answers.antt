use Rattle.std.proofs.Common.{◌∙◌, ◌+◌, ◌-◌, ◌%◌, ◌<◌, ℕ, ap, length, refl, subst, sym}
use Rattle.genetic_model.specs.declared.starts.Starts.{Starts}
use Rattle.route_rings.specs.Selections.{AreStarts, difference_of}
use Rattle.route_rings.proofs.SettledShifts.{lesser-either, lesser-of, starts-at}
use Rattle.route_rings.proofs.selection.Rings.best_shift.Goals as goal

pub returns-clause-best : goal.returns-clause-best
returns-clause-best c =
    let rings = c.args.self in
    let f : Starts → ℕ = difference_of c.args.given.now rings in
    let i : ℕ = c.args.starts.first in
    let j : ℕ = c.args.starts.second in
    let m : ℕ = length rings.first.order.now in
    let n : ℕ = length rings.second.order.now in
    let one = c.better-best.ensures f c.measured-best.ensures.measured c.measured.ensures.measured in
    let two = c.better-best-2.ensures f one.1 c.measured-2.ensures.measured in
    let three = c.better.ensures f two.1 c.measured-3.ensures.measured in
    let ahead = starts-at c.next.result j ((i + 1) % m) j c.measured-best.result.starts c.measured-best.ensures.starts (c.next.ensures.next ∙ ap (λ (k : ℕ). (i + 1) % k) c.size.ensures) refl in
    let back = starts-at c.previous.result j ((i + m - 1) % m) j c.measured.result.starts c.measured.ensures.starts (c.previous.ensures.previous ∙ ap (λ (k : ℕ). (i + k - 1) % k) c.size-2.ensures) refl in
    let other_ahead = starts-at i c.next-2.result i ((j + 1) % n) c.measured-2.result.starts c.measured-2.ensures.starts refl (c.next-2.ensures.next ∙ ap (λ (k : ℕ). (j + 1) % k) c.size-3.ensures) in
    let other_back = starts-at i c.previous-2.result i ((j + n - 1) % n) c.measured-3.result.starts c.measured-3.ensures.starts refl (c.previous-2.ensures.previous ∙ ap (λ (k : ℕ). (j + k - 1) % k) c.size-4.ensures) in
    three.0 ∙ lesser-of f _ _ _ _ (two.0 ∙ lesser-of f _ _ _ _ (one.0 ∙ lesser-of f _ _ _ _ ahead back) other_ahead) other_back

pub returns-clause-measured : goal.returns-clause-measured
returns-clause-measured c =
    let f : Starts → ℕ = difference_of c.args.given.now c.args.self in
    let one = c.better-best.ensures f c.measured-best.ensures.measured c.measured.ensures.measured in
    let two = c.better-best-2.ensures f one.1 c.measured-2.ensures.measured in
    let three = c.better.ensures f two.1 c.measured-3.ensures.measured in
    three.1

pub returns-clause-there : goal.returns-clause-there
returns-clause-there c =
    let rings = c.args.self in
    let f : Starts → ℕ = difference_of c.args.given.now rings in
    let one = c.better-best.ensures f c.measured-best.ensures.measured c.measured.ensures.measured in
    let two = c.better-best-2.ensures f one.1 c.measured-2.ensures.measured in
    let three = c.better.ensures f two.1 c.measured-3.ensures.measured in
    let first = c.requires.starts.first in
    let second = c.requires.starts.second in
    let ahead : AreStarts rings c.measured-best.result.starts = subst (AreStarts rings) (sym c.measured-best.ensures.starts)
    (record { first = subst (λ (k : ℕ). c.next.result < k) c.size.ensures c.next.ensures.there; second = second }) in
    let back : AreStarts rings c.measured.result.starts = subst (AreStarts rings) (sym c.measured.ensures.starts)
    (record { first = subst (λ (k : ℕ). c.previous.result < k) c.size-2.ensures c.previous.ensures.there; second = second }) in
    let other_ahead : AreStarts rings c.measured-2.result.starts = subst (AreStarts rings) (sym c.measured-2.ensures.starts)
    (record { first = first; second = subst (λ (k : ℕ). c.next-2.result < k) c.size-3.ensures c.next-2.ensures.there }) in
    let other_back : AreStarts rings c.measured-3.result.starts = subst (AreStarts rings) (sym c.measured-3.ensures.starts)
    (record { first = first; second = subst (λ (k : ℕ). c.previous-2.result < k) c.size-4.ensures c.previous-2.ensures.there }) in
    let best_one : AreStarts rings c.better-best.result.starts = subst (AreStarts rings) (sym one.0) (lesser-either (AreStarts rings) f _ _ ahead back) in
    let best_two : AreStarts rings c.better-best-2.result.starts = subst (AreStarts rings) (sym two.0) (lesser-either (AreStarts rings) f _ _ best_one other_ahead) in
    subst (AreStarts rings) (sym three.0) (lesser-either (AreStarts rings) f _ _ best_two other_back)
