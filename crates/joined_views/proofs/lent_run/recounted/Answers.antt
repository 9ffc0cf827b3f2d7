use Rattle.std.proofs.Common.{◌≡◌, ℕ, ap, arith, sym, ◌∙◌}
use Rattle.std.specs.Int.{int_max}
use Rattle.std.specs.Prelude.{pos, ◌-ℤ◌}
use Rattle.std.proofs.lemmas.Int.{clamps, ints}
use Rattle.joined_views.specs.inside.Recounts.{later_loads}
use Rattle.joined_views.proofs.AlikeTypes.{recount-holds}
use Rattle.joined_views.proofs.lent_run.recounted.Goals as goal

pub overflow_sub-tail : goal.overflow_sub-tail
overflow_sub-tail c =
    let sound = rw c.in-Split.is at c.requires.kept.holds.sound in
    let from_0 = sound.sound_tail.load.load.from_0 in
    let to_largest = sound.sound_tail.load.load.to_largest in
    let small = c.requires.capacity in
    omega (arith, ints)

pub returns : goal.returns
returns c = λ t other same alike held.
    let stands = rw c.in-Split.is at held.stands in
    let sound = rw c.in-Split.is at held.sound in
    let from_0 = sound.sound_tail.load.load.from_0 in
    let to_largest = sound.sound_tail.load.load.to_largest in
    let small = c.requires.capacity in
    let value = c.max-open.ensures.value in
    let later = c.later_excess.ensures.excess in
    let short = c.later_excess.ensures.short in
    let rest : c.max-open.result ≡ int_max (c.in-Split.tail.load.load -ℤ pos other.capacity) (pos 0) = omega (arith, ints, clamps) in
    recount-holds c.args.given.now t other c.args.visits.now c.in-Split.head c.in-Split.middle c.in-Split.tail stands c.args.kept c.later_excess.result c.max-open.result _ same held sound
    (later ∙ ap (λ (n : ℕ). pos (later_loads c.args.given.now n c.args.visits.now)) (sym alike)) short rest (omega (arith, ints, clamps))
