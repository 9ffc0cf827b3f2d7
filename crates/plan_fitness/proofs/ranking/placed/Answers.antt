use Rattle.std.proofs.Common.{◌≡◌, ◌+◌, ◌∙◌, sym, ap, ℕ, List, [], ◌∷◌, ◌++◌, length, arith}
use Rattle.std.specs.Prelude.{slice_index}
use Rattle.std.proofs.lemmas.List.FromFn.{map-range_with_len_more}
use Rattle.plan_fitness.proofs.ranking.placed.Goals as goal

pub loop-place-preserved : goal.loop-place-preserved
loop-place-preserved c =
    let values = c.args.values.now in
    let place = c.loop-place.place in
    let long : length c.push.new.self.items ≡ place + 1 = omega arith in
    let more = map-range_with_len_more (λ (i : ℕ). (slice_index values i, i)) 0 place place (omega arith) in
    (long, c.push.ensures.items ∙ (ap (λ (t : List (ℕ × ℕ)). t ++ (slice_index values place, place) ∷ []) c.loop-place.invariant.1 ∙ sym more))
