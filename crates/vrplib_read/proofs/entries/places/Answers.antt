use Rattle.std.proofs.Common.{◌≡◌, ◌+◌, ◌++◌, ◌∷◌, [], arith}
use Rattle.std.proofs.lemmas.Grind.{common_steps}
use Rattle.std.proofs.lemmas.List.Elements.{All-same, All-push}
use Rattle.problem_data.specs.Valid.{IsValidPlace}
use Rattle.vrplib_model.specs.Entries.{coordinates}
use Rattle.vrplib_read.proofs.RowLaws.{map_counted}
use Rattle.vrplib_read.proofs.entries.places.Goals as goal

pub loop-before-preserved : goal.loop-before-preserved
loop-before-preserved c = record {
  placed = λ all st.
      let mode = c.args.reading.now.mode in
      grind (
        arith,
        common_steps,
        c.loop-before.invariant.placed all st,
        c.coordinates.ensures.place all st,
        map_counted (coordinates mode all) 1 c.loop-before.before (c.loop-before.before + 1) (omega arith),
      );
  valid =
      let pushed : c.push.new.self.items ≡ c.loop-before.places.items ++ c.coordinates.result ∷ [] = grind (arith, common_steps) in
      All-same IsValidPlace c.push.new.self.items (c.loop-before.places.items ++ c.coordinates.result ∷ []) pushed
      (All-push IsValidPlace c.loop-before.places.items c.coordinates.result c.loop-before.invariant.valid c.coordinates.ensures.valid);
  count = grind (arith, common_steps);
}
