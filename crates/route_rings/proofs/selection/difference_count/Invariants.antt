use Rattle.std.specs.Prelude.{◌≡◌, ◌-◌, ◌≤◌, List, ℕ, count_by}
use Rattle.std.specs.List.{range_with_len}
use Rattle.problem_data.specs.Places.{depot_count}
use Rattle.genetic_model.specs.RouteSelection.{is_in_one}
use Rattle.route_rings.specs.Marks.{AreMarks}
use Rattle.route_rings.proofs.selection.difference_count.Given as goal

abbrev pub invariant-loop-place : goal.invariant-loop-place
invariant-loop-place l = record {
  begun : depot_count l.given ≤ l.place;
  few : l.difference ≤ l.place - depot_count l.given;
  counted : (xs ys : List ℕ) → AreMarks l.marks xs → AreMarks l.others ys → l.difference ≡ count_by (is_in_one xs ys) (range_with_len (depot_count l.given) (l.place - depot_count l.given));
}
