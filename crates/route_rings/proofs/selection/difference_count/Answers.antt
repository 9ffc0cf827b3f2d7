use Rattle.std.proofs.Common.{◌≡◌, ◌∙◌, ◌-◌, ◌≤◌, ◌<◌, ℕ, arith, ap, length, subst, sym}
use Rattle.std.specs.Prelude.{count_by}
use Rattle.std.specs.List.{range_with_len}
use Rattle.problem_data.specs.Places.{depot_count, place_count}
use Rattle.genetic_model.specs.RouteSelection.{is_in_one}
use Rattle.route_rings.proofs.Counting.{apart-by_marks, byte-few, count-next}
use Rattle.route_rings.proofs.selection.difference_count.Goals as goal

pub loop-place-preserved : goal.loop-place-preserved
loop-place-preserved c =
    let is = c.loop-place.invariant in
    let begun = is.begun in
    let few = is.few in
    let one : c.from-difference.result ≤ 1 = subst (λ (n : ℕ). n ≤ 1) (sym c.from-difference.ensures) (byte-few _) in
    let there : c.loop-place.place < place_count c.args.given.now = subst (λ (n : ℕ). c.loop-place.place < n) c.client_places-clients.ensures.end c.loop-place-test.true in
    let inside : c.loop-place.place < length c.args.marks.now = subst (λ (n : ℕ). c.loop-place.place < n) (sym c.requires.places) there in
    let inside' : c.loop-place.place < length c.args.others.now = subst (λ (n : ℕ). c.loop-place.place < n) (sym c.requires.other_places) there in
    record {
      begun = omega arith;
      few = omega arith;
      counted = λ xs ys are are'.
          count-next xs ys (depot_count c.args.given.now) c.loop-place.place c.loop-place.difference c.from-difference.result begun (is.counted xs ys are are')
          (c.from-difference.ensures ∙ apart-by_marks c.args.marks.now c.args.others.now xs ys c.loop-place.place inside inside' are are');
    }

pub returns : goal.returns
returns c = λ xs ys are are'.
    let start = c.client_places-clients.ensures.start in
    let end = c.client_places-clients.ensures.end in
    let p = c.args.given.now in
    let done : c.loop-place.place - depot_count p ≡ length p.clients = omega arith in
    c.loop-place.invariant.counted xs ys are are' ∙ ap (λ (n : ℕ). count_by (is_in_one xs ys) (range_with_len (depot_count p) n)) done
