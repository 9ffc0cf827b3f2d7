use Rattle.std.proofs.Common.{◌≡◌, ℕ, ◌+◌, List, length, ◌∙◌, ap, subst, arith, w64, to_z, of_z}
use Rattle.std.proofs.lemmas.Int.{ints}
use Rattle.problem_data.specs.declared.visit.Visit.{Visit}
use Rattle.star_places.specs.Growths.{growth_of}
use Rattle.star_places.specs.Places.{AreThree}
use Rattle.star_places.proofs.places.three_places.Goals as goal

pub loop-place-init : goal.loop-place-init
loop-place-init c = record {
  three = c.none-three.ensures (growth_of c.args.route.now c.args.client);
  reads = record { kept = omega arith; most = omega arith };
}

pub loop-place-preserved : goal.loop-place-preserved
loop-place-preserved c = record {
  three =
      let small = c.growth-growth.ensures.small in
      let same : to_z w64 (of_z w64 c.growth-growth.result) ≡ c.growth-growth.result = omega (arith, ints, small) in
      c.with-three.ensures (growth_of c.args.route.now c.args.client) (same ∙ c.growth-growth.ensures.growth) c.loop-place.invariant.three;
  reads =
      let before = c.loop-place.invariant.reads in
      let read = c.growth-growth.ensures.reads in
      record { kept = omega (arith, before.kept, read.kept); most = omega (arith, before.most, read.most) };
}

pub returns-clause-three : goal.returns-clause-three
returns-clause-three c =
    let long : length c.visits.result.now ≡ length c.args.route.now.visits = ap (λ (xs : List Visit). length xs) c.visits.ensures.visits in
    let all : c.loop-place.place ≡ length c.args.route.now.visits + 1 = omega (arith, long) in
    subst (λ (n : ℕ). AreThree (growth_of c.args.route.now c.args.client) n c.loop-place.three) all c.loop-place.invariant.three
