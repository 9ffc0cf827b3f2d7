use Rattle.std.proofs.Common.{arith, ◌<ℤ◌, ◌≤ℤ◌}
use Rattle.std.proofs.lemmas.Int.{ints}
use Rattle.star_places.proofs.ThreeLaws.{with-first, with-none, with-second, with-third}
use Rattle.star_places.proofs.places.ThreePlaces.with.Goals as goal

pub returns-then-spot-self : goal.returns-then-spot-self
returns-then-spot-self c =
    let less : c.args.spot.growth <ℤ c.args.self.first.growth = grind (arith, ints) in
    λ f is are. with-first f c.args.spot.place c.requires.place c.args.self are c.args.spot.growth is c.requires.near less

pub returns-then-spot-self-2 : goal.returns-then-spot-self-2
returns-then-spot-self-2 c =
    let no_less : c.args.self.first.growth ≤ℤ c.args.spot.growth = grind (arith, ints) in
    let less : c.args.spot.growth <ℤ c.args.self.second.growth = grind (arith, ints) in
    λ f is are. with-second f c.args.spot.place c.requires.place c.args.self are c.args.spot.growth is c.requires.near no_less less

pub returns-then-spot-self-3 : goal.returns-then-spot-self-3
returns-then-spot-self-3 c =
    let no_less : c.args.self.second.growth ≤ℤ c.args.spot.growth = grind (arith, ints) in
    let less : c.args.spot.growth <ℤ c.args.self.third.growth = grind (arith, ints) in
    λ f is are. with-third f c.args.spot.place c.requires.place c.args.self are c.args.spot.growth is c.requires.near no_less less

pub returns : goal.returns
returns c =
    let no_less : c.args.self.third.growth ≤ℤ c.args.spot.growth = grind (arith, ints) in
    λ f is are. with-none f c.args.spot.place c.requires.place c.args.self are c.args.spot.growth is c.requires.near no_less
