use Rattle.std.proofs.Common.{Option, rules, subst}
use mir.Syntax.{w128}
use mir.Val.{SFits}
use Rattle.least_insertions.specs.declared.positions.Place.{Place}
use Rattle.least_insertions.specs.inside.Places.{IsBestOf}
use Rattle.least_insertions.proofs.BestPlaces.{best-first, best-kept, best-taken}
use Rattle.least_insertions.proofs.Growths.{is-less, is-no_less}
use Rattle.least_insertions.proofs.positions.better.Goals as goal

pub returns-then-place-kept : goal.returns-then-place-kept
returns-then-place-kept c = λ p w routes client plans best is_place.
    let new : SFits w128 c.args.place.growth = search rules in
    let old : SFits w128 c.in-Some.kept.growth = search rules in
    best-taken p w routes client plans c.args.place is_place c.in-Some.kept (subst (λ (o : Option Place). IsBestOf p w routes client o plans) c.in-Some.is best)
    (is-less c.args.place.growth c.in-Some.kept.growth new old c.if-place-kept.true)

pub returns-else-place-kept : goal.returns-else-place-kept
returns-else-place-kept c = λ p w routes client plans best is_place.
    let new : SFits w128 c.args.place.growth = search rules in
    let old : SFits w128 c.in-Some.kept.growth = search rules in
    best-kept p w routes client plans c.args.place is_place c.in-Some.kept (subst (λ (o : Option Place). IsBestOf p w routes client o plans) c.in-Some.is best)
    (is-no_less c.args.place.growth c.in-Some.kept.growth new old c.if-place-kept.false)

pub returns-in-None : goal.returns-in-None
returns-in-None c = λ p w routes client plans best is_place.
    best-first p w routes client plans c.args.place is_place (subst (λ (o : Option Place). IsBestOf p w routes client o plans) c.in-None.is best)
