use Rattle.std.proofs.Common.{◌∙◌, ap, rules, subst, sym}
use Rattle.problem_data.specs.declared.problem.Problem.{Problem}
use Rattle.route_rings.specs.inside.Directions.{IsShort}
use Rattle.route_rings.proofs.Vectors.{offset-found, offset-reach}
use Rattle.route_rings.proofs.direction.offset_of.Goals as goal

pub returns-clause-offset : goal.returns-clause-offset
returns-clause-offset c =
    let same = c.items-places.ensures ∙ ap (λ (p : Problem). p.places) c.problem.ensures.same in
    rw c.in-Client.is (offset-found c.args.given.now c.problem.ensures.valid c.items-places.result.now same c.in-Client.place (search rules) (search rules))

pub returns-clause-short : goal.returns-clause-short
returns-clause-short c =
    let same = c.items-places.ensures ∙ ap (λ (p : Problem). p.places) c.problem.ensures.same in
    subst (IsShort 1) (sym (offset-found c.args.given.now c.problem.ensures.valid c.items-places.result.now same c.in-Client.place (search rules) (search rules)))
    (offset-reach c.args.given.now c.problem.ensures.valid c.items-places.result.now same c.in-Client.place (search rules) (search rules))
