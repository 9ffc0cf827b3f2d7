use Rattle.std.proofs.Common.{◌≡◌, ◌<◌, ◌∙◌, [], ◌∷◌, subst, sym}
use Rattle.problem_data.specs.Places.{place_count}
use Rattle.problem_data.specs.Tables.{visit_at}
use Rattle.problem_data.proofs.PlaceVisits.{length-visits_of_places, visit_alone}
use Rattle.problem_data.proofs.valid_problem.ProblemData.visit_of.Goals as goal

pub visit_alone-requires : goal.visit_alone-requires
visit_alone-requires c =
    let known : c.args.place < place_count c.self.inside.problem = subst (λ p. c.args.place < place_count p) (sym c.self.view_is) c.requires in
    rw (c.as_slice.ensures.value, c.self.invariant.visits, length-visits_of_places c.self.inside.problem) known

pub returns : goal.returns
returns c =
    let known : c.args.place < place_count c.self.inside.problem = subst (λ p. c.args.place < place_count p) (sym c.self.view_is) c.requires in
    subst (λ p. c.visit_alone.result.now ≡ visit_at p c.args.place ∷ []) c.self.view_is
    (visit_alone c.self.inside.problem c.args.place c.as_slice.result.now c.visit_alone.result.now known
    (c.as_slice.ensures.value ∙ c.self.invariant.visits) c.visit_alone.ensures)
