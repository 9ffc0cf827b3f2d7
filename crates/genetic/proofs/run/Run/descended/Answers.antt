use Rattle.std.proofs.Common.{◌≡◌, [], ◌∷◌, map, subst, sym}
use Rattle.std.specs.Prelude.{IsTrue}
use Rattle.routing_model.specs.Lawful.{is_lawful}
use Rattle.genetic_model.specs.RandomDescent.{random_descent}
use Rattle.random_descents.specs.Rises.{RoseOver}
use Rattle.random_descents.specs.Shared.{Shared}
use Rattle.genetic.proofs.run.Run.descended.Goals as goal

pub descend-requires-clause-lawful : goal.descend-requires-clause-lawful
descend-requires-clause-lawful g c = subst (λ (d : Shared). IsTrue (is_lawful d.problem c.args.plan.now.routes)) (sym c.requires.running.same_descents) c.requires.lawful

pub returns-clause-lawful : goal.returns-clause-lawful
returns-clause-lawful g c = subst (λ (d : Shared). IsTrue (is_lawful d.problem c.in_ok-descended.descended.routes)) c.requires.running.same_descents c.in_ok-descended.ensures.lawful

pub returns-clause-descended : goal.returns-clause-descended
returns-clause-descended g c =
    let s = c.args.self.now in
    let begun = c.requires.running.same_descents in
    record {
      same_plan = subst (λ (d : Shared). c.in_ok-descended.descended.routes ≡ (random_descent d.problem d.params c.args.weights c.args.plan.now.routes s.generator).routes) begun c.in_ok-descended.ensures.plan;
      same_state = subst (λ (d : Shared). c.descend.new.generator ≡ (random_descent d.problem d.params c.args.weights c.args.plan.now.routes s.generator).state) begun c.in_ok-descended.ensures.state;
      rises = subst (λ (d : Shared). RoseOver d.problem d.params ((random_descent d.problem d.params c.args.weights c.args.plan.now.routes s.generator).start ∷ []) (map (λ b. (goal.Operator-dyn g (b.vtable, b.value)).tally_of b.value) c.args.kit.now.items) (map (λ b. (goal.Operator-dyn g (b.vtable, b.value)).tally_of b.value) c.descend.new.kit.items)) begun c.in_ok-descended.ensures.rises;
    }
