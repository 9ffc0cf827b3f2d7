use Rattle.std.proofs.Common.{◌≡◌, ℕ, arith, subst, sym}
use Rattle.list_words.specs.Lists.{times}
use Rattle.problem_data.specs.declared.problem.Problem.{Problem}
use Rattle.genetic_model.specs.Run.{Run, with_random}
use Rattle.genetic.specs.inside.Runs.{Stands}
use Rattle.genetic.proofs.RunSteps.{same-iteration, times-more}
use Rattle.genetic.proofs.run.Run.populate.Goals as goal

pub loop-preserved : goal.loop-preserved
loop-preserved c =
    let p = c.args.self.now.given.now in
    let new = c.add_random.new.self in
    record {
      running = c.in_ok-add_random.ensures.running;
      same = same-iteration c.args.self.now c.loop.self new c.loop.invariant.same c.in_ok-add_random.ensures.same;
      some = λ _. c.in_ok-add_random.ensures.some;
      stands = λ first ts r stands.
          subst (λ (x : Run). Stands first new ts x) (sym (times-more (with_random p) c.loop.counter r))
          (subst (λ (q : Problem). Stands first new ts (with_random q (times c.loop.counter (with_random p) r))) c.loop.invariant.same.run.problem
          (c.in_ok-add_random.ensures.stands first ts _ (c.loop.invariant.stands first ts r stands)));
    }

pub returns-clause-stands : goal.returns-clause-stands
returns-clause-stands c = λ first ts r stands.
    let p = c.args.self.now.given.now in
    let all : c.loop.counter ≡ c.args.self.now.params.population.min_pop_size = omega arith in
    subst (λ (n : ℕ). Stands first c.loop.self ts (times n (with_random p) r)) all (c.loop.invariant.stands first ts r stands)
