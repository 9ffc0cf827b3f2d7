use Rattle.std.proofs.Common.{◌≡◌, ◌∙◌, ◌==◌, Bool, true, ap, refl, subst, sym}
use Rattle.std.specs.Prelude.{if◌then◌else◌}
use Rattle.std.proofs.lemmas.Bool.{eq-eqb}
use Rattle.genetic_model.specs.Population.{Population, cleared}
use Rattle.genetic_model.specs.Run.{populated, restarted}
use Rattle.population.specs.Populations.{population_of}
use Rattle.genetic.specs.inside.Runs.{Stands, reached}
use Rattle.genetic.proofs.RunSteps.{stands-by}
use Rattle.genetic.proofs.run.Run.restart.Goals as goal

pub populate-requires : goal.populate-requires
populate-requires c = record {
  running = record {
    in_range = c.requires.running.in_range;
    same_descents = c.requires.running.same_descents;
    kept = c.clear.ensures.kept c.args.self.now.given.now;
    same_sizes = ap (λ (x : Population). x.params) c.clear.ensures.population ∙ c.requires.running.same_sizes;
  };
}

pub returns-in_ok-populate-clause-stands : goal.returns-in_ok-populate-clause-stands
returns-in_ok-populate-clause-stands c = λ first ts r.
    let s = c.args.self.now in
    let p = s.given.now in
    let after = c.populate.new.self in
    let stale : (s.stale == s.params.genetic.nb_iter_no_improvement) ≡ true = eq-eqb _ _ c.if-self.true in
    stands-by first ts ts s after (restarted p s.params) r
    (λ starts rises.
    let x = reached s starts in
    subst (λ (b : Bool). Stands first after ts (if b then populated p s.params (record x { population = cleared x.population; stale = 0 }) else x)) (sym stale)
    (subst (λ (y : Population). Stands first after ts (populated p s.params (record x { population = y; stale = 0 }))) c.clear.ensures.population
    (c.in_ok-populate.ensures.stands first ts (record x { population = population_of c.clear.new.self; stale = 0 }) (record { same = refl; rises = rises }))))
