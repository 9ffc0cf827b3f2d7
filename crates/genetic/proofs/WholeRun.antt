-- A whole run, beside that of the definitions.
use Rattle.std.proofs.Common.{◌≡◌, ◌∙◌, ◌-◌, ℕ, List, [], arith, subst}
use Rattle.problem_data.specs.declared.problem.Problem.{Problem}
use Rattle.genetic_model.specs.declared.params.Params.{Params}
use Rattle.genetic_model.specs.Run.{Run, empty_run, first_run, populated, run, run_on}
use Rattle.move_core.specs.declared.tally.Tally.{Tally}
use Rattle.random_descents.specs.Rises.{RoseOver}
use Rattle.random_descents.proofs.JoinedRises.{rose_over-none}
use Rattle.genetic.specs.declared.run.Run.{Run as RunState}
use Rattle.genetic.specs.inside.Runs.{IsSameIteration, Stands, reached}

-- an empty run that is filled and then goes on to its end stands where that of the definitions ends
pub whole-run : (p : Problem) (params : Params) (seed : ℕ) (first us : List Tally) (begun filled ended : RunState) →
    begun.given.now ≡ p → begun.params ≡ params → begun.iterations ≡ 0 → reached begun [] ≡ empty_run params seed → IsSameIteration begun filled →
    ((r : Run) → Stands first begun first r → Stands first filled first (populated begun.given.now begun.params r)) →
    ((r : Run) → Stands first filled first r → Stands first ended us (run_on filled.given.now filled.params (filled.params.max_iterations - filled.iterations) r)) →
    Stands first ended us (run p params seed)
whole-run p params seed first us begun filled ended problem same_params none empty same fills goes =
    let all : params.max_iterations - 0 ≡ params.max_iterations = omega arith in
    let r = empty_run params seed in
    let begins : Stands first begun first r = record { same = empty; rises = rose_over-none begun.given.now begun.params.neighbourhood first } in
    subst (λ (n : ℕ). Stands first ended us (run_on p params n (first_run p params seed))) all
    (subst (Stands first ended us)
    (λ i. run_on ((same.run.problem ∙ problem) i) ((same.run.params ∙ same_params) i) (((same.run.params ∙ same_params) i).max_iterations - (same.iterations ∙ none) i) (populated (problem i) (same_params i) r))
    (goes (populated begun.given.now begun.params r) (fills r begins)))

-- the counts of the kit rose over the descents of the run where the problem and the parameters are those
pub rose-in : (p : Problem) (params : Params) (first us : List Tally) (ended : RunState) (r : Run) → ended.given.now ≡ p → ended.params ≡ params →
    Stands first ended us r → RoseOver p params.neighbourhood r.descents first us
rose-in p params first us ended r problem same_params stands =
    subst (λ (x : Params). RoseOver p x.neighbourhood r.descents first us) same_params
    (subst (λ (q : Problem). RoseOver q ended.params.neighbourhood r.descents first us) problem stands.rises)
