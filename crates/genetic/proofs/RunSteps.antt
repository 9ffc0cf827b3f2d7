-- Steps of a run, beside those of the run of the definitions.
use Rattle.std.proofs.Common.{◌≡◌, ◌+◌, ◌∙◌, ℕ, zero, suc, List, ap, arith, refl, subst, sym}
use Rattle.list_words.specs.Lists.{times}
use Rattle.problem_data.specs.declared.problem.Problem.{Problem}
use Rattle.routing_model.specs.declared.weights.Assessment.{Assessment}
use Rattle.routing_model.specs.Feasible.{assessment}
use Rattle.routing_model.specs.Routes.{Routes}
use Rattle.genetic_model.specs.declared.params.Params.{Params}
use Rattle.genetic_model.specs.Penalties.{Penalties, registered}
use Rattle.genetic_model.specs.RandomDescent.{Start}
use Rattle.genetic_model.specs.Run.{Run, admitted, maybe_repaired, with_registration}
use Rattle.move_core.specs.declared.tally.Tally.{Tally}
use Rattle.random_descents.specs.Rises.{RoseOver}
use Rattle.genetic.specs.declared.run.Run.{Run as RunState}
use Rattle.genetic.specs.inside.Runs.{IsSameIteration, IsSameRun, Stands, reached}

-- a step from a run of the definitions is one from what the run has reached
pub stands-by : (first ts us : List Tally) (before after : RunState) (step : Run → Run) (r : Run) →
    ((starts : List Start) → RoseOver before.given.now before.params.neighbourhood starts first ts → Stands first after us (step (reached before starts))) →
    Stands first before ts r → Stands first after us (step r)
stands-by first ts us before after step r by stands = subst (λ (x : Run). Stands first after us (step x)) stands.same (by r.descents stands.rises)

-- reads are no part of what a run has reached
pub stands-read : (first ts : List Tally) (run : RunState) (reads : ℕ) (r : Run) → Stands first run ts r → Stands first (record run { reads = reads }) ts r
stands-read first ts run reads r stands = record { same = stands.same; rises = stands.rises }

-- a plan registered with the penalties
pub stands-registered : (first ts : List Tally) (run : RunState) (penalties : Penalties) (p : Problem) (routes : Routes) (r : Run) →
    penalties ≡ registered run.penalties (assessment p routes) → Stands first run ts r → Stands first (record run { penalties = penalties }) ts (with_registration p routes r)
stands-registered first ts run penalties p routes r new stands =
    subst (λ (x : Penalties). Stands first (record run { penalties = x }) ts (with_registration p routes r)) (sym new)
    (record { same = ap (with_registration p routes) stands.same; rises = stands.rises })

-- so it is where the plan was added, its copy, before
pub stands-added : (first ts : List Tally) (before added : RunState) (penalties : Penalties) (excess : Assessment) (routes copy : Routes) (starts : List Start) →
    copy ≡ routes → ((r : Run) → Stands first before ts r → Stands first added ts (admitted before.given.now copy r)) →
    excess ≡ assessment before.given.now routes → penalties ≡ registered added.penalties excess →
    RoseOver before.given.now before.params.neighbourhood starts first ts →
    Stands first (record added { penalties = penalties }) ts (with_registration before.given.now routes (admitted before.given.now routes (reached before starts)))
stands-added first ts before added penalties excess routes copy starts copied admits known new rises =
    let p = before.given.now in
    stands-registered first ts added penalties p routes (admitted p routes (reached before starts)) (new ∙ ap (registered added.penalties) known)
    (subst (λ (x : Routes). Stands first added ts (admitted p x (reached before starts))) copied (admits (reached before starts) (record { same = refl; rises = rises })))

-- a descended child added and registered, and repaired if need be
abbrev pub taken : Problem → Params → Routes → Run → Run
taken p params routes r = maybe_repaired p params routes (with_registration p routes (admitted p routes r))

-- a step more is done last
pub times-more : {X : Type 0} (step : X → X) (n : ℕ) (x : X) → times (n + 1) step x ≡ step (times n step x)
times-more {X} step n x = let next : n + 1 ≡ suc n = omega arith in ap (λ (k : ℕ). times k step x) next ∙ last n x
  where
    last : (k : ℕ) (y : X) → times (suc k) step y ≡ step (times k step y)
    last zero y = refl
    last (suc k) y = last k (step y)

pub same-run : (a b d : RunState) → IsSameRun a b → IsSameRun b d → IsSameRun a d
same-run a b d x y = record { problem = y.problem ∙ x.problem; params = y.params ∙ x.params }

pub same-iteration : (a b d : RunState) → IsSameIteration a b → IsSameIteration b d → IsSameIteration a d
same-iteration a b d x y = record { run = same-run a b d x.run y.run; idle = y.idle ∙ x.idle; stale = y.stale ∙ x.stale; iterations = y.iterations ∙ x.iterations }
