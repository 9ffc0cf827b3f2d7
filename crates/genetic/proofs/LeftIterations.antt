-- The iterations that are left to a run.
use Rattle.std.proofs.Common.{◌≡◌, ◌∙◌, ◌+◌, ◌-◌, ◌≤◌, ◌<◌, ℕ, suc, Bool, true, false, List, ap, arith, subst, sym}
use Rattle.std.specs.Prelude.{if◌then◌else◌}
use Rattle.problem_data.specs.declared.problem.Problem.{Problem}
use Rattle.genetic_model.specs.declared.params.Params.{Params}
use Rattle.genetic_model.specs.Run.{Run, is_stalled, iteration, run_on}
use Rattle.move_core.specs.declared.tally.Tally.{Tally}
use Rattle.genetic.specs.declared.run.Run.{Run as RunState}
use Rattle.genetic.specs.inside.Runs.{IsOnItsWay, IsSameRun, Stands}

-- the iterations that are left
abbrev pub left : RunState → ℕ
left run = run.params.max_iterations - run.iterations

-- where some are left, a run ends if it is stalled, and else goes on with the next
one-more : (p : Problem) (params : Params) (n m : ℕ) (r : Run) (b : Bool) → n ≡ suc m → is_stalled params.no_improvement r.idle ≡ b →
    run_on p params n r ≡ (if b then r else run_on p params m (iteration p params r))
one-more p params n m r b more stalled =
    ap (λ (k : ℕ). run_on p params k r) more ∙ ap (λ (x : Bool). if x then r else run_on p params m (iteration p params r)) stalled

is_stalled-at : (first ts : List Tally) (run : RunState) (r : Run) (b : Bool) → Stands first run ts r →
    is_stalled run.params.no_improvement run.idle ≡ b → is_stalled run.params.no_improvement r.idle ≡ b
is_stalled-at first ts run r b stands stalled = subst (λ (x : Run). is_stalled run.params.no_improvement x.idle ≡ b) stands.same stalled

-- a run that isn't stalled is on its way after another iteration
pub goes-on : (first ts us : List Tally) (run next : RunState) (end : Run) → run.iterations < run.params.max_iterations →
    is_stalled run.params.no_improvement run.idle ≡ false → IsSameRun run next → next.iterations ≡ run.iterations + 1 →
    ((r : Run) → Stands first run ts r → Stands first next us (iteration run.given.now run.params r)) →
    IsOnItsWay first run ts (left run) end → IsOnItsWay first next us (left next) end
goes-on first ts us run next end more stalled same later step way =
    let p = run.given.now in
    let params = run.params in
    let rest : ℕ = params.max_iterations - (run.iterations + 1) in
    let one : left run ≡ suc rest = omega (arith, more) in
    let stands : Stands first run ts way.r = way.stands in
    record {
      r = iteration p params way.r;
      stands = step way.r stands;
      same = (λ i. run_on (same.problem i) (same.params i) ((same.params i).max_iterations - later i) (iteration p params way.r))
          ∙ sym (one-more p params (left run) rest way.r false one (is_stalled-at first ts run way.r false stands stalled)) ∙ way.same;
    }

-- a stalled run is at its end
pub ends-stalled : (first ts : List Tally) (run : RunState) (end : Run) → run.iterations < run.params.max_iterations →
    is_stalled run.params.no_improvement run.idle ≡ true → IsOnItsWay first run ts (left run) end → Stands first run ts end
ends-stalled first ts run end more stalled way =
    let rest : ℕ = run.params.max_iterations - (run.iterations + 1) in
    let one : left run ≡ suc rest = omega (arith, more) in
    subst (Stands first run ts) (sym (one-more run.given.now run.params (left run) rest way.r true one (is_stalled-at first ts run way.r true way.stands stalled)) ∙ way.same) way.stands

-- a run without iterations left is at its end
pub ends-done : (first ts : List Tally) (run : RunState) (end : Run) → run.params.max_iterations ≤ run.iterations →
    IsOnItsWay first run ts (left run) end → Stands first run ts end
ends-done first ts run end done way =
    let none : left run ≡ 0 = omega (arith, done) in
    subst (Stands first run ts) (sym (ap (λ (k : ℕ). run_on run.given.now run.params k way.r) none) ∙ way.same) way.stands
