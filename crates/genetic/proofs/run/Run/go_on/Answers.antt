use Rattle.std.proofs.Common.{◌∙◌, ◌≤◌, ◌<◌, map, subst, sym}
use Rattle.genetic_model.specs.declared.params.Params.{Params}
use Rattle.genetic_model.specs.Run.{run_on}
use Rattle.genetic.proofs.LeftIterations.{ends-done, ends-stalled, goes-on, left}
use Rattle.genetic.proofs.RunSteps.{same-run}
use Rattle.genetic.proofs.run.Run.go_on.Goals as goal

pub loop-self-preserved : goal.loop-self-preserved
loop-self-preserved g c =
    let s = c.args.self.now in
    let ts = map (λ b. (goal.Operator-dyn g (b.vtable, b.value)).tally_of b.value) c.args.kit.now.items in
    let us = map (λ b. (goal.Operator-dyn g (b.vtable, b.value)).tally_of b.value) c.loop-self.kit.items in
    let vs = map (λ b. (goal.Operator-dyn g (b.vtable, b.value)).tally_of b.value) c.iterate.new.kit.items in
    let done = c.in_ok-iterate.ensures in
    let more = subst (λ (y : Params). c.loop-self.self.iterations < y.max_iterations) (sym c.loop-self.invariant.same.params) c.loop-self-test.true in
    record {
      running = done.running;
      same = same-run s c.loop-self.self c.iterate.new.self c.loop-self.invariant.same done.same;
      idle = done.idle;
      stale = done.stale;
      kinds = done.kinds;
      some = done.some;
      stands = λ first r stands.
          goes-on first us vs c.loop-self.self c.iterate.new.self (run_on s.given.now s.params (left s) r) more
          (sym c.is_stalled.ensures ∙ c.if-is_stalled.false) done.same done.iterations (done.stands first) (c.loop-self.invariant.stands first r stands);
    }

pub returns-then-is_stalled-clause-stands : goal.returns-then-is_stalled-clause-stands
returns-then-is_stalled-clause-stands g c = λ first r stands.
    let s = c.args.self.now in
    let more = subst (λ (y : Params). c.loop-self.self.iterations < y.max_iterations) (sym c.loop-self.invariant.same.params) c.loop-self-test.true in
    ends-stalled first (map (λ b. (goal.Operator-dyn g (b.vtable, b.value)).tally_of b.value) c.loop-self.kit.items) c.loop-self.self (run_on s.given.now s.params (left s) r) more
    (sym c.is_stalled.ensures ∙ c.if-is_stalled.true) (c.loop-self.invariant.stands first r stands)

pub returns-clause-stands : goal.returns-clause-stands
returns-clause-stands g c = λ first r stands.
    let s = c.args.self.now in
    let done = subst (λ (y : Params). y.max_iterations ≤ c.loop-self.self.iterations) (sym c.loop-self.invariant.same.params) c.loop-self-test.false in
    ends-done first (map (λ b. (goal.Operator-dyn g (b.vtable, b.value)).tally_of b.value) c.loop-self.kit.items) c.loop-self.self (run_on s.given.now s.params (left s) r) done
    (c.loop-self.invariant.stands first r stands)
