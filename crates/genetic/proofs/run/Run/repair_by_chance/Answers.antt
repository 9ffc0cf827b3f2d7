use Rattle.std.proofs.Common.{◌≡◌, ◌∙◌, ℕ, Bool, true, false, nat_lt, ap, map, refl, subst, sym}
use Rattle.std.specs.Prelude.{if◌then◌else◌}
use Rattle.std.proofs.lemmas.Bool.{le-ltb, lt-ltb}
use Rattle.vrp_num.specs.Words.{State, drawn, next_state}
use Rattle.random_model.specs.Draws.{below}
use Rattle.genetic_model.specs.Run.{repaired, repaired_by}
use Rattle.genetic.specs.inside.Runs.{Stands, reached}
use Rattle.genetic.proofs.RunSteps.{stands-by}
use Rattle.genetic.proofs.run.Run.repair_by_chance.Goals as goal

pub returns-in_ok-repair-clause-stands : goal.returns-in_ok-repair-clause-stands
returns-in_ok-repair-clause-stands g c = λ first r.
    let s = c.args.self.now in
    let p = s.given.now in
    let plan = c.args.plan.now.routes in
    let after = c.repair.new.self in
    let ts = map (λ b. (goal.Operator-dyn g (b.vtable, b.value)).tally_of b.value) c.args.kit.now.items in
    let us = map (λ b. (goal.Operator-dyn g (b.vtable, b.value)).tally_of b.value) c.repair.new.kit.items in
    let chance : nat_lt (drawn 1000 s.generator) s.params.genetic.repair_probability ≡ true =
    ap (λ (n : ℕ). nat_lt n s.params.genetic.repair_probability) (sym c.below.ensures.drawn) ∙ lt-ltb _ _ c.if-below-self.true in
    stands-by first ts us s after (λ x. repaired_by p s.params plan (below 1000 x.state) x) r
    (λ starts rises.
    let x = record (reached s starts) { state = next_state s.generator } in
    subst (λ (b : Bool). Stands first after us (if b then repaired p s.params plan x else x)) (sym chance)
    (subst (λ (state : State). Stands first after us (repaired p s.params plan (record x { state = state }))) c.below.ensures.state
    (c.in_ok-repair.ensures.stands first (record x { state = c.below.new.self }) (record { same = refl; rises = rises }))))

pub returns-else-below-self-clause-stands : goal.returns-else-below-self-clause-stands
returns-else-below-self-clause-stands g c = λ first r.
    let s = c.args.self.now in
    let p = s.given.now in
    let plan = c.args.plan.now.routes in
    let after = record s { generator = c.below.new.self } in
    let ts = map (λ b. (goal.Operator-dyn g (b.vtable, b.value)).tally_of b.value) c.args.kit.now.items in
    let us = ts in
    let chance : nat_lt (drawn 1000 s.generator) s.params.genetic.repair_probability ≡ false =
    ap (λ (n : ℕ). nat_lt n s.params.genetic.repair_probability) (sym c.below.ensures.drawn) ∙ le-ltb _ _ c.if-below-self.false in
    stands-by first ts us s after (λ x. repaired_by p s.params plan (below 1000 x.state) x) r
    (λ starts rises.
    let x = record (reached s starts) { state = next_state s.generator } in
    subst (λ (b : Bool). Stands first after us (if b then repaired p s.params plan x else x)) (sym chance)
    (subst (λ (state : State). Stands first after us (record x { state = state })) c.below.ensures.state (record { same = refl; rises = rises })))
