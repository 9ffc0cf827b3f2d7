use Rattle.std.proofs.Common.{◌≡◌, ◌∙◌, ◌<◌, sym, ap, ap₂, refl, ℕ, false, length, replicate, arith, Vec, Global}
use Rattle.problem_data.specs.declared.problem.Problem.{Problem}
use Rattle.random_plans.specs.inside.Choices.{is_taken, state_past}
use Rattle.random_plans.proofs.GroupMarks.{group_marks-none}
use Rattle.random_plans.proofs.WalkSteps.{walked, choice_next, picked-yes, picked-no, state-more}
use Rattle.random_plans.proofs.choosing.chosen_clients.Goals.{then-is_chosen+in_ok-push, else-is_chosen}
use Rattle.random_plans.proofs.choosing.chosen_clients.Goals as goal

pub loop-at-init : goal.loop-at-init
loop-at-init c =
    let count : length c.items.result.now ≡ length c.args.given.now.groups = ap length c.items.ensures ∙ ap (λ (p : Problem). length p.groups) c.problem.ensures.same in
    record {
      marks = c.in_ok-marks.ensures.items_if_clones_equal (λ x h. h) ∙ ap (λ (n : ℕ). replicate n false) count ∙ sym (group_marks-none c.args.given.now);
      chosen = c.new-chosen.ensures.items;
      state = refl;
    }

pub loop-at-preserved : goal.loop-at-preserved
loop-at-preserved c =
    let p = c.args.given.now in
    let order = c.args.order.now in
    let at = c.loop-at.at in
    let here : at < length order = omega arith in
    let taken : is_taken (choice_next p order at) (walked p order c.args.generator.now at).state ≡ c.is_chosen.result =
    sym (c.is_chosen.ensures.chosen ∙ ap₂ is_taken c.choice_at-choice.ensures.choice c.loop-at.invariant.state) in
    record {
      marks = c.choice_at-choice.ensures.marks;
      chosen = elim c.if-is_chosen.branch [
        | then-is_chosen+in_ok-push w ↦ ap (λ (v : Vec ℕ Global). v.items) w.chosen-is ∙ w.in_ok-push.ensures.items
            ∙ picked-yes p order c.args.generator.now at c.loop-at.chosen.items here (taken ∙ w.if-is_chosen.true) c.loop-at.invariant.chosen
        | else-is_chosen w ↦ ap (λ (v : Vec ℕ Global). v.items) w.chosen-is
            ∙ picked-no p order c.args.generator.now at c.loop-at.chosen.items here (taken ∙ w.if-is_chosen.false) c.loop-at.invariant.chosen
      ];
      state = c.is_chosen.ensures.state ∙ ap₂ state_past c.choice_at-choice.ensures.choice c.loop-at.invariant.state ∙ sym (state-more p order c.args.generator.now at here);
    }
