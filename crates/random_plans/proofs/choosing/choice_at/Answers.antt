use Rattle.std.proofs.Common.{◌≡◌, ◌∙◌, sym, ap, ℕ, Bool, true, List, length, take, slice_index, Some, None}
use Rattle.std.proofs.Math.ListN.{set}
use Rattle.std.proofs.lemmas.List.{take_more}
use Rattle.problem_data.specs.declared.problem.Client.{Client}
use Rattle.problem_data.specs.Places.{client_at}
use Rattle.random_plans.specs.inside.Choices.{group_marks, choice_by_group}
use Rattle.random_model.proofs.GroupMembers.{group_in_range}
use Rattle.random_plans.proofs.GroupMarks.{length-group_marks, group_marks-alone, group_marks-more, choice-grouped}
use Rattle.random_plans.proofs.choosing.choice_at.Goals as goal

pub choice_in_group-requires-clause-group : goal.choice_in_group-requires-clause-group
choice_in_group-requires-clause-group c =
    let place : ℕ = slice_index c.args.order.now c.args.at in
    let e : (client_at c.args.given.now place).group ≡ Some c.in-Some.group = sym (ap (λ (x : Client). x.group) c.client-client.ensures.client) ∙ c.in-Some.is in
    group_in_range c.args.given.now place c.in-Some.group c.requires.valid (c.requires.clients c.args.at 0 c.requires.at) e

pub choice_in_group-requires-clause-marks : goal.choice_in_group-requires-clause-marks
choice_in_group-requires-clause-marks c =
    ap (λ (l : List Bool). length l) c.requires.marks ∙ length-group_marks c.args.given.now (take c.args.at c.args.order.now)

pub returns-in-Some-clause-choice : goal.returns-in-Some-clause-choice
returns-in-Some-clause-choice c =
    let place : ℕ = slice_index c.args.order.now c.args.at in
    let e : (client_at c.args.given.now place).group ≡ Some c.in-Some.group = sym (ap (λ (x : Client). x.group) c.client-client.ensures.client) ∙ c.in-Some.is in
    let inside = group_in_range c.args.given.now place c.in-Some.group c.requires.valid (c.requires.clients c.args.at 0 c.requires.at) e in
    c.choice_in_group.ensures.choice
    ∙ ap (λ (l : List Bool). choice_by_group c.args.given.now l c.in-Some.group) c.requires.marks
    ∙ choice-grouped c.args.given.now (take c.args.at c.args.order.now) place c.in-Some.group e inside

pub returns-in-Some-clause-marks : goal.returns-in-Some-clause-marks
returns-in-Some-clause-marks c =
    let place : ℕ = slice_index c.args.order.now c.args.at in
    let e : (client_at c.args.given.now place).group ≡ Some c.in-Some.group = sym (ap (λ (x : Client). x.group) c.client-client.ensures.client) ∙ c.in-Some.is in
    let inside = group_in_range c.args.given.now place c.in-Some.group c.requires.valid (c.requires.clients c.args.at 0 c.requires.at) e in
    c.choice_in_group.ensures.marks
    ∙ ap (λ (l : List Bool). set l c.in-Some.group true) c.requires.marks
    ∙ sym (group_marks-more c.args.given.now (take c.args.at c.args.order.now) place c.in-Some.group e inside)
    ∙ ap (group_marks c.args.given.now) (sym (take_more c.args.order.now c.args.at 0 c.requires.at))

pub returns-then-client-eq0-clause-marks : goal.returns-then-client-eq0-clause-marks
returns-then-client-eq0-clause-marks c =
    let place : ℕ = slice_index c.args.order.now c.args.at in
    let e : (client_at c.args.given.now place).group ≡ None = sym (ap (λ (x : Client). x.group) c.client-client.ensures.client) ∙ c.in-None.is in
    c.requires.marks
    ∙ sym (group_marks-alone c.args.given.now (take c.args.at c.args.order.now) place e)
    ∙ ap (group_marks c.args.given.now) (sym (take_more c.args.order.now c.args.at 0 c.requires.at))

pub returns-else-client-eq0-clause-marks : goal.returns-else-client-eq0-clause-marks
returns-else-client-eq0-clause-marks c =
    let place : ℕ = slice_index c.args.order.now c.args.at in
    let e : (client_at c.args.given.now place).group ≡ None = sym (ap (λ (x : Client). x.group) c.client-client.ensures.client) ∙ c.in-None.is in
    c.requires.marks
    ∙ sym (group_marks-alone c.args.given.now (take c.args.at c.args.order.now) place e)
    ∙ ap (group_marks c.args.given.now) (sym (take_more c.args.order.now c.args.at 0 c.requires.at))
