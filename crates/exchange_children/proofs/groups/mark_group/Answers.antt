use Rattle.std.proofs.Common.{◌≡◌, ◌∙◌, ℕ, IsTrue, Some, ap, arith, subst, sym}
use Rattle.problem_data.specs.declared.problem.Client.{Client}
use Rattle.problem_data.specs.declared.visit.Visit.{Visit}
use Rattle.problem_data.specs.Places.{client_at}
use Rattle.routing_model.specs.Lawful.{names_place}
use Rattle.random_model.proofs.GroupMembers.{group_in_range}
use Rattle.exchange_children.proofs.groups.mark_group.Goals as goal

pub bounds-marks-group : goal.bounds-marks-group
bounds-marks-group c =
    let p = c.args.given.now in
    let place : ℕ = c.in-Client.place in
    let group : ℕ = c.in-Some.group in
    let e : (client_at p place).group ≡ Some group = sym (ap (λ (x : Client). x.group) c.client.ensures.client) ∙ c.in-Some.is in
    let there = group_in_range p place group c.validity.ensures (subst (λ (v : Visit). IsTrue (names_place p v)) c.in-Client.is c.requires.named) e in
    let marks = c.requires.groups in
    omega arith
