use Rattle.std.proofs.Common.{◌∙◌, sym, ap}
use Rattle.problem_data.specs.declared.problem.Client.{Client}
use Rattle.problem_data.specs.declared.problem.Problem.{Problem}
use Rattle.problem_data.specs.Places.{client_at, group_at}
use Rattle.routing_model.proofs.GroupChanges.{lets_in, own-inside}
use Rattle.group_moves.specs.inside.Groups.{are_unvisited}
use Rattle.group_moves.proofs.VisitedMembers.{none-counted}
use Rattle.group_moves.proofs.members.may_come.Goals as goal

pub members-requires : goal.members-requires
members-requires c =
    own-inside c.args.search.now.problem c.data.ensures.sound.valid c.args.client c.requires c.in-Some.group
    (ap (λ (p : Problem). (client_at p c.args.client).group) (sym c.data.ensures.problem) ∙ ap (λ (x : Client). x.group) (sym c.client.ensures.client) ∙ c.in-Some.is)

pub returns-in-Some : goal.returns-in-Some
returns-in-Some c =
    let s = c.args.search.now in
    c.is_unvisited.ensures
    ∙ ap (are_unvisited s.routes) c.members.ensures
    ∙ none-counted s c.data.ensures.sound (group_at s.problem c.in-Some.group)
    ∙ ap (lets_in s.problem s.routes)
    (sym (ap (λ (p : Problem). (client_at p c.args.client).group) (sym c.data.ensures.problem) ∙ ap (λ (x : Client). x.group) (sym c.client.ensures.client) ∙ c.in-Some.is))
