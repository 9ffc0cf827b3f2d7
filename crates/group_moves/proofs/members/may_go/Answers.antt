use Rattle.std.proofs.Common.{◌∙◌, sym, ap}
use Rattle.problem_data.specs.declared.problem.Client.{Client}
use Rattle.problem_data.specs.declared.problem.Problem.{Problem}
use Rattle.problem_data.specs.Places.{client_at}
use Rattle.routing_model.proofs.GroupChanges.{own-inside}
use Rattle.group_moves.proofs.members.may_go.Goals as goal

pub is_required_group-requires : goal.is_required_group-requires
is_required_group-requires c =
    own-inside c.args.search.now.problem c.data.ensures.sound.valid c.args.client c.requires c.in-Some.group (ap (λ (p : Problem). (client_at p c.args.client).group) (sym c.data.ensures.problem) ∙ ap (λ (x : Client). x.group) (sym c.client-visited.ensures.client) ∙ c.in-Some.is)
