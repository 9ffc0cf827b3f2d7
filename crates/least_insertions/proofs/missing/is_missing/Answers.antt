use Rattle.std.proofs.Common.{◌≡◌, ◌∙◌, Some, ap, sym}
use Rattle.problem_data.specs.declared.problem.Client.{Client}
use Rattle.problem_data.specs.Places.{client_at}
use Rattle.random_model.proofs.GroupMembers.{group_in_range}
use Rattle.least_insertions.proofs.missing.is_missing.Goals as goal

pub leads_unserved-requires-clause-group : goal.leads_unserved-requires-clause-group
leads_unserved-requires-clause-group c =
    let e : (client_at c.args.given.now c.args.client).group ≡ Some c.in-Some.group = sym (ap (λ (x : Client). x.group) c.client-about.ensures.client) ∙ c.in-Some.is in
    group_in_range c.args.given.now c.args.client c.in-Some.group c.validity.ensures c.requires.client e
