use Rattle.route_cache.proofs.LawfulLists.{lawful-listed}
use Rattle.route_cache.proofs.laws.lists_of_lawful_plans_are_listed.Goals as goal

pub returns : goal.returns
returns c = lawful-listed
