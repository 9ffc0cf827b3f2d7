use Rattle.random_model.proofs.LawfulDraws.{random-lawful}
use Rattle.random_model.proofs.laws.random_solutions_are_lawful.Goals as goal

pub returns : goal.returns
returns c = random-lawful
