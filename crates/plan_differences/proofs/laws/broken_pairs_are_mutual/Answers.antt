use Rattle.plan_differences.proofs.MutualPairs.{pairs-mutual}
use Rattle.plan_differences.proofs.laws.broken_pairs_are_mutual.Goals as goal

pub returns : goal.returns
returns c = pairs-mutual
