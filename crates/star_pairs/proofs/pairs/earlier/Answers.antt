use Rattle.star_pairs.proofs.BestLaws.{best-next, best-stays}
use Rattle.star_pairs.proofs.pairs.earlier.Goals as goal

pub returns-then-is_before : goal.returns-then-is_before
returns-then-is_before c = λ a b i j in_a in_b so_far is. best-next a b i j c.args.best c.args.pair in_a in_b so_far is (c.is_before.ensures.before c.if-is_before.true)

pub returns-else-is_before : goal.returns-else-is_before
returns-else-is_before c = λ a b i j in_a in_b so_far is. best-stays a b i j c.args.best c.args.pair so_far is (c.is_before.ensures.not_before c.if-is_before.false)
