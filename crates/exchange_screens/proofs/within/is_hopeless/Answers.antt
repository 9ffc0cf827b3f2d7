use Rattle.exchange_screens.proofs.DearTrials.{dear-answer}
use Rattle.exchange_screens.proofs.within.is_hopeless.Goals as goal

pub returns-in-Some-One-clause-hopeless : goal.returns-in-Some-One-clause-hopeless
returns-in-Some-One-clause-hopeless c = λ dear. dear-answer _ _ _ c.in-Some-One.ensures (rw c.in-Some-One.field-0-is (c.is_one_dear.ensures.dear dear))
