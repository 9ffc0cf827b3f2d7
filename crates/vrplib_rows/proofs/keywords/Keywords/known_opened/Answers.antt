use Rattle.vrplib_rows.proofs.keywords.Keywords.known_opened.Goals as goal

pub returns-in-EdgeWeight-clause-value : goal.returns-in-EdgeWeight-clause-value
returns-in-EdgeWeight-clause-value c = λ mode before h. rw c.in-EdgeWeight.is (c.weights_opened.ensures.value mode before h)
