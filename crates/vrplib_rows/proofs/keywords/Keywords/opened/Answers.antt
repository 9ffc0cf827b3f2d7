use Rattle.vrplib_rows.proofs.keywords.Keywords.opened.Goals as goal

pub returns-in-Some-clause-value : goal.returns-in-Some-clause-value
returns-in-Some-clause-value c = λ mode before h. rw c.in-Some.is (c.known_opened.ensures.value mode before h)
