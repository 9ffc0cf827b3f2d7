use Rattle.vrplib_rows.proofs.keywords.Keywords.section_lacks.Goals as goal

pub returns-in-Some-clause-value : goal.returns-in-Some-clause-value
returns-in-Some-clause-value c = λ mode before h. rw c.in-Some.is (c.known_section_lacks.ensures.value mode before h)
