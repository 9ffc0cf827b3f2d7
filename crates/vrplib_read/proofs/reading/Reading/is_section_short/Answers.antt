use Rattle.vrplib_read.proofs.reading.Reading.is_section_short.Goals as goal

pub returns-in-EdgeWeight : goal.returns-in-EdgeWeight
returns-in-EdgeWeight c = λ before h. rw c.in-EdgeWeight.is (c.are_weights_short.ensures before h)
