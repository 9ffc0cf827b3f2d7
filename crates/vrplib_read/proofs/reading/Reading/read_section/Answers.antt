use Rattle.vrplib_read.proofs.ReadingLaws.{section-fresh}
use Rattle.vrplib_read.proofs.reading.Reading.read_section.Goals as goal

pub returns-in-Some : goal.returns-in-Some
returns-in-Some c = λ before h. record { judged = c.in-Some.ensures.fault before h; kept = λ none. absurd (cc) }

pub returns-in_ok-open-in-None : goal.returns-in_ok-open-in-None
returns-in_ok-open-in-None c = λ before h. record {
  judged = c.in-None.ensures.fault before h;
  kept = λ _. c.in_ok-open-in-None.ensures before h (section-fresh c.args.self.now.mode c.args.key.now _ before c.of_key-section.ensures (c.in-None.ensures.fault before h));
}
