use Rattle.std.proofs.Common.{ap}
use Rattle.vrplib_rows.specs.Told.{told}
use Rattle.vrplib_read.proofs.ReadingLaws.{empty-judged, end-judged}
use Rattle.vrplib_read.proofs.reading.Reading.read_kind.Goals as goal

pub returns-in-Empty : goal.returns-in-Empty
returns-in-Empty c = λ before h. empty-judged c.args.self.now (told c.args.line) before (ap told c.in-Empty.is) h

pub returns-in-EndOfFile : goal.returns-in-EndOfFile
returns-in-EndOfFile c = λ before h. end-judged c.args.self.now (told c.args.line) _ before (ap told c.in-EndOfFile.is) (c.end_fault.ensures before h) h
