use Rattle.std.proofs.Common.{Some}
use Rattle.vrplib_read.proofs.SectionMaps.{lookup-updated, either-updated}
use Rattle.vrplib_read.proofs.reading.section_map.put_rows.Goals as goal

pub returns-clause-put : goal.returns-clause-put
returns-clause-put c =
    lookup-updated c.args.sections.now.entries c.insert.new.self.entries c.args.section (Some c.args.rows) c.in_ok-insert.ensures.updates.0

pub returns-clause-either : goal.returns-clause-either
returns-clause-either c = λ s. either-updated c.args.section s _ _ c.args.rows
    (lookup-updated c.args.sections.now.entries c.insert.new.self.entries c.args.section (Some c.args.rows) c.in_ok-insert.ensures.updates.0 s)
