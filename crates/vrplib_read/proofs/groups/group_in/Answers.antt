use Rattle.std.proofs.Common.{◌∙◌, sym}
use Rattle.vrplib_read.proofs.GroupLaws.{first_group}
use Rattle.vrplib_read.proofs.groups.group_in.Goals as goal

pub returns-in-Some : goal.returns-in-Some
returns-in-Some c =
    let rows = c.args.rows.now in
    sym c.in-Some.is ∙ c.row_of.ensures.first ∙ first_group rows.section rows.nodes c.args.node rows.rows c.requires.kind c.requires.least c.row_of.ensures.bounds

pub returns-in-None : goal.returns-in-None
returns-in-None c =
    let rows = c.args.rows.now in
    sym c.in-None.is ∙ c.row_of.ensures.first ∙ first_group rows.section rows.nodes c.args.node rows.rows c.requires.kind c.requires.least c.row_of.ensures.bounds
