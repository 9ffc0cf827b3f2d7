use Rattle.std.proofs.Common.{◌∙◌}
use Rattle.vrplib_read.proofs.SectionKeys.{same_test, same_lookup}
use Rattle.vrplib_model.specs.contracts.section.SectionPartialEq.TheImpl.{eq-value}
use Rattle.vrplib_model.specs.Sections.{same_section}
use Rattle.vrplib_read.proofs.reading.Reading.rows_of.Goals as goal

pub returns : goal.returns
returns c = c.get.ensures.value ∙ same_lookup (eq-value.it c.args.section) (same_section c.args.section) (same_test c.args.section) c.args.self.now.sections.entries
