use Rattle.std.proofs.Common.{◌∙◌, ap}
use Rattle.vrplib_read.proofs.SectionMaps.{keyed-put, some-put}
use Rattle.vrplib_read.proofs.reading.Reading.add_section.Goals as goal

pub invariant_of-self : goal.invariant_of-self
invariant_of-self c = record {
  keyed = λ s. keyed-put c.args.section s _ _ _ c.in_ok-rows.rows (ap (λ l. l.section) c.in_ok-rows.ensures) (ap (λ l. l.nodes) c.in_ok-rows.ensures ∙ c.nodes.ensures.value) (c.put_rows.ensures.either s) (c.args.self.now.keyed s);
  sized = λ s x there. c.requires;
  opened = λ s at. some-put c.args.section s _ _ c.in_ok-rows.rows (c.put_rows.ensures.either s) (c.args.self.now.opened s at);
}
