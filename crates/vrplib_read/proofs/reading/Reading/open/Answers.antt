use Rattle.std.proofs.Common.{◌∙◌, ap, sym, subst}
use Rattle.std.specs.Prelude.{is_some}
use Rattle.vrplib_rows.specs.KnownKeywords.{KnowsKeywords}
use Rattle.vrplib_read.proofs.ReadingLaws.{opened-there, stands-section}
use Rattle.vrplib_read.proofs.reading.Reading.open.Goals as goal

pub returns : goal.returns
returns c = λ before h fresh. stands-section c.args.self.now.mode c.args.key.now before c.args.section c.args.self.now _ h c.requires.same fresh
    c.add_known.ensures.same.0
    (c.opened-self.ensures.value c.args.self.now.mode before (subst (KnowsKeywords c.args.self.now.mode before) (sym c.add_known.ensures.same.1) h.keywords))
    c.add_known.ensures.same.1 c.in_ok-add_known.ensures.added

pub invariant_of-self : goal.invariant_of-self
invariant_of-self c = record {
  keyed = c.add_known.new.self.keyed;
  sized = c.add_known.new.self.sized;
  opened = λ s at. ap is_some (c.in_ok-add_known.ensures.added s) ∙ opened-there c.args.section _ s _ (c.opened-self.ensures.within s at);
}
