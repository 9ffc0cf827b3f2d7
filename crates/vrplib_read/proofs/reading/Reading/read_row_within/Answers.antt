use Rattle.std.proofs.Common.{Ok, sym, ◌∙◌, ap}
use Rattle.vrplib_model.specs.Lines.{tokens}
use Rattle.vrplib_model.specs.declared.position.Position.TheVariants.{Within as within}
use Rattle.vrplib_read.proofs.ReadingLaws.{after_row-same, row-within, stands-row-within}
use Rattle.vrplib_read.proofs.reading.Reading.read_row_within.Goals as goal

pub returns : goal.returns
returns c = λ before h. record {
  judged = row-within c.args.self.now.mode (tokens c.args.line.now) before c.args.section _ (sym h.position ∙ c.requires) (c.in_ok-fault.ensures.fault before h);
  kept = λ none. stands-row-within c.args.self.now.mode (tokens c.args.line.now) before c.args.section c.args.self.now _ h c.requires
      c.add_row.ensures.same.0 c.position_behind-self.ensures c.add_row.ensures.same.1 (c.args.self.now.opened c.args.section c.requires)
      (c.add_row.ensures.added (c.in_ok-fault.was ∙ ap Ok none));
}

pub invariant_of-self : goal.invariant_of-self
invariant_of-self c = record {
  keyed = c.add_row.new.self.keyed;
  sized = c.add_row.new.self.sized;
  opened = λ s at. c.add_row.new.self.opened s (c.add_row.ensures.same.2 ∙ (c.requires
      ∙ ap within (after_row-same (tokens c.args.line.now) c.args.section s (sym c.position_behind-self.ensures ∙ at))));
}
