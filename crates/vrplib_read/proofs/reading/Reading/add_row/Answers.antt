use Rattle.std.proofs.Common.{◌∙◌}
use Rattle.std.proofs.lemmas.Result.{IfOk-weaker}
use Rattle.vrplib_model.specs.Lines.{tokens}
use Rattle.vrplib_read.proofs.ReadingLaws.{row_fault-found}
use Rattle.vrplib_read.proofs.SectionMaps.{keyed-kept, some-kept, sized-kept}
use Rattle.vrplib_read.proofs.reading.Reading.add_row.Goals as goal

pub invariant_of-self : goal.invariant_of-self
invariant_of-self c = record {
  keyed = λ s. keyed-kept s _ _ _ (c.add_row.ensures.kept s) (c.args.self.now.keyed s);
  sized = λ s. sized-kept _ _ _ (c.add_row.ensures.kept s) (c.args.self.now.sized s);
  opened = λ s at. some-kept _ _ (c.add_row.ensures.kept s) ∙ c.args.self.now.opened s at;
}

pub returns-clause-fault : goal.returns-clause-fault
returns-clause-fault c = IfOk-weaker c.add_row.result _ _ (λ fault h before st.
    row_fault-found c.args.self.now.mode before c.args.section (tokens c.args.line.now) c.weight_count-weights.result fault _ (c.args.self.now.opened c.args.section c.requires)
    (st.sections c.args.section) (c.weight_count-weights.ensures.value _ before st.keywords) h) c.add_row.ensures.fault
