use Rattle.std.proofs.Common.{refl, [], subst, sym, ap}
use Rattle.std.specs.Map.{lookup}
use Rattle.vrplib_model.specs.Sections.{same_section}
use Rattle.vrplib_read.specs.inside.Stands.{KnowsSection}
use Rattle.vrplib_model.specs.Rows.{rows_of}
use Rattle.vrplib_read.proofs.reading.Reading.new.Goals as goal

pub returns : goal.returns
unfolding rows_of
returns c = record {
  same_mode = refl;
  position = refl;
  keywords = c.new.ensures c.args.mode;
  sections = λ s. subst (KnowsSection c.args.mode [] s) (sym (ap (lookup (same_section s)) c.new-2.ensures.empty)) (refl, refl);
}
