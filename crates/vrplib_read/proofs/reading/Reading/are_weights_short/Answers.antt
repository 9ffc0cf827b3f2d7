use Rattle.std.proofs.Common.{◌∙◌, refl}
use Rattle.vrplib_model.specs.declared.section.Section.TheVariants.{EdgeWeight as edge_weight_section}
use Rattle.vrplib_read.proofs.ReadingLaws.{number_count-known}
use Rattle.vrplib_read.proofs.reading.Reading.are_weights_short.Goals as goal

pub returns : goal.returns
returns c = λ before h.
    let count = c.number_count.ensures ∙ number_count-known _ before edge_weight_section _ (h.sections edge_weight_section) in
    rw (count, c.weight_count.ensures.value _ before h.keywords) refl
