use Rattle.std.proofs.Common.{refl, sym, ◌∙◌}
use Rattle.vrplib_read.proofs.reading.Reading.unsupported_fault.Goals as goal

pub returns-then-is_unsupported_section : goal.returns-then-is_unsupported_section
returns-then-is_unsupported_section c = λ before h.
    rw (sym c.is_of_vehicles.ensures ∙ c.if-is_of_vehicles.false, sym (c.is_unsupported_section.ensures _ before h.keywords) ∙ c.if-is_unsupported_section.true) refl

pub returns-else-is_unsupported_section : goal.returns-else-is_unsupported_section
returns-else-is_unsupported_section c = λ before h.
    rw (sym c.is_of_vehicles.ensures ∙ c.if-is_of_vehicles.false, sym (c.is_unsupported_section.ensures _ before h.keywords) ∙ c.if-is_unsupported_section.false) refl
