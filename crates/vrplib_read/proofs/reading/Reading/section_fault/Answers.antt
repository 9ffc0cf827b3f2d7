use Rattle.std.proofs.Common.{refl, sym, ◌∙◌}
use Rattle.vrplib_read.proofs.ReadingLaws.{section-checks, section-supported}
use Rattle.vrplib_read.proofs.reading.Reading.section_fault.Goals as goal

pub returns-then-is_short-clause-fault : goal.returns-then-is_short-clause-fault
returns-then-is_short-clause-fault c = λ before h.
    sym (section-checks c.args.self.now.mode c.args.key.now c.args.section before _ _ _ _ c.requires (sym (c.is_short.ensures before h) ∙ c.if-is_short.true) refl refl refl)

pub returns-then-is_repeated-clause-fault : goal.returns-then-is_repeated-clause-fault
returns-then-is_repeated-clause-fault c = λ before h.
    sym (section-checks c.args.self.now.mode c.args.key.now c.args.section before _ _ _ _ c.requires (sym (c.is_short.ensures before h) ∙ c.if-is_short.false)
    (sym (c.is_repeated.ensures before h) ∙ c.if-is_repeated.true) refl refl)

pub returns-in-Some-clause-fault : goal.returns-in-Some-clause-fault
returns-in-Some-clause-fault c = λ before h.
    sym (section-checks c.args.self.now.mode c.args.key.now c.args.section before _ _ _ _ c.requires (sym (c.is_short.ensures before h) ∙ c.if-is_short.false)
    (sym (c.is_repeated.ensures before h) ∙ c.if-is_repeated.false) (sym (c.in-Some.ensures.value _ before h.keywords)) refl)

pub returns-in-None-clause-fault : goal.returns-in-None-clause-fault
returns-in-None-clause-fault c = λ before h.
    section-supported c.args.self.now.mode c.args.key.now c.args.section before _ c.requires (sym (c.is_short.ensures before h) ∙ c.if-is_short.false)
    (sym (c.is_repeated.ensures before h) ∙ c.if-is_repeated.false) (sym (c.in-None.ensures.value _ before h.keywords)) (c.unsupported_fault.ensures before h)
