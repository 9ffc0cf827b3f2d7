use Rattle.std.proofs.Common.{sym, ◌∙◌}
use Rattle.vrplib_model.specs.declared.keyword.Keyword.TheVariants.{Dimension as dimension}
use Rattle.vrplib_rows.proofs.keywords.Keywords.known_section_lacks.Goals as goal

pub returns-in-EdgeWeight-clause-value : goal.returns-in-EdgeWeight-clause-value
returns-in-EdgeWeight-clause-value c = λ mode before h.
    rw c.in-EdgeWeight.is (rw (h.given dimension ∙ (sym c.is_given.ensures ∙ c.if-not-is_given.false)) (c.weights_lack.ensures mode before h))
