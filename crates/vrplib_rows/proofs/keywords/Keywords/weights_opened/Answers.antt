use Rattle.std.proofs.Common.{refl, sym, ◌∙◌}
use Rattle.vrplib_rows.proofs.keywords.Keywords.weights_opened.Goals as goal

pub returns-then-is_euclidean-clause-value : goal.returns-then-is_euclidean-clause-value
returns-then-is_euclidean-clause-value c = λ mode before h. rw (h.euclidean ∙ (sym c.is_euclidean.ensures ∙ c.if-is_euclidean.true)) refl

pub returns-else-is_euclidean-clause-value : goal.returns-else-is_euclidean-clause-value
returns-else-is_euclidean-clause-value c = λ mode before h. rw (h.euclidean ∙ (sym c.is_euclidean.ensures ∙ c.if-is_euclidean.false)) refl
