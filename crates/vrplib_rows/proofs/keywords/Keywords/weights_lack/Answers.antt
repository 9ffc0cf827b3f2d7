use Rattle.std.proofs.Common.{sym, ◌∙◌, refl}
use Rattle.vrplib_model.specs.declared.keyword.Keyword.TheVariants.{EdgeWeightType as edge_weight_type, EdgeWeightFormat as edge_weight_format}
use Rattle.vrplib_rows.proofs.keywords.Keywords.weights_lack.Goals as goal
use Rattle.vrplib_rows.proofs.keywords.Keywords.weights_lack.Goals.{else-is_explicit-via-then-is_explicit+else-not-is_given-2, else-is_explicit-via-else-is_explicit}

pub returns-then-not-is_given-2 : goal.returns-then-not-is_given-2
returns-then-not-is_given-2 c = λ mode before h.
    rw (
      h.given edge_weight_type ∙ (sym c.is_given.ensures ∙ c.if-not-is_given.false),
      h.explicit ∙ (sym c.is_explicit.ensures ∙ c.if-is_explicit.true),
      h.given edge_weight_format ∙ (sym c.is_given-then-is_explicit.ensures ∙ c.if-not-is_given-2.true),
    ) refl

pub returns-else-is_explicit : goal.returns-else-is_explicit
returns-else-is_explicit c = λ mode before h. rw (h.given edge_weight_type ∙ (sym c.is_given.ensures ∙ c.if-not-is_given.false))
    (elim c.else-is_explicit.branch [
      | else-is_explicit-via-then-is_explicit+else-not-is_given-2 w ↦ rw (
        h.explicit ∙ (sym c.is_explicit.ensures ∙ w.if-is_explicit.true),
        h.given edge_weight_format ∙ (sym w.is_given-then-is_explicit.ensures ∙ w.if-not-is_given-2.false),
      ) refl
      | else-is_explicit-via-else-is_explicit w ↦ rw (h.explicit ∙ (sym c.is_explicit.ensures ∙ w.if-is_explicit.false)) refl
    ])
