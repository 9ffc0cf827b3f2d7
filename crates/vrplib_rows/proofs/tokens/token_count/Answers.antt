use Rattle.std.proofs.Common.{rules, tests, ap, ◌∙◌}
use Rattle.std.specs.Prelude.{nat_lt, length}
use Rattle.std.proofs.lemmas.Iterator.Consumers.{YieldsList-from_filter, count_from_yields_List}
use Rattle.std.proofs.lemmas.Iterator.Splits.{YieldsList-from_slice_split}
use Rattle.vrplib_model.specs.Lines.{is_blank}
use Rattle.vrplib_rows.proofs.tokens.token_count.Goals as goal

pub returns : goal.returns
returns c =
    count_from_yields_List c.filter.result c.count.result c.count.ensures.ran
    (YieldsList-from_filter _ (λ part. nat_lt 0 (length part))
    (YieldsList-from_slice_split {s = c.filter.result.iter} _ is_blank c.args.text.now (ap (λ s. s.rest.now) c.filter.ensures.source ∙ c.split.ensures.rest)
    (ap (λ s. s.done) c.filter.ensures.source ∙ c.split.ensures.done) (ap (λ s. s.pred) c.filter.ensures.source ∙ c.split.ensures.closure) (λ x b q k. search (rules, tests)))
    c.filter.ensures.closure (λ x b q k. search (rules, tests)))
