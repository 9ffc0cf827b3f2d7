use Rattle.std.proofs.Common.{sym, ◌∙◌, subst, ◌∷◌}
use Rattle.vrplib_rows.specs.KnownKeywords.{KnowsKeywords}
use Rattle.vrplib_model.specs.LineKinds.{keyword_line}
use Rattle.vrplib_model.specs.Lines.{tokens}
use Rattle.vrplib_rows.proofs.KeywordLaws.{keyword_of-name, knows-same, unknown-value}
use Rattle.vrplib_rows.proofs.keywords.Keywords.read_known.Goals as goal

pub returns-in-None-clause-kept : goal.returns-in-None-clause-kept
returns-in-None-clause-kept c = λ _ before h.
    knows-same c.args.mode before _ c.args.self.now (λ k. unknown-value c.args.key.now (tokens c.args.value.now) before k (sym c.requires.known ∙ c.in-None.is)) h

pub returns-in-Some-clause-kept : goal.returns-in-Some-clause-kept
returns-in-Some-clause-kept c = λ none before h.
    subst (λ key. KnowsKeywords c.args.mode (keyword_line key (tokens c.args.value.now) ∷ before) c.read_value.new.self)
    (keyword_of-name c.args.key.now c.in-Some.keyword (sym c.requires.known ∙ c.in-Some.is)) (c.read_value.ensures.kept none before h)
