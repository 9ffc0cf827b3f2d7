use Rattle.std.proofs.Common.{◌∙◌}
use Rattle.vrplib_model.specs.Lines.{tokens}
use Rattle.vrplib_rows.proofs.KeywordLaws.{keyword_line-found, keyword_line-passed}
use Rattle.vrplib_rows.proofs.keywords.Keywords.read_line.Goals as goal

pub returns-in-Some-clause-fault : goal.returns-in-Some-clause-fault
returns-in-Some-clause-fault c = λ before h.
    keyword_line-found c.args.mode _ c.args.key.now (tokens c.args.value.now) before _ c.of_key-keyword.ensures (c.in-Some.ensures.value c.args.mode before h)

pub returns-in-None-clause-fault : goal.returns-in-None-clause-fault
returns-in-None-clause-fault c = λ before h.
    c.read_known.ensures.fault ∙ keyword_line-passed c.args.mode _ c.args.key.now (tokens c.args.value.now) before c.of_key-keyword.ensures (c.in-None.ensures.value c.args.mode before h)
