use Rattle.std.proofs.Common.{sym, ◌∙◌, ap, ltb, ◌||◌}
use Rattle.std.specs.Prelude.{slice_index}
use Rattle.std.specs.List.{list_any}
use Rattle.std.proofs.lemmas.Bool.{or_left}
use Rattle.vrplib_rows.proofs.RowOwners.{comes_again_is}
use Rattle.vrplib_rows.proofs.owners.comes_again.Goals as goal

pub returns-then-has_repeated-clause-answer : goal.returns-then-has_repeated-clause-answer
returns-then-has_repeated-clause-answer c = λ nodes rows o.
    c.if-has_repeated.true ∙ sym (comes_again_is c.args.section nodes rows c.args.owners.now c.args.named.now o c.requires.apart c.requires.owners ∙ or_left _ _ (sym c.has_repeated.ensures.answer ∙ c.if-has_repeated.true))

pub returns-else-has_repeated-clause-answer : goal.returns-else-has_repeated-clause-answer
returns-else-has_repeated-clause-answer c = λ nodes rows o.
    c.is_owned.ensures ∙ sym (comes_again_is c.args.section nodes rows c.args.owners.now c.args.named.now o c.requires.apart c.requires.owners ∙ ap (λ b. b || list_any (λ n. ltb 0 (slice_index c.args.owners.now n)) c.args.named.now) (sym c.has_repeated.ensures.answer ∙ c.if-has_repeated.false))
