use Rattle.std.proofs.Common.{◌≡◌, ℕ, List, refl, ap, Some, None, Err, Result, ℤ, sym, ◌∙◌}
use Rattle.vrp_num.specs.declared.spelled.Spelled.{Spelled}
use Rattle.vrp_num.specs.DecimalText.{spelled}
use Rattle.vrp_num.proofs.Cut.{spelled_from, read_spelled, read_nothing}
use Rattle.vrplib_model.specs.declared.rule.Rule.{Rule}
use Rattle.vrplib_model.specs.declared.rule.Rule.TheVariants.{BadNumber}
use Rattle.vrplib_model.specs.declared.field.Field.{Field}
use Rattle.vrplib_model.specs.Numbers.{number_or, too_large_rule, number_in}
use Rattle.vrplib_rows.proofs.numbers.number_in.Goals as goal

number_spelled : (field : Field) (token : List ℕ) (s : Spelled) (too_large : Rule) (answer : Result ℤ Rule) → Some s ≡ spelled token →
    too_large ≡ too_large_rule field s.is_negative s.is_whole → answer ≡ number_or too_large s.decimal → answer ≡ number_in field token
number_spelled field token s too_large answer e f g =
    let negative = ap (λ x. x.is_negative) (spelled_from token s e) in
    let whole = ap (λ x. x.is_whole) (spelled_from token s e) in
    rw (g, f, negative, whole, read_spelled token s e) refl

nothing_spelled : (field : Field) (token : List ℕ) → None ≡ spelled token → Err BadNumber ≡ number_in field token
nothing_spelled field token e = rw (← read_nothing token e) refl

pub returns-in-Some : goal.returns-in-Some
returns-in-Some c =
    number_spelled c.args.field c.args.token.now c.in-Some.spelled c.too_large_rule.result c.number_or.result (sym c.in-Some.is ∙ c.of.ensures) c.too_large_rule.ensures c.number_or.ensures

pub returns-in-None : goal.returns-in-None
returns-in-None c = nothing_spelled c.args.field c.args.token.now (sym c.in-None.is ∙ c.of.ensures)
