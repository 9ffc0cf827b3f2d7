use Rattle.std.proofs.Common.{ℕ, ℤ, pos, ◌≡◌, Ok, sym, ◌∙◌, ap, subst, arith, rules, to_z, of_z, w64}
use mir.Val.{SFits}
use Rattle.std.proofs.lemmas.Int.{to_z-of_z}
use Rattle.std.specs.Prelude.{nat_abs}
use Rattle.vrplib_model.specs.Numbers.{field_value}
use Rattle.vrplib_rows.specs.inside.KeywordValues.{IsWithin}
use Rattle.vrplib_rows.proofs.KeywordLaws.{Quantity, quantity-value}
use Rattle.vrplib_rows.proofs.keywords.value.number.Goals as goal

pub returns-in-Ok : goal.returns-in-Ok
returns-in-Ok c =
    let is : field_value c.args.mode c.args.field c.args.token.now ≡ Ok c.in-Ok.number = sym c.field_value.ensures ∙ c.in-Ok.is in
    let q : Quantity c.args.field c.in-Ok.number = quantity-value c.args.mode c.args.field c.args.token.now c.in-Ok.number c.requires.quantity is in
    let Fits : ℤ → Type 0 = λ z. (field_value c.args.mode c.args.field c.args.token.now ≡ Ok (pos (nat_abs z))) × IsWithin c.args.field (nat_abs z) in
    let Kept : ℕ → Type 0 = λ n. (field_value c.args.mode c.args.field c.args.token.now ≡ Ok (pos n)) × IsWithin c.args.field n in
    let fits : SFits w64 c.in-Ok.number = search rules in
    let kept : to_z w64 (of_z w64 c.in-Ok.number) ≡ c.in-Ok.number = grind (arith, to_z-of_z) in
    subst Kept (sym (c.unsigned_abs.ensures.value ∙ ap nat_abs kept)) (subst Fits (sym q.same) (is ∙ ap Ok q.same, q.within))
