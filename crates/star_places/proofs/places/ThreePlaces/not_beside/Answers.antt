use Rattle.std.proofs.Common.{sym, ◌∙◌}
use Rattle.star_places.proofs.ApartLaws.{third-apart}
use Rattle.star_places.proofs.places.ThreePlaces.not_beside.Goals as goal

pub returns : goal.returns
returns c = λ f n few are.
    third-apart f n c.args.position few c.args.self are (sym c.is_beside.ensures ∙ c.if-not-is_beside.false) (sym c.is_beside-2.ensures ∙ c.if-not-is_beside-2.false)
