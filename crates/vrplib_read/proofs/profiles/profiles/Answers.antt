use Rattle.std.proofs.Common.{◌≡◌, ◌∙◌, ◌∷◌, [], true, false, sym, subst, List, ap}
use Rattle.std.specs.Prelude.{MatchOption}
use Rattle.std.specs.List.{list_any}
use Rattle.std.specs.Option.{option_copied}
use Rattle.std.proofs.lemmas.Result.{IfOk-weaker}
use Rattle.problem_data.specs.declared.problem.Profile.{Profile}
use Rattle.vrplib_model.specs.WholeText.{has_long_leg}
use Rattle.vrplib_read.proofs.ProfileLaws.{profiles_known, only_known, only_short}
use Rattle.vrplib_read.proofs.profiles.profiles.Goals as goal

pub returns-in-Some : goal.returns-in-Some
returns-in-Some c =
    IfOk-weaker c.profiles_in.result _ _ (λ made h. λ all st.
    let r = c.args.reading.now in
    let known = profiles_known r all st c.node_count-size.result c.deref.result.now c.in-Some.rows.now
    (sym c.rows_of.ensures ∙ ap option_copied c.in-Some.is) c.node_count-size.ensures.known (c.deref.ensures.value ∙ c.in_ok-base.ensures.legs all st) in
    let P : List Profile → Type 0 = λ ps. MatchOption made (list_any has_long_leg ps ≡ true) (λ found. (found.items ≡ ps) × (list_any has_long_leg ps ≡ false)) in
    subst P (sym known) h) c.profiles_in.ensures

pub returns-in_ok-vec-in-None : goal.returns-in_ok-vec-in-None
returns-in_ok-vec-in-None c = λ all st.
    let r = c.args.reading.now in
    let base = c.in_ok-base.base.items in
    let size = c.node_count-size.result in
    let known = only_known r all st size base (sym c.rows_of.ensures ∙ ap option_copied c.in-None.is) c.node_count-size.ensures.known (c.in_ok-base.ensures.legs all st) in
    (c.in_ok-vec-in-None.ensures.items ∙ ap (λ p. p ∷ []) c.in_ok-profile-in-None.ensures ∙ sym known, ap (list_any has_long_leg) known ∙ only_short size base c.in_ok-base.ensures.bound)
