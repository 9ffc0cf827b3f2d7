use Rattle.std.proofs.Common.{◌≡◌, ◌∙◌, ◌+◌, ◌-◌, ◌<◌, ◌++◌, ℕ, Bool, List, [], ◌∷◌, Vec, Global, cond, ap, ap₂, arith, drop, get_or, length, length-drop, refl, sym, take_all}
use Rattle.std.proofs.lemmas.List.{append-nil}
use Rattle.problem_data.specs.declared.visit.Visit.{Visit}
use Rattle.problem_data.specs.declared.visit.Visit.TheVariants.{Client}
use Rattle.routing_model.specs.Tidy.{tidied_behind}
use Rattle.exchange_children.specs.inside.Tidying.{stays}
use Rattle.exchange_children.proofs.TidiedLists.{tidied-more}
use Rattle.exchange_children.proofs.tidying.tidied.Goals.{then-stays+in_ok-push, else-stays}
use Rattle.exchange_children.proofs.tidying.tidied.Goals as goal

pub loop-at-preserved : goal.loop-at-preserved
loop-at-preserved c =
    let visits : List Visit = c.args.visits.now in
    let at : ℕ = c.loop-at.at in
    let inside : at < length visits = omega arith in
    let v : Visit = get_or visits at (Client 0) in
    let done : List Visit = c.loop-at.list.items in
    let rest : List Visit = drop (at + 1) visits in
    let stay : c.stays.result ≡ stays c.loop-at.behind_client v rest =
    c.stays.ensures ∙ ap (λ (xs : List Visit). stays c.loop-at.behind_client v xs) (take_all (length visits - (at + 1)) rest (omega (arith, length-drop (at + 1) visits))) in
    let with : Bool → List Visit = λ (b : Bool). done ++ cond b (v ∷ []) [] in
    let items : c.if-stays.list.items ≡ with (stays c.loop-at.behind_client v (drop (at + 1) visits)) =
    elim c.if-stays.branch [
      | then-stays+in_ok-push w ↦ ap (λ (l : Vec Visit Global). l.items) w.list-is ∙ w.in_ok-push.ensures.items ∙ ap with (sym w.if-stays.true ∙ stay)
      | else-stays w ↦ ap (λ (l : Vec Visit Global). l.items) w.list-is ∙ sym (append-nil done) ∙ ap with (sym w.if-stays.false ∙ stay)
    ] in
    ap₂ (λ (xs : List Visit) (b : Bool). xs ++ tidied_behind b (drop (at + 1) visits)) items c.is_client-behind_client.ensures
    ∙ (sym (tidied-more visits done c.loop-at.behind_client at v (Client 0) inside refl) ∙ c.loop-at.invariant)
