-- Tidying a list, one visit after the other.
use Rattle.std.proofs.Common.{◌≡◌, ◌∙◌, ℕ, ◌+◌, ◌<◌, Bool, true, false, cond, List, [], ◌∷◌, ◌++◌, length, get_or, drop, refl, sym, ap, append_assoc}
use Rattle.std.proofs.lemmas.List.{append-nil, at_drop_more}
use Rattle.problem_data.specs.declared.visit.Visit.{Visit}
use Rattle.problem_data.specs.declared.visit.Visit.TheVariants.{Client, Reload}
use Rattle.routing_model.specs.Routes.{is_client}
use Rattle.routing_model.specs.Tidy.{tidied_behind}
use Rattle.exchange_children.specs.inside.Tidying.{stays}

-- an item in front of others, or not, behind what is done
pub push-cond : {X : Type 0} (b : Bool) (done rest : List X) (x : X) → done ++ cond b (x ∷ rest) rest ≡ (done ++ cond b (x ∷ []) []) ++ rest
push-cond true done rest x = sym (append_assoc done (x ∷ []) rest)
push-cond false done rest x = ap (λ (xs : List _). xs ++ rest) (sym (append-nil done))

tidied-step : (behind : Bool) (v : Visit) (rest : List Visit) →
    tidied_behind behind (v ∷ rest) ≡ cond (stays behind v rest) (v ∷ tidied_behind (is_client v) rest) (tidied_behind (is_client v) rest)
tidied-step behind (Client c) rest = refl
tidied-step behind (Reload d) rest = refl

-- what is done, and what the rest becomes, with one visit more
pub tidied-more : (visits done : List Visit) (behind : Bool) (at : ℕ) (v d : Visit) → at < length visits → get_or visits at d ≡ v →
    done ++ tidied_behind behind (drop at visits) ≡ (done ++ cond (stays behind v (drop (at + 1) visits)) (v ∷ []) []) ++ tidied_behind (is_client v) (drop (at + 1) visits)
tidied-more visits done behind at v d inside is =
    ap (λ (xs : List Visit). done ++ xs)
    (at_drop_more (tidied_behind behind) visits at d inside ∙ (ap (λ (w : Visit). tidied_behind behind (w ∷ drop (at + 1) visits)) is ∙ tidied-step behind v (drop (at + 1) visits)))
    ∙ push-cond (stays behind v (drop (at + 1) visits)) done (tidied_behind (is_client v) (drop (at + 1) visits)) v
