-- Tidying a list that is cut directly behind a client, and one that begins with a reload behind a client.
use Rattle.std.proofs.Common.{◌≡◌, ℕ, Bool, true, false, ◌||◌, cond, List, [], ◌∷◌, ◌++◌, refl, sym, ◌∙◌, ap}
use Rattle.std.proofs.lemmas.List.Folds.{list_any-append}
use Rattle.problem_data.specs.declared.visit.Visit.{Visit}
use Rattle.problem_data.specs.declared.visit.Visit.TheVariants.{Client, Reload}
use Rattle.routing_model.specs.Routes.{is_client, is_used}
use Rattle.routing_model.specs.Tidy.{tidied_behind}
use Rattle.routing_model.proofs.TidyJoints.{ends_behind}

used-ended : (xs : List Visit) → ends_behind false xs ≡ true → is_used xs ≡ true
used-ended [] h = cc
used-ended (Client place ∷ xs) h = refl
used-ended (Reload depot ∷ xs) h = used-ended xs h

used-with : (xs ys : List Visit) → is_used xs ≡ true → is_used (xs ++ ys) ≡ true
used-with xs ys h = list_any-append is_client xs ys ∙ ap (λ (b : Bool). b || is_used ys) h

-- both parts are tidied, each for itself
pub tidied-cut : (behind : Bool) (xs ys : List Visit) → ends_behind behind xs ≡ true → tidied_behind behind (xs ++ ys) ≡ tidied_behind behind xs ++ tidied_behind true ys
tidied-cut behind [] ys h = ap (λ (b : Bool). tidied_behind b ys) h
tidied-cut behind (Client place ∷ xs) ys h = ap (λ (zs : List Visit). Client place ∷ zs) (tidied-cut true xs ys h)
tidied-cut true (Reload depot ∷ xs) ys h =
    let used = used-ended xs h in
    ap (λ (b : Bool). cond b (Reload depot ∷ tidied_behind false (xs ++ ys)) (tidied_behind false (xs ++ ys))) (used-with xs ys used)
    ∙ ap (λ (zs : List Visit). Reload depot ∷ zs) (tidied-cut false xs ys h)
    ∙ ap (λ (b : Bool). cond b (Reload depot ∷ tidied_behind false xs) (tidied_behind false xs) ++ tidied_behind true ys) (sym used)
tidied-cut false (Reload depot ∷ xs) ys h = tidied-cut false xs ys h

unused-tidied : (behind : Bool) (xs : List Visit) → is_used xs ≡ false → tidied_behind behind xs ≡ []
unused-tidied behind [] h = refl
unused-tidied behind (Client place ∷ xs) h = cc
unused-tidied true (Reload depot ∷ xs) h =
    ap (λ (b : Bool). cond b (Reload depot ∷ tidied_behind false xs) (tidied_behind false xs)) h ∙ unused-tidied false xs h
unused-tidied false (Reload depot ∷ xs) h = unused-tidied false xs h

-- a tidy list's last visits with a reload put in front of them, behind a client: it takes the place of a reload there, and where nothing
-- comes it goes
abbrev pub with_reload : ℕ → List Visit → List Visit
with_reload depot [] = []
with_reload depot (Client place ∷ rest) = Reload depot ∷ Client place ∷ rest
with_reload depot (Reload other ∷ rest) = Reload depot ∷ rest

pub tidied-reload : (depot : ℕ) (ys : List Visit) → tidied_behind true (Reload depot ∷ ys) ≡ with_reload depot (tidied_behind true ys)
tidied-reload depot [] = refl
tidied-reload depot (Client place ∷ ys) = refl
tidied-reload depot (Reload other ∷ ys) = by (is_used ys) refl
  where
    by : (b : Bool) → is_used ys ≡ b → tidied_behind true (Reload depot ∷ Reload other ∷ ys) ≡ with_reload depot (tidied_behind true (Reload other ∷ ys))
    by true used =
        ap (λ (b : Bool). cond b (Reload depot ∷ tidied_behind false ys) (tidied_behind false ys)) used
        ∙ ap (λ (b : Bool). with_reload depot (cond b (Reload other ∷ tidied_behind false ys) (tidied_behind false ys))) (sym used)
    by false unused =
        ap (λ (b : Bool). cond b (Reload depot ∷ tidied_behind false ys) (tidied_behind false ys)) unused
        ∙ unused-tidied false ys unused
        ∙ ap (with_reload depot) (sym (unused-tidied true (Reload other ∷ ys) unused))
