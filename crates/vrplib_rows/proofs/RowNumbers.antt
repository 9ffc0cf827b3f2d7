-- The numbers of a row, one by one.
use Rattle.std.proofs.Common.{◌≡◌, ◌+◌, ◌<◌, ◌≤◌, ℕ, zero, suc, List, [], ◌∷◌, ◌++◌, length, get_or, take, refl, sym, ◌∙◌, ap, ℤ, pos, negsuc}
use Rattle.std.proofs.lemmas.List.{append_assoc, get_or_past, take_more}
use Rattle.vrplib_model.specs.Numbers.{int_at}
use Rattle.vrplib_model.specs.Rows.{nodes_of}

-- the k-th number, 0 where there is none
pub int_at-get_or : (k : ℕ) (row : List ℤ) → int_at k row ≡ get_or row k (pos 0)
int_at-get_or k [] = refl
int_at-get_or zero (z ∷ row) = refl
int_at-get_or (suc k) (z ∷ row) = int_at-get_or k row

-- there is no number past the end
pub int_at_past : (k : ℕ) (row : List ℤ) → length row ≤ k → int_at k row ≡ pos 0
int_at_past k row h = int_at-get_or k row ∙ get_or_past row k (pos 0) h

pub nodes_of-append : (a b : List ℤ) → nodes_of (a ++ b) ≡ nodes_of a ++ nodes_of b
nodes_of-append [] b = refl
nodes_of-append (negsuc n ∷ a) b = nodes_of-append a b
nodes_of-append (pos n ∷ a) b = ap (λ ns. n ∷ ns) (nodes_of-append a b)

-- the nodes of one number more
pub nodes_more : (named before after : List ℕ) (xs : List ℤ) (i : ℕ) (z : ℤ) → i < length xs → z ≡ get_or xs i (pos 0) → before ≡ named ++ nodes_of (take i xs) → after ≡ before ++ nodes_of (z ∷ [])
    → after ≡ named ++ nodes_of (take (i + 1) xs)
nodes_more named before after xs i z h e b a =
    a ∙ ap (λ ns. ns ++ nodes_of (z ∷ [])) b ∙ append_assoc named (nodes_of (take i xs)) (nodes_of (z ∷ []))
    ∙ ap (λ ns. named ++ ns) (sym (nodes_of-append (take i xs) (z ∷ []))) ∙ ap (λ x. named ++ nodes_of (take i xs ++ x ∷ [])) e ∙ ap (λ ys. named ++ nodes_of ys) (sym (take_more xs i (pos 0) h))
