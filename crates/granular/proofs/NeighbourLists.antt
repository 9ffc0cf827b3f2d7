-- Lists of lists, as they are filled.
use Rattle.std.proofs.Common.{◌≡◌, ◌∙◌, sym, ap, ap₂, ℕ, suc, ◌+◌, ◌-◌, ◌≤◌, List, [], ◌∷◌, ◌++◌, length, map, replicate, append_assoc, arith, Vec, Global}
use Rattle.std.specs.List.{range_with_len}
use Rattle.std.proofs.lemmas.List.{append-nil, map-append}
use Rattle.problem_data.specs.declared.problem.Problem.{Problem}
use Rattle.problem_data.specs.Places.{depot_count}
use Rattle.search_model.specs.Neighbours.{neighbours, neighbours_of}

-- the lists' items
abbrev pub items_of : List (Vec ℕ Global) → List (List ℕ)
items_of lists = map (λ (list : Vec ℕ Global). list.items) lists

-- a depot's list is empty, and the clients' follow
pub lists-start : (p : Problem) (count wait warp depots : ℕ) (lists : List (Vec ℕ Global)) → depots ≡ depot_count p → items_of lists ≡ replicate depots [] →
    items_of lists ++ map (neighbours_of p count wait warp) (range_with_len (depot_count p + 0) (length p.clients - 0)) ≡ neighbours p count wait warp
lists-start p count wait warp depots lists d e =
    let first : depot_count p + 0 ≡ depot_count p = omega arith in
    let all : length p.clients - 0 ≡ length p.clients = omega arith in
    ap₂ (λ (a b : List (List ℕ)). a ++ b) (e ∙ ap (λ k. replicate k []) d) (ap₂ (λ (a b : ℕ). map (neighbours_of p count wait warp) (range_with_len a b)) first all)

-- one more client's list
pub lists-more : (f : ℕ → List ℕ) (first index clients : ℕ) (lists : List (Vec ℕ Global)) (list : Vec ℕ Global) (all : List (List ℕ)) → index + 1 ≤ clients → list.items ≡ f (first + index) →
    items_of lists ++ map f (range_with_len (first + index) (clients - index)) ≡ all →
    items_of (lists ++ list ∷ []) ++ map f (range_with_len (first + (index + 1)) (clients - (index + 1))) ≡ all
lists-more f first index clients lists list all below is h =
    let left : clients - index ≡ suc (clients - (index + 1)) = omega arith in
    let next : first + index + 1 ≡ first + (index + 1) = omega arith in
    let rest : List (List ℕ) = map f (range_with_len (first + (index + 1)) (clients - (index + 1))) in
    let here : map f (range_with_len (first + index) (clients - index)) ≡ f (first + index) ∷ rest =
    ap (λ k. map f (range_with_len (first + index) k)) left ∙ ap (λ k. f (first + index) ∷ map f (range_with_len k (clients - (index + 1)))) next in
    ap (λ (t : List (List ℕ)). t ++ rest) (map-append (λ (l : Vec ℕ Global). l.items) lists (list ∷ []))
    ∙ append_assoc (items_of lists) (list.items ∷ []) rest
    ∙ ap (λ (x : List ℕ). items_of lists ++ x ∷ rest) is
    ∙ ap (λ (t : List (List ℕ)). items_of lists ++ t) (sym here) ∙ h

-- no client is left
pub lists-none : (f : ℕ → List ℕ) (first index clients : ℕ) (lists : List (Vec ℕ Global)) (all : List (List ℕ)) → clients ≤ index →
    items_of lists ++ map f (range_with_len (first + index) (clients - index)) ≡ all → items_of lists ≡ all
lists-none f first index clients lists all done h =
    let left : clients - index ≡ 0 = omega arith in
    sym (ap (λ k. items_of lists ++ map f (range_with_len (first + index) k)) left ∙ append-nil (items_of lists)) ∙ h
