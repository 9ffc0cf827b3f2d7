-- The last touches after a move tell what it touched.
use Rattle.std.proofs.Common.{◌≡◌, ◌∙◌, ◌⊎◌, inl, inr, ℕ, suc, ◌<◌, ◌≤◌, Bool, true, false, ◌||◌, List, [], ◌∷◌, length, get_or, set, refl, sym, ap₂, arith, subst, get_or-set_same, get_or-set_other}
use Rattle.std.specs.Prelude.{zip}
use Rattle.std.specs.List.{list_any}
use Rattle.std.proofs.lemmas.Bool.{cases_eq, cases_lt}
use Rattle.std.proofs.lemmas.Bool.Decides.{nat_tests}
use Rattle.std.proofs.lemmas.List.{get_or_past, length-set, set_past}
use Rattle.problem_data.specs.declared.visit.Visit.{Visit}
use Rattle.problem_data.specs.declared.visit.Visit.TheVariants.{Client, Reload}
use Rattle.routing_model.specs.Routes.{Routes, has_client, is_same_list, is_same_visit, is_visit_of, list_at}
use Rattle.search_model.specs.Basis.{is_on_changed_list}
use Rattle.descent_memory.specs.Memories.{last_count}
use Rattle.descent_memory.specs.Touching.{touched_by, touched_clients}

-- a last touch that is written
pub written_kept : (xs : List ℕ) (i clock c m : ℕ) → m ≤ clock → get_or (set xs i clock) c last_count < m → get_or xs c last_count < m
written_kept xs i clock c m a h = by (cases_eq c i)
  where
    by : (c ≡ i) ⊎ (c ≡ i → ⊥) → get_or xs c last_count < m
    by (inl e) = inside (cases_lt i (length xs))
      where
        inside : (i < length xs) ⊎ (length xs ≤ i) → get_or xs c last_count < m
        inside (inl l) =
            let k : get_or (set xs i clock) c last_count ≡ clock = subst (λ z. get_or (set xs i clock) z last_count ≡ clock) (sym e) (get_or-set_same xs i clock last_count l) in
            absurd (omega arith)
        inside (inr l) = subst (λ (ys : List ℕ). get_or ys c last_count < m) (set_past xs i clock l) h
    by (inr n) = subst (λ k. k < m) (get_or-set_other xs i c clock last_count n) h

pub written_touched : (xs : List ℕ) (c clock m : ℕ) → m ≤ clock → m ≤ last_count → get_or (set xs c clock) c last_count < m → ⊥
written_touched xs c clock m a b h = inside (cases_lt c (length xs))
  where
    inside : (c < length xs) ⊎ (length xs ≤ c) → ⊥
    inside (inl l) = let k : get_or (set xs c clock) c last_count ≡ clock = get_or-set_same xs c clock last_count l in omega arith
    inside (inr l) =
        let k : get_or (set xs c clock) c last_count ≡ last_count = get_or_past (set xs c clock) c last_count (rw (length-set xs c clock) l) in
        omega arith

by_kept : (clock : ℕ) (visit : Visit) (xs : List ℕ) (c m : ℕ) → m ≤ clock → get_or (touched_by clock visit xs) c last_count < m → get_or xs c last_count < m
by_kept clock (Client place) xs c m a h = written_kept xs place clock c m a h
by_kept clock (Reload depot) xs c m a h = h

-- what is untouched after a list was touched was so before
pub clients_kept : (clock : ℕ) (visits : List Visit) (xs : List ℕ) (c m : ℕ) → m ≤ clock → get_or (touched_clients clock visits xs) c last_count < m → get_or xs c last_count < m
clients_kept clock [] xs c m a h = h
clients_kept clock (visit ∷ rest) xs c m a h = by_kept clock visit xs c m a (clients_kept clock rest (touched_by clock visit xs) c m a h)

-- and no client of the list is untouched
pub clients_touched : (clock : ℕ) (visits : List Visit) (xs : List ℕ) (c m : ℕ) → m ≤ clock → m ≤ last_count → has_client c visits ≡ true → get_or (touched_clients clock visits xs) c last_count < m → ⊥
clients_touched clock [] xs c m a b i h = cc
clients_touched clock (Reload depot ∷ rest) xs c m a b i h = clients_touched clock rest xs c m a b i h
clients_touched clock (Client place ∷ rest) xs c m a b i h =
    by (is_visit_of c (Client place)) refl i (λ k. clients_touched clock rest (set xs place clock) c m a b k h)
  where
    same : is_visit_of c (Client place) ≡ true → place ≡ c
    same e = grind (arith, nat_tests)

    by : (t : Bool) → is_visit_of c (Client place) ≡ t → (t || has_client c rest) ≡ true → (has_client c rest ≡ true → ⊥) → ⊥
    by true e k later =
        written_touched xs c clock m a b (subst (λ z. get_or (set xs z clock) c last_count < m) (same e) (clients_kept clock rest (set xs place clock) c m a h))
    by false e k later = later k

pub clients_length : (clock : ℕ) (visits : List Visit) (xs : List ℕ) → length (touched_clients clock visits xs) ≡ length xs
clients_length clock [] xs = refl
clients_length clock (Client place ∷ rest) xs = clients_length clock rest (set xs place clock) ∙ length-set xs place clock
clients_length clock (Reload depot ∷ rest) xs = clients_length clock rest xs

-- a list is the same as itself
same_visit : (x : Visit) → is_same_visit x x ≡ true
same_visit (Client c) = grind (arith, nat_tests)
same_visit (Reload d) = grind (arith, nat_tests)

pub same_list : (xs : List Visit) → is_same_list xs xs ≡ true
same_list [] = refl
same_list (x ∷ xs) = rw (same_visit x) (same_list xs)

-- a client that is on no list that changes isn't touched
pub none_changed : (c : ℕ) (a b : Routes) → length b ≡ length a → ((k : ℕ) → is_on_changed_list c (list_at a k, list_at b k) ≡ false) → list_any (is_on_changed_list c) (zip a b) ≡ false
none_changed c [] b l h = refl
none_changed c (x ∷ a) [] l h = refl
none_changed c (x ∷ a) (y ∷ b) l h = ap₂ (λ (s t : Bool). s || t) (h 0) (none_changed c a b (omega (arith, l)) (λ k. h (suc k)))
