-- Dealing out: the vehicles' lists, one behind the other, are the clients that were dealt.
use Rattle.std.proofs.Common.{◌≡◌, ◌∙◌, sym, refl, ap, ap₂, ℕ, zero, suc, ◌+◌, ◌-◌, ◌*◌, ◌≤◌, ◌<◌, ◌&&◌, ◌||◌, ◌==◌, Bool, true, false, cond, List, [], ◌∷◌, ◌++◌, length, map, take, drop, count_by, replicate, All, arith, zero-add, mul-le-mul_right, length-append, min, ◌⊎◌, inl, inr, ⊎_elim}
use Rattle.std.specs.List.{enumerate_from, range_with_len, flat_map, list_all, list_any, zip}
use Rattle.std.specs.Prelude.{nat_le, not}
use Rattle.std.proofs.lemmas.Bool.Decides.{nat_tests}
use Rattle.std.proofs.lemmas.List.{length-drop, length-replicate, drop_all}
use Rattle.std.proofs.lemmas.Bool.{cases_lt}
use Rattle.std.proofs.lemmas.List.Elements.{All-head}
use Rattle.std.proofs.lemmas.List.Folds.{list_all-append, list_any-append}
use Rattle.std.proofs.lemmas.List.Sums.{sum_by-append, sum_by-cons}
use Rattle.problem_data.specs.declared.problem.Problem.{Problem}
use Rattle.problem_data.specs.declared.problem.VehicleType.{VehicleType}
use Rattle.problem_data.specs.declared.visit.Visit.{Visit}
use Rattle.problem_data.specs.declared.visit.Visit.TheVariants.{Client}
use Rattle.problem_data.specs.Places.{is_client_place, vehicle_count}
use Rattle.problem_data.specs.Valid.{IsValid, IsValidType}
use Rattle.routing_model.specs.Lawful.{names_place, is_allowed, reloads_as_allowed}
use Rattle.routing_model.specs.Routes.{Routes, is_client, is_visit_of, has_client, is_visited, visit_count}
use Rattle.routing_model.specs.Tidy.{is_tidy, is_tidy_behind}
use Rattle.random_model.specs.RandomSolution.{share, dealt}

-- the part that a vehicle gets
abbrev pub part : ℕ → List ℕ → ℕ → List ℕ
part per xs v = take per (drop (v * per) xs)

later : (a b : ℕ) → suc a + b ≡ suc (a + b)
later a b = omega arith

module _ {X : Type 0} where
  take_both : (a b : ℕ) (l : List X) → take a l ++ take b (drop a l) ≡ take (a + b) l
  take_both zero b l = ap (λ n. take n l) (sym (zero-add b))
  take_both (suc a) zero [] = rw (later a 0) refl
  take_both (suc a) (suc b) [] = rw (later a (suc b)) refl
  take_both (suc a) b (x ∷ l) = rw (later a b) (ap (λ (t : List X). x ∷ t) (take_both a b l))

  drop_both : (a b : ℕ) (l : List X) → drop a (drop b l) ≡ drop (b + a) l
  drop_both a zero l = ap (λ n. drop n l) (sym (zero-add a))
  drop_both zero (suc b) [] = rw (later b 0) refl
  drop_both (suc a) (suc b) [] = rw (later b (suc a)) refl
  drop_both a (suc b) (x ∷ l) = rw (later b a) (drop_both a b l)

  take_whole : (n : ℕ) (l : List X) → length l ≤ n → take n l ≡ l
  take_whole zero [] h = refl
  take_whole (suc n) [] h = refl
  take_whole zero (x ∷ l) h = absurd (omega arith)
  take_whole (suc n) (x ∷ l) h = ap (λ (t : List X). x ∷ t) (take_whole n l (omega arith))

next_product : (k per : ℕ) → (k + 1) * per ≡ k * per + per
next_product k per = grind arith

first_product : (n per : ℕ) → suc n * per ≡ per + n * per
first_product n per = grind arith

-- the parts of neighbouring vehicles are one part
parts_joined : (per : ℕ) (xs : List ℕ) (k n : ℕ) → flat_map (part per xs) (range_with_len k n) ≡ take (n * per) (drop (k * per) xs)
parts_joined per xs k zero = ap (λ m. take m (drop (k * per) xs)) (sym (zero-times per))
  where
    zero-times : (m : ℕ) → 0 * m ≡ 0
    zero-times m = grind arith
parts_joined per xs k (suc n) =
    ap (λ (t : List ℕ). part per xs k ++ t) (parts_joined per xs (k + 1) n)
    ∙ ap (λ m. part per xs k ++ take (n * per) (drop m xs)) (next_product k per)
    ∙ ap (λ (t : List ℕ). part per xs k ++ take (n * per) t) (sym (drop_both per (k * per) xs))
    ∙ take_both per (n * per) (drop (k * per) xs)
    ∙ ap (λ m. take m (drop (k * per) xs)) (sym (first_product n per))

enough : (c v : ℕ) → 1 ≤ v → c ≤ v * share c v
enough c v h = omega arith

pub parts-whole : (v : ℕ) (xs : List ℕ) → 1 ≤ v → flat_map (part (share (length xs) v) xs) (range_with_len 0 v) ≡ xs
parts-whole v xs h =
    parts_joined (share (length xs) v) xs 0 v
    ∙ ap (λ m. take (v * share (length xs) v) (drop m xs)) (zero-times (share (length xs) v))
    ∙ take_whole (v * share (length xs) v) xs (enough (length xs) v h)
  where
    zero-times : (m : ℕ) → 0 * m ≡ 0
    zero-times m = grind arith

-- lists of visits of clients, one for each number
abbrev lists : (ℕ → List ℕ) → List ℕ → Routes
lists part ns = map (λ n. map Client (part n)) ns

count_visits : (c : ℕ) (xs : List ℕ) → count_by (is_visit_of c) (map Client xs) ≡ count_by (λ d. d == c) xs
count_visits c [] = refl
count_visits c (x ∷ xs) =
    sum_by-cons (λ visit. cond (is_visit_of c visit) 1 0) (Client x) (map Client xs)
    ∙ ap (λ n. cond (x == c) 1 0 + n) (count_visits c xs)
    ∙ sym (sum_by-cons (λ d. cond (d == c) 1 0) x xs)

visit_count-lists : (part : ℕ → List ℕ) (ns : List ℕ) (c : ℕ) → visit_count (lists part ns) c ≡ count_by (λ d. d == c) (flat_map part ns)
visit_count-lists part [] c = refl
visit_count-lists part (n ∷ ns) c =
    sum_by-cons (λ (visits : List Visit). count_by (is_visit_of c) visits) (map Client (part n)) (lists part ns)
    ∙ ap₂ (λ (a b : ℕ). a + b) (count_visits c (part n)) (visit_count-lists part ns c)
    ∙ sym (sum_by-append (λ d. cond (d == c) 1 0) (part n) (flat_map part ns))

-- dealing visits a client as often as it was dealt
pub visit_count-dealt : (v : ℕ) (xs : List ℕ) (c : ℕ) → 1 ≤ v → visit_count (dealt v xs) c ≡ count_by (λ d. d == c) xs
visit_count-dealt v xs c h =
    visit_count-lists (part (share (length xs) v) xs) (range_with_len 0 v) c ∙ ap (count_by (λ d. d == c)) (parts-whole v xs h)

has_client-visits : (c : ℕ) (xs : List ℕ) → has_client c (map Client xs) ≡ list_any (λ d. d == c) xs
has_client-visits c [] = refl
has_client-visits c (x ∷ xs) = ap (λ (b : Bool). (x == c) || b) (has_client-visits c xs)

is_visited-lists : (part : ℕ → List ℕ) (ns : List ℕ) (c : ℕ) → is_visited (lists part ns) c ≡ list_any (λ d. d == c) (flat_map part ns)
is_visited-lists part [] c = refl
is_visited-lists part (n ∷ ns) c =
    ap₂ (λ (a b : Bool). a || b) (has_client-visits c (part n)) (is_visited-lists part ns c) ∙ sym (list_any-append (λ d. d == c) (part n) (flat_map part ns))

-- a client is visited where it was dealt
pub is_visited-dealt : (v : ℕ) (xs : List ℕ) (c : ℕ) → 1 ≤ v → is_visited (dealt v xs) c ≡ list_any (λ d. d == c) xs
is_visited-dealt v xs c h =
    is_visited-lists (part (share (length xs) v) xs) (range_with_len 0 v) c ∙ ap (list_any (λ d. d == c)) (parts-whole v xs h)

names-visits : (p : Problem) (xs : List ℕ) → list_all (names_place p) (map Client xs) ≡ list_all (is_client_place p) xs
names-visits p [] = refl
names-visits p (x ∷ xs) = ap (λ (b : Bool). is_client_place p x && b) (names-visits p xs)

names-lists : (p : Problem) (part : ℕ → List ℕ) (ns : List ℕ) → list_all (list_all (names_place p)) (lists part ns) ≡ list_all (is_client_place p) (flat_map part ns)
names-lists p part [] = refl
names-lists p part (n ∷ ns) =
    ap₂ (λ (a b : Bool). a && b) (names-visits p (part n)) (names-lists p part ns) ∙ sym (list_all-append (is_client_place p) (part n) (flat_map part ns))

-- dealing names places where what was dealt are clients
pub names_places-dealt : (p : Problem) (v : ℕ) (xs : List ℕ) → 1 ≤ v → list_all (list_all (names_place p)) (dealt v xs) ≡ list_all (is_client_place p) xs
names_places-dealt p v xs h =
    names-lists p (part (share (length xs) v) xs) (range_with_len 0 v) ∙ ap (list_all (is_client_place p)) (parts-whole v xs h)

visits-tidy : (behind : Bool) (xs : List ℕ) → is_tidy_behind behind (map Client xs) ≡ true
visits-tidy behind [] = refl
visits-tidy behind (x ∷ xs) = visits-tidy true xs

lists-tidy : (part : ℕ → List ℕ) (ns : List ℕ) → list_all is_tidy (lists part ns) ≡ true
lists-tidy part [] = refl
lists-tidy part (n ∷ ns) = ap₂ (λ (a b : Bool). a && b) (visits-tidy false (part n)) (lists-tidy part ns)

-- dealing gives tidy lists
pub dealt-tidy : (v : ℕ) (xs : List ℕ) → list_all is_tidy (dealt v xs) ≡ true
dealt-tidy v xs = lists-tidy (part (share (length xs) v) xs) (range_with_len 0 v)

visits-clients : (xs : List ℕ) → list_all is_client (map Client xs) ≡ true
visits-clients [] = refl
visits-clients (x ∷ xs) = visits-clients xs

lists-clients : (part : ℕ → List ℕ) (ns : List ℕ) → list_all (list_all is_client) (lists part ns) ≡ true
lists-clients part [] = refl
lists-clients part (n ∷ ns) = ap₂ (λ (a b : Bool). a && b) (visits-clients (part n)) (lists-clients part ns)

-- dealing gives clients alone
pub dealt-clients : (v : ℕ) (xs : List ℕ) → list_all (list_all is_client) (dealt v xs) ≡ true
dealt-clients v xs = lists-clients (part (share (length xs) v) xs) (range_with_len 0 v)

visits-allowed : (t : VehicleType) (xs : List ℕ) → list_all (is_allowed t) (map Client xs) ≡ true
visits-allowed t [] = refl
visits-allowed t (x ∷ xs) = visits-allowed t xs

no_reload : (xs : List ℕ) → count_by (λ visit. not (is_client visit)) (map Client xs) ≡ 0
no_reload [] = refl
no_reload (x ∷ xs) = sum_by-cons (λ visit. cond (not (is_client visit)) 1 0) (Client x) (map Client xs) ∙ ap (λ n. 0 + n) (no_reload xs)

at_least_none : (n : ℕ) → nat_le 0 n ≡ true
at_least_none n = grind (arith, nat_tests)

list-allowed : (t : VehicleType) (xs : List ℕ) → reloads_as_allowed t (map Client xs) ≡ true
list-allowed t xs = ap₂ (λ (a b : Bool). a && b) (visits-allowed t xs) (ap (λ n. nat_le n t.reloads) (no_reload xs) ∙ at_least_none t.reloads)

lists-allowed : (types : List VehicleType) (part : ℕ → List ℕ) (ns : List ℕ) →
    list_all (λ (v : VehicleType × List Visit). reloads_as_allowed v.0 v.1) (zip types (lists part ns)) ≡ true
lists-allowed [] part ns = refl
lists-allowed (t ∷ types) part [] = refl
lists-allowed (t ∷ types) part (n ∷ ns) = ap₂ (λ (a b : Bool). a && b) (list-allowed t (part n)) (lists-allowed types part ns)

-- dealing gives no reload, so any fleet allows it
pub dealt-allowed : (types : List VehicleType) (v : ℕ) (xs : List ℕ) →
    list_all (λ (v : VehicleType × List Visit). reloads_as_allowed v.0 v.1) (zip types (dealt v xs)) ≡ true
dealt-allowed types v xs = lists-allowed types (part (share (length xs) v) xs) (range_with_len 0 v)

same_take : {X : Type 0} (m n : ℕ) (l : List X) → (m ≡ n) ⊎ ((length l ≤ m) × (length l ≤ n)) → take m l ≡ take n l
same_take m n l h = ⊎_elim (λ e. ap (λ k. take k l) e) (λ w. take_whole m l w.0 ∙ sym (take_whole n l w.1)) h

run_cases : (len a n first end : ℕ) → first ≡ min len a → end ≡ min len (first + n) → (end - first ≡ n) ⊎ ((len - first ≤ end - first) × (len - first ≤ n))
run_cases len a n first end f e = ⊎_elim (λ l. inr (omega arith, omega arith)) (λ l. inl (omega arith)) (cases_lt len (first + n))

-- the run from one place to another, both cut at the list's end, is a vehicle's part
pub run-part : (xs : List ℕ) (a n first end : ℕ) → first ≡ min (length xs) a → end ≡ min (length xs) (first + n) → take (end - first) (drop first xs) ≡ take n (drop a xs)
run-part xs a n first end f e =
    same_take (end - first) n (drop first xs) (rw (length-drop first xs) (run_cases (length xs) a n first end f e))
    ∙ ap (take n) (⊎_elim (λ l. ap (λ k. drop k xs) (at a f l)) (λ l. ap (λ k. drop k xs) (past a f l) ∙ nothing (length xs) l0 ∙ sym (nothing a l)) (cases_lt a (length xs)))
  where
    l0 : length xs ≤ length xs
    l0 = omega arith

    at : (k : ℕ) → first ≡ min (length xs) k → k < length xs → first ≡ k
    at k g l = omega arith

    past : (k : ℕ) → first ≡ min (length xs) k → length xs ≤ k → first ≡ length xs
    past k g l = omega arith

    nothing : (k : ℕ) → length xs ≤ k → drop k xs ≡ []
    nothing k l = drop_all k xs l

-- a part of a vehicle's ends within the rounding up
pub part-small : (c v vehicle : ℕ) → vehicle < v → vehicle * share c v + share c v ≤ c + v - 1
part-small c v vehicle h =
    let q : ℕ = share c v in
    let most : v * q ≤ c + v - 1 = omega arith in
    let mine : (vehicle + 1) * q ≤ v * q = mul-le-mul_right q (omega arith) in
    let next : (vehicle + 1) * q ≡ vehicle * q + q = next_product vehicle q in
    omega arith

numbers_some : (p : Problem) (n : ℕ) (types : List VehicleType) → 1 ≤ length types → All (IsValidType p) types →
    1 ≤ length (flat_map (λ (e : ℕ × VehicleType). replicate e.1.count e.0) (enumerate_from n types))
numbers_some p n [] some h = absurd (omega arith)
numbers_some p n (t ∷ types) some h =
    let one : IsValidType p t = All-head (IsValidType p) t types h in
    let long = length-append (replicate t.count n) (flat_map (λ (e : ℕ × VehicleType). replicate e.1.count e.0) (enumerate_from (n + 1) types)) in
    let first = length-replicate t.count n in
    let count : 1 ≤ t.count = one.count in
    omega arith

-- a valid problem has a vehicle
pub vehicles_some : (p : Problem) → IsValid p → 1 ≤ vehicle_count p
vehicles_some p h = numbers_some p 0 p.types h.some_type h.each_type
