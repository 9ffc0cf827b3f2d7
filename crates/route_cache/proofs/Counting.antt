-- How many reloads and how large sums the parts of a list have.
use Rattle.std.proofs.Common.{◌≡◌, ℕ, ◌+◌, ◌-◌, ◌*◌, ◌<◌, ◌≤◌, List, [], ◌∷◌, ◌++◌, length, get_or, refl, ◌∙◌, ap, arith, sum_by, slice_range, length-take, length-drop, if◌then◌else◌}
use Rattle.std.specs.Prelude.{not}
use Rattle.std.proofs.lemmas.List.Sums.{count_by-le-length, sum_by-append, sum_by-cons}
use Rattle.problem_data.specs.declared.visit.Visit.{Visit}
use Rattle.problem_data.specs.declared.visit.Visit.TheVariants.{Client, Reload}
use Rattle.problem_data.specs.Limits.{largest}
use Rattle.problem_data.specs.Visits.{is_client}
use Rattle.routing_model.specs.Routes.{clients_of}
use Rattle.route_cache.specs.inside.Shapes.{Side, back, front, reload_of}
use Rattle.route_cache.specs.inside.Tables.{reloads_of_side}
use Rattle.route_cache.specs.Marks.{reloads_in}
use Rattle.route_cache.proofs.Slices.{slice-before, slice-more, slice-none, slice-split}

-- one for a reload
one_for : Visit → ℕ
one_for visit = if not (is_client visit) then 1 else 0

pub reloads-cons : (visit : Visit) (visits : List Visit) → reloads_in (visit ∷ visits) ≡ reload_of visit + reloads_in visits
unfolding one_for
reloads-cons (Client place) visits = sum_by-cons one_for (Client place) visits
reloads-cons (Reload depot) visits = sum_by-cons one_for (Reload depot) visits

pub reloads-append : (xs ys : List Visit) → reloads_in (xs ++ ys) ≡ reloads_in xs + reloads_in ys
unfolding one_for
reloads-append xs ys = sum_by-append one_for xs ys

reloads-one : (visit : Visit) → reloads_in (visit ∷ []) ≡ reload_of visit
reloads-one visit = let e = reloads-cons visit [] in let n : reloads_in [] ≡ 0 = refl in omega arith

-- one visit more, next to the start or to the end
pub reloads-more : (visits : List Visit) (k : ℕ) (none : Visit) → k < length visits →
    reloads_of_side front visits (k + 1) ≡ reloads_of_side front visits k + reload_of (get_or visits k none)
reloads-more visits k none h =
    ap reloads_in (slice-more visits 0 k none (omega arith) h) ∙ reloads-append (slice_range visits 0 k) (get_or visits k none ∷ [])
    ∙ ap (λ (n : ℕ). reloads_in (slice_range visits 0 k) + n) (reloads-one (get_or visits k none))

pub reloads-from : (visits : List Visit) (i : ℕ) (none : Visit) → i < length visits →
    reloads_in (slice_range visits i (length visits)) ≡ reloads_in (slice_range visits (i + 1) (length visits)) + reload_of (get_or visits i none)
reloads-from visits i none h =
    let a = ap reloads_in (slice-before visits i (length visits) none h h) in
    let b = reloads-cons (get_or visits i none) (slice_range visits (i + 1) (length visits)) in
    omega arith

-- the reloads of two parts, one behind the other
pub reloads-split : (visits : List Visit) (a b c : ℕ) → a ≤ b → b ≤ c → reloads_in (slice_range visits a c) ≡ reloads_in (slice_range visits a b) + reloads_in (slice_range visits b c)
reloads-split visits a b c h k = ap reloads_in (slice-split visits a b c h k) ∙ reloads-append (slice_range visits a b) (slice_range visits b c)

-- fewer visits have fewer reloads
pub reloads-fewer : (side : Side) (visits : List Visit) (k i : ℕ) → k ≤ length visits → i ≤ k → reloads_of_side side visits i ≤ reloads_of_side side visits k
reloads-fewer front visits k i in_list h = let e = reloads-split visits 0 i k (omega arith) h in omega arith
reloads-fewer back visits k i in_list h =
    let e = reloads-split visits (length visits - k) (length visits - i) (length visits) (omega arith) (omega arith) in omega arith

-- no visit has no reload
pub reloads-none : (side : Side) (visits : List Visit) → reloads_of_side side visits 0 ≡ 0
reloads-none front visits = refl
reloads-none back visits =
    let n : length visits - 0 ≡ length visits = omega arith in
    ap (λ (i : ℕ). reloads_in (slice_range visits i (length visits))) n ∙ ap reloads_in (slice-none visits (length visits))

-- sums over the clients of some visits
clients-append : (xs ys : List Visit) → clients_of (xs ++ ys) ≡ clients_of xs ++ clients_of ys
clients-append [] ys = refl
clients-append (Client place ∷ xs) ys = ap (λ (zs : List ℕ). place ∷ zs) (clients-append xs ys)
clients-append (Reload depot ∷ xs) ys = clients-append xs ys

pub amounts-append : (f : ℕ → ℕ) (xs ys : List Visit) → sum_by f (clients_of (xs ++ ys)) ≡ sum_by f (clients_of xs) + sum_by f (clients_of ys)
amounts-append f xs ys = ap (sum_by f) (clients-append xs ys) ∙ sum_by-append f (clients_of xs) (clients_of ys)

pub amounts-more : (f : ℕ → ℕ) (visits : List Visit) (k : ℕ) (none : Visit) → k < length visits →
    sum_by f (clients_of (slice_range visits 0 (k + 1))) ≡ sum_by f (clients_of (slice_range visits 0 k)) + sum_by f (clients_of (get_or visits k none ∷ []))
amounts-more f visits k none h =
    ap (λ xs. sum_by f (clients_of xs)) (slice-more visits 0 k none (omega arith) h) ∙ amounts-append f (slice_range visits 0 k) (get_or visits k none ∷ [])

pub amounts-split : (f : ℕ → ℕ) (visits : List Visit) (a b c : ℕ) → a ≤ b → b ≤ c →
    sum_by f (clients_of (slice_range visits a c)) ≡ sum_by f (clients_of (slice_range visits a b)) + sum_by f (clients_of (slice_range visits b c))
amounts-split f visits a b c h k = ap (λ xs. sum_by f (clients_of xs)) (slice-split visits a b c h k) ∙ amounts-append f (slice_range visits a b) (slice_range visits b c)

-- they are no larger than the largest quantity of each visit
pub amounts-bound : (f : ℕ → ℕ) → ((place : ℕ) → f place ≤ largest) → (visits : List Visit) → sum_by f (clients_of visits) ≤ length visits * largest
amounts-bound f small [] = omega arith
amounts-bound f small (Client place ∷ visits) =
    let rest = amounts-bound f small visits in
    let a = sum_by-cons f place (clients_of visits) in
    let b = small place in
    omega arith
amounts-bound f small (Reload depot ∷ visits) = let rest = amounts-bound f small visits in omega arith

pub length-slice : (visits : List Visit) (k : ℕ) → length (slice_range visits 0 k) ≤ length visits
length-slice visits k = omega (arith, length-take {A = Visit}, length-drop {A = Visit})

pub reloads-bound : (visits : List Visit) → reloads_in visits ≤ length visits
reloads-bound visits = count_by-le-length (λ (visit : Visit). not (is_client visit)) visits
