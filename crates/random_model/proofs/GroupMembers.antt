-- The members of a valid problem's groups, and how many of them are among some clients.
use Rattle.std.proofs.Common.{◌≡◌, ◌∙◌, sym, refl, ap, ap₂, subst, ℕ, ◌+◌, ◌≤◌, ◌<◌, ◌||◌, ◌==◌, Bool, true, false, cond, List, [], ◌∷◌, length, count_by, get_or, All, Contains, Option, Some, None, IsTrue, ⊎_elim, arith}
use Rattle.std.specs.List.{IsDistinct, list_any}
use Rattle.std.specs.Prelude.{nat_eq, unwrap_or}
use Rattle.std.proofs.lemmas.Bool.{both_ways, cases_lt, eq-eqb, eqb-true, or_parts}
use Rattle.std.proofs.lemmas.List.Elements.{All-contains, All-from_recursion, All-get_or}
use Rattle.std.proofs.lemmas.List.Folds.{Any-from_list_any, list_any_at, list_any_none}
use Rattle.std.proofs.lemmas.List.Sums.{sum_by-cons}
use Rattle.std.proofs.lemmas.Map.Keys.{IsDistinct-head, IsDistinct-tail}
use Rattle.std.proofs.lemmas.Map.Views.{Contains-from_any}
use Rattle.std.proofs.lemmas.Option.{slice_get_past, unwrap_or-slice_get}
use Rattle.problem_data.specs.declared.problem.Problem.{Problem}
use Rattle.problem_data.specs.Places.{client_at, group_at, is_client_place}
use Rattle.problem_data.specs.Valid.{IsValid, IsValidGroup}
use Rattle.random_model.specs.Groups.{is_same_group}
use Rattle.random_model.proofs.DrawnClients.{is_of_group}

not_in_none : (c : ℕ) (members : List ℕ) → members ≡ [] → Contains members c → ⊥
not_in_none c members e h =
    let below : h.0 < length members = h.1 in
    let none : length members ≡ 0 = ap length e in
    omega arith

-- a client's group is there
pub group_in_range : (p : Problem) (c group : ℕ) → IsValid p → IsTrue (is_client_place p c) → (client_at p c).group ≡ Some group → group < length p.groups
group_in_range p c group valid place e =
    ⊎_elim (λ l. l)
    (λ l. absurd (not_in_none c (group_at p group) (ap (λ (o : Option (List ℕ)). unwrap_or o []) (slice_get_past p.groups group l)) ((valid.grouped c group place).0 e)))
    (cases_lt group (length p.groups))

module _ (p : Problem) (group : ℕ) (valid : IsValid p) where
  pub valid_group : group < length p.groups → IsValidGroup p (group_at p group)
  valid_group h = subst (IsValidGroup p) (sym (unwrap_or-slice_get p.groups group [])) (All-get_or (IsValidGroup p) p.groups group [] h valid.each_group)

  pub member-client : (c : ℕ) → group < length p.groups → Contains (group_at p group) c → IsTrue (is_client_place p c)
  member-client c h inside = let one : IsValidGroup p (group_at p group) = valid_group h in All-contains (λ place. IsTrue (is_client_place p place)) (group_at p group) c one.clients inside

  -- a member of a group is of it
  pub member-of_group : (c : ℕ) → group < length p.groups → Contains (group_at p group) c → is_of_group p group c ≡ true
  member-of_group c h inside = ap (is_same_group (Some group)) ((valid.grouped c group (member-client c h inside)).1 inside) ∙ eq-eqb group group refl

  -- a client of a group is its member
  pub of_group-member : (c : ℕ) → IsTrue (is_client_place p c) → is_of_group p group c ≡ true → Contains (group_at p group) c
  of_group-member c place own = by (client_at p c).group refl
    where
      by : (o : Option ℕ) → (client_at p c).group ≡ o → Contains (group_at p group) c
      by None e = absurd (both_ways false refl (sym (ap (is_same_group (Some group)) e) ∙ own))
      by (Some g) e =
          let same : group ≡ g = eqb-true group g (sym (ap (is_same_group (Some group)) e) ∙ own) in
          (valid.grouped c group place).0 (e ∙ ap (λ (k : ℕ). Some k) (sym same))

-- numbers of a list that pass a test
module _ (test : ℕ → Bool) where
  count-cons : (x : ℕ) (xs : List ℕ) → count_by test (x ∷ xs) ≡ cond (test x) 1 0 + count_by test xs
  count-cons x xs = sum_by-cons (λ d. cond (test d) 1 0) x xs

  count_none : (xs : List ℕ) → list_any test xs ≡ false → count_by test xs ≡ 0
  count_none [] h = refl
  count_none (x ∷ xs) h =
      let both = or_parts (test x) (list_any test xs) h in
      count-cons x xs ∙ ap₂ (λ (b : Bool) (n : ℕ). cond b 1 0 + n) both.0 (count_none xs both.1)

  -- where some number passes, one at least is counted
  pub count_some : (xs : List ℕ) → list_any test xs ≡ true → 1 ≤ count_by test xs
  count_some [] h = absurd (both_ways false refl h)
  count_some (x ∷ xs) h = rw (count-cons x xs) (by (test x) (list_any test xs) (count_by test xs) h (count_some xs))
    where
      by : (b any : Bool) (n : ℕ) → (b || any) ≡ true → (any ≡ true → 1 ≤ n) → 1 ≤ cond b 1 0 + n
      by true any n h rest = omega arith
      by false any n h rest = let some : 1 ≤ n = rest h in omega arith

-- tests that agree count the same
pub count_same : (f g : ℕ → Bool) (xs : List ℕ) → ((x : ℕ) → f x ≡ g x) → count_by f xs ≡ count_by g xs
count_same f g [] h = refl
count_same f g (x ∷ xs) h = count-cons f x xs ∙ ap₂ (λ (b : Bool) (n : ℕ). cond b 1 0 + n) (h x) (count_same f g xs h) ∙ sym (count-cons g x xs)

count_either : (f g : ℕ → Bool) (xs : List ℕ) → count_by (λ x. f x || g x) xs ≤ count_by f xs + count_by g xs
count_either f g [] = omega arith
count_either f g (x ∷ xs) = rw (count-cons (λ y. f y || g y) x xs, count-cons f x xs, count-cons g x xs) (by (f x) (g x) _ _ _ (count_either f g xs))
  where
    by : (a b : Bool) (n k m : ℕ) → n ≤ k + m → cond (a || b) 1 0 + n ≤ cond a 1 0 + k + (cond b 1 0 + m)
    by true true n k m h = omega arith
    by true false n k m h = omega arith
    by false true n k m h = omega arith
    by false false n k m h = omega arith

-- in a list of different numbers each stands once
count_once : (d : ℕ) (xs : List ℕ) → IsDistinct nat_eq xs → count_by (λ c. d == c) xs ≤ cond (list_any (λ c. d == c) xs) 1 0
count_once d [] h = omega arith
count_once d (x ∷ xs) h =
    rw (count-cons (λ c. d == c) x xs) (by (d == x) (list_any (λ c. d == c) xs) _ (count_once d xs (IsDistinct-tail nat_eq x xs h)) (λ t. count_none (λ c. d == c) xs (apart t)))
  where
    apart : (d == x) ≡ true → list_any (λ c. d == c) xs ≡ false
    apart t =
        ap (λ n. list_any (λ c. n == c) xs) (eqb-true d x t)
        ∙ list_any_none (λ c. x == c) xs (All-from_recursion (λ c. (x == c) ≡ false) xs (IsDistinct-head nat_eq x xs h))

    by : (b any : Bool) (n : ℕ) → n ≤ cond any 1 0 → (b ≡ true → n ≡ 0) → cond b 1 0 + n ≤ cond (b || any) 1 0
    by true any n h none = let e : n ≡ 0 = none refl in omega arith
    by false any n h none = omega arith

-- of different members at most as many are among the clients as clients pass a test that all members pass
pub members-few : (test : ℕ → Bool) (members clients : List ℕ) → IsDistinct nat_eq members → ((d : ℕ) → Contains members d → test d ≡ true) →
    count_by (λ c. list_any (λ d. d == c) clients) members ≤ count_by test clients
members-few test members [] distinct h = let none : count_by (λ c. false) members ≡ 0 = nothing members in omega arith
  where
    nothing : (xs : List ℕ) → count_by (λ c. false) xs ≡ 0
    nothing [] = refl
    nothing (x ∷ xs) = nothing xs
members-few test members (d ∷ clients) distinct h =
    let either = count_either (λ c. d == c) (λ c. list_any (λ e. e == c) clients) members in
    let once = count_once d members distinct in
    let passes = by (list_any (λ c. d == c) members) (test d) (λ t. h d (Contains-from_any eqb-true d members t)) in
    let rest = members-few test members clients distinct h in
    rw (count-cons test d clients) (omega arith)
  where
    by : (a b : Bool) → (a ≡ true → b ≡ true) → cond a 1 0 ≤ cond b 1 0
    by true b h = rw (h refl) (omega arith)
    by false b h = omega arith

-- some member is among the clients, where some client passes a test that members alone pass
pub members-some : (test : ℕ → Bool) (members clients : List ℕ) → All (λ d. test d ≡ true → Contains members d) clients → list_any test clients ≡ true →
    list_any (λ c. list_any (λ d. d == c) clients) members ≡ true
members-some test members clients h some =
    let found = Any-from_list_any test clients some in
    let at : ℕ = found.0 in
    let client : ℕ = found.1 in
    let inside : Contains members client = subst (λ d. test d ≡ true → Contains members d) found.3 (h at client found.2) found.4 in
    list_any_at (λ c. list_any (λ d. d == c) clients) members inside.0 client inside.1
    (list_any_at (λ d. d == get_or members inside.0 client) clients at client found.2 (eq-eqb (get_or clients at client) (get_or members inside.0 client) (found.3 ∙ sym inside.2)))
