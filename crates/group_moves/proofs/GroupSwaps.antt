-- Whether what must be served is still served where a client is visited in the place of another one of a lawful plan: by their groups.
use Rattle.std.proofs.Common.{◌≡◌, ◌≢◌, ℕ, ◌+◌, ◌<◌, ◌⊎◌, Bool, true, false, ◌&&◌, cond, not, List, [], ◌∷◌, length, get_or, refl, sym, ◌∙◌, ap, ap₂, inl, inr, arith, suc, Option, Some, None}
use Rattle.std.specs.Prelude.{◌==◌, count_by, is_none, nat_eq, nat_le}
use Rattle.std.specs.List.{list_all}
use Rattle.std.proofs.lemmas.Bool.{cases_eq}
use Rattle.std.proofs.lemmas.Bool.Decides.{nat_tests}
use Rattle.std.proofs.lemmas.List.Folds.{list_all_at}
use Rattle.std.proofs.lemmas.List.Sums.{AllPass-from_list_all, sum_by-cons}
use Rattle.std.proofs.lemmas.Option.{unwrap_or-slice_get}
use Rattle.problem_data.specs.declared.problem.Problem.{Problem}
use Rattle.problem_data.specs.Places.{client_at, client_places, group_at, is_client_place}
use Rattle.problem_data.specs.Valid.{IsValid}
use Rattle.routing_model.specs.Lawful.{IsLawful, is_lawful, is_required, is_required_group, serves_group, serves_groups, serves_required}
use Rattle.routing_model.specs.Routes.{Routes, is_visited}
use Rattle.routing_model.proofs.GroupChanges.{lets_in, lets_out, not-member, own-inside, own-member}
use Rattle.routing_model.proofs.LawfulFacts.{lawful-facts}
use Rattle.gain_model.proofs.ListsOfPlans.{at_client}
use Rattle.search_model.proofs.ClientMoves.{serves_all}
use Rattle.group_moves.specs.inside.Groups.{is_same_group, lets_stand_for}

-- a client more and a client less among some
module _ (q r : ℕ → Bool) (u v : ℕ) (others : (c : ℕ) → c ≢ u → c ≢ v → q c ≡ r c) (u_in : q u ≡ true) (u_was : r u ≡ false) (v_in : q v ≡ false) (v_was : r v ≡ true) where
  abbrev one_if : Bool → ℕ
  one_if b = cond b 1 0

  count-cons : (test : ℕ → Bool) (x : ℕ) (xs : List ℕ) → count_by test (x ∷ xs) ≡ cond (test x) 1 0 + count_by test xs
  count-cons test x xs = sum_by-cons (λ d. cond (test d) 1 0) x xs

  apart : u ≢ v
  apart e = let k : true ≡ false = sym u_in ∙ ap q e ∙ v_in in absurd (let z : ⊥ = cc in z)

  itself : (n : ℕ) → nat_eq n n ≡ true
  itself n = grind (arith, nat_tests)

  differs : (m n : ℕ) → m ≢ n → nat_eq m n ≡ false
  differs m n h = grind (arith, nat_tests)

  pub count-swap : (members : List ℕ) → count_by q members + count_by (nat_eq v) members ≡ count_by r members + count_by (nat_eq u) members
  count-swap [] = refl
  count-swap (c ∷ members) = by (cases_eq c u) (cases_eq c v) (count-swap members)
    where
      by : ((c ≡ u) ⊎ (c ≢ u)) → ((c ≡ v) ⊎ (c ≢ v)) → count_by q members + count_by (nat_eq v) members ≡ count_by r members + count_by (nat_eq u) members →
          count_by q (c ∷ members) + count_by (nat_eq v) (c ∷ members) ≡ count_by r (c ∷ members) + count_by (nat_eq u) (c ∷ members)
      by (inl e) at_v rest =
          let of_q = count-cons q c members in
          let of_r = count-cons r c members in
          let of_u = count-cons (nat_eq u) c members in
          let of_v = count-cons (nat_eq v) c members in
          let a : one_if (q c) ≡ 1 = ap (λ (n : ℕ). one_if (q n)) e ∙ ap one_if u_in in
          let b : one_if (r c) ≡ 0 = ap (λ (n : ℕ). one_if (r n)) e ∙ ap one_if u_was in
          let d : one_if (nat_eq u c) ≡ 1 = ap (λ (n : ℕ). one_if (nat_eq u n)) e ∙ ap one_if (itself u) in
          let f : one_if (nat_eq v c) ≡ 0 = ap (λ (n : ℕ). one_if (nat_eq v n)) e ∙ ap one_if (differs v u (λ k. apart (sym k))) in
          omega (arith, of_q, of_r, of_u, of_v, a, b, d, f, rest)
      by (inr n) (inl e) rest =
          let of_q = count-cons q c members in
          let of_r = count-cons r c members in
          let of_u = count-cons (nat_eq u) c members in
          let of_v = count-cons (nat_eq v) c members in
          let a : one_if (q c) ≡ 0 = ap (λ (n : ℕ). one_if (q n)) e ∙ ap one_if v_in in
          let b : one_if (r c) ≡ 1 = ap (λ (n : ℕ). one_if (r n)) e ∙ ap one_if v_was in
          let d : one_if (nat_eq u c) ≡ 0 = ap one_if (differs u c (λ k. n (sym k))) in
          let f : one_if (nat_eq v c) ≡ 1 = ap (λ (n : ℕ). one_if (nat_eq v n)) e ∙ ap one_if (itself v) in
          omega (arith, of_q, of_r, of_u, of_v, a, b, d, f, rest)
      by (inr n) (inr m) rest =
          let of_q = count-cons q c members in
          let of_r = count-cons r c members in
          let of_u = count-cons (nat_eq u) c members in
          let of_v = count-cons (nat_eq v) c members in
          let a : one_if (q c) ≡ one_if (r c) = ap one_if (others c n m) in
          let d : one_if (nat_eq u c) ≡ 0 = ap one_if (differs u c (λ k. n (sym k))) in
          let f : one_if (nat_eq v c) ≡ 0 = ap one_if (differs v c (λ k. m (sym k))) in
          omega (arith, of_q, of_r, of_u, of_v, a, d, f, rest)

-- how many of a group are visited decides
abbrev serves_so : Bool → ℕ → Bool
serves_so required n = cond required (n == 1) (nat_le n 1)

more-so : (required : Bool) (n m : ℕ) → serves_so required n ≡ true → m ≡ n + 1 → serves_so required m ≡ (n == 0)
more-so true n m h e = grind (arith, nat_tests)
more-so false n m h e = grind (arith, nat_tests)

less-so : (required : Bool) (n m : ℕ) → serves_so required n ≡ true → n ≡ m + 1 → serves_so required m ≡ not required
less-so true n m h e = grind (arith, nat_tests)
less-so false n m h e = grind (arith, nat_tests)

-- a test of all numbered lists
all-each : (q : List ℕ → Bool) (xss : List (List ℕ)) → ((i : ℕ) → i < length xss → q (get_or xss i []) ≡ true) → list_all q xss ≡ true
all-each q [] each = refl
all-each q (xs ∷ xss) each = ap₂ (λ (a b : Bool). a && b) (each 0 (omega arith)) (all-each q xss (λ i h. each (suc i) (omega arith)))

-- a test that keeps to another one
all-kept : (f g : ℕ → Bool) → ((c : ℕ) → f c ≡ true → g c ≡ true) → (cs : List ℕ) → list_all f cs ≡ true → list_all g cs ≡ true
all-kept f g each [] h = refl
all-kept f g each (c ∷ cs) h = ap₂ (λ (a b : Bool). a && b) (each c (first (f c) (list_all f cs) h)) (all-kept f g each cs (second (f c) (list_all f cs) h))
  where
    first : (a b : Bool) → (a && b) ≡ true → a ≡ true
    first true b h = refl
    first false b h = h

    second : (a b : Bool) → (a && b) ≡ true → b ≡ true
    second true b h = h
    second false b h = cc

-- whether a group is a client's
abbrev is_of : Option ℕ → ℕ → Bool
is_of None i = false
is_of (Some g) i = nat_eq g i

same : (m n : ℕ) → nat_eq m n ≡ true → m ≡ n
same m n h = grind (arith, nat_tests)

equal : (n : ℕ) → nat_eq n n ≡ true
equal n = grind (arith, nat_tests)

of-group : (o : Option ℕ) (i : ℕ) → is_of o i ≡ true → o ≡ Some i
of-group None i h = cc
of-group (Some g) i h = ap (λ (n : ℕ). Some n) (same g i h)

of-other : (o : Option ℕ) (i : ℕ) → is_of o i ≡ false → o ≢ Some i
of-other o i h e = let k : true ≡ false = sym (ap (λ (x : Option ℕ). is_of x i) e ∙ equal i) ∙ h in absurd (let z : ⊥ = cc in z)

module _ (p : Problem) (valid : IsValid p) (routes made : Routes) (lawful : is_lawful p routes ≡ true) (u v : ℕ) (u_there : is_client_place p u ≡ true) (v_there : is_client_place p v ≡ true)
    (others : (c : ℕ) → c ≢ u → c ≢ v → is_visited made c ≡ is_visited routes c) (u_in : is_visited made u ≡ true) (u_was : is_visited routes u ≡ false) (v_in : is_visited made v ≡ false)
    (v_was : is_visited routes v ≡ true) where
  abbrev members_of : ℕ → List ℕ
  members_of i = get_or p.groups i []

  abbrev was : ℕ → ℕ
  was i = count_by (is_visited routes) (members_of i)

  abbrev now : ℕ → ℕ
  now i = count_by (is_visited made) (members_of i)

  abbrev needs : ℕ → Bool
  needs i = is_required_group p (members_of i)

  served-before : (i : ℕ) → i < length p.groups → serves_so (needs i) (was i) ≡ true
  served-before i h = let facts : IsLawful p routes = lawful-facts p routes lawful in AllPass-from_list_all (serves_group p routes) p.groups facts.serves_groups i [] h

  counts : (i : ℕ) → now i + count_by (nat_eq v) (members_of i) ≡ was i + count_by (nat_eq u) (members_of i)
  counts i = count-swap (is_visited made) (is_visited routes) u v others u_in u_was v_in v_was (members_of i)

  in-of : (c : ℕ) → is_client_place p c ≡ true → (i : ℕ) → (b : Bool) → is_of (client_at p c).group i ≡ b → count_by (nat_eq c) (members_of i) ≡ cond b 1 0
  in-of c there i true e = own-member p valid c there i (of-group (client_at p c).group i e)
  in-of c there i false e = not-member p valid c there i (of-other (client_at p c).group i e)

  -- of one group
  abbrev test_at : ℕ → Bool → Bool → Bool
  test_at i of_u of_v = cond of_u (cond of_v true (was i == 0)) (cond of_v (not (needs i)) true)

  served-at : (i : ℕ) → i < length p.groups → (of_u of_v : Bool) → is_of (client_at p u).group i ≡ of_u → is_of (client_at p v).group i ≡ of_v → serves_so (needs i) (now i) ≡ test_at i of_u of_v
  served-at i h of_u of_v e f = by of_u of_v (in-of u u_there i of_u e) (in-of v v_there i of_v f)
    where
      stays : now i ≡ was i → serves_so (needs i) (now i) ≡ true
      stays k = ap (serves_so (needs i)) k ∙ served-before i h

      by : (a b : Bool) → count_by (nat_eq u) (members_of i) ≡ cond a 1 0 → count_by (nat_eq v) (members_of i) ≡ cond b 1 0 → serves_so (needs i) (now i) ≡ test_at i a b
      by true true x y = let s = counts i in stays (omega (arith, s, x, y))
      by true false x y = let s = counts i in more-so (needs i) (was i) (now i) (served-before i h) (omega (arith, s, x, y))
      by false true x y = let s = counts i in less-so (needs i) (was i) (now i) (served-before i h) (omega (arith, s, x, y))
      by false false x y = let s = counts i in stays (omega (arith, s, x, y))

  -- the clients that are required themselves
  abbrev served : Routes → ℕ → Bool
  served rs c = cond (is_required p c) (is_visited rs c) true

  required-so : (b : Bool) → is_required p v ≡ b → serves_required p made ≡ not b
  required-so true e = by (serves_required p made) refl
    where
      by : (b : Bool) → serves_required p made ≡ b → serves_required p made ≡ false
      by false k = k
      by true k =
          let z : true ≡ false = sym (at_client p (served made) v v_there k) ∙ ap (λ (b : Bool). cond b (is_visited made v) true) e ∙ v_in in
          absurd (let w : ⊥ = cc in w)
  required-so false e = let facts : IsLawful p routes = lawful-facts p routes lawful in all-kept (served routes) (served made) at (client_places p) facts.serves_required
    where
      present : (b : Bool) → cond b true true ≡ true
      present true = refl
      present false = refl

      at : (c : ℕ) → served routes c ≡ true → served made c ≡ true
      at c h = by (cases_eq c u) (cases_eq c v)
        where
          by : ((c ≡ u) ⊎ (c ≢ u)) → ((c ≡ v) ⊎ (c ≢ v)) → served made c ≡ true
          by (inl k) other = ap (λ (b : Bool). cond (is_required p c) b true) (ap (is_visited made) k ∙ u_in) ∙ present (is_required p c)
          by (inr n) (inl k) = ap (λ (b : Bool). cond b (is_visited made c) true) (ap (is_required p) k ∙ e)
          by (inr n) (inr m) = ap (λ (b : Bool). cond (is_required p c) b true) (others c n m) ∙ h

  -- the groups, where the two are of one
  alike-so : ((i : ℕ) → is_of (client_at p u).group i ≡ is_of (client_at p v).group i) → serves_groups p made ≡ true
  alike-so alike = all-each (serves_group p made) p.groups (λ i h. served-at i h (is_of (client_at p v).group i) (is_of (client_at p v).group i) (alike i) refl ∙ both i (is_of (client_at p v).group i))
    where
      both : (i : ℕ) (b : Bool) → test_at i b b ≡ true
      both i true = refl
      both i false = refl

  -- and where they aren't
  abbrev in_so : Option ℕ → Bool
  in_so None = true
  in_so (Some g) = was g == 0

  abbrev out_so : Option ℕ → Bool
  out_so None = true
  out_so (Some h) = not (needs h)

  groups-so : ((i : ℕ) → is_of (client_at p u).group i ≡ true → is_of (client_at p v).group i ≡ false) → serves_groups p made ≡ (in_so (client_at p u).group && out_so (client_at p v).group)
  groups-so apart = by (in_so (client_at p u).group) (out_so (client_at p v).group) refl refl
    where
      each : (i : ℕ) → in_so (client_at p u).group ≡ true → out_so (client_at p v).group ≡ true → (a b : Bool) → is_of (client_at p u).group i ≡ a → is_of (client_at p v).group i ≡ b → test_at i a b ≡ true
      each i x y true true e f = refl
      each i x y true false e f = sym (ap in_so (of-group (client_at p u).group i e)) ∙ x
      each i x y false true e f = sym (ap out_so (of-group (client_at p v).group i f)) ∙ y
      each i x y false false e f = refl

      not-in : (o : Option ℕ) → (client_at p u).group ≡ o → in_so o ≡ false → serves_groups p made ≡ false
      not-in None own x = cc
      not-in (Some g) own x =
          let inside = own-inside p valid u u_there g own in
          let of_u : is_of (client_at p u).group g ≡ true = ap (λ (o : Option ℕ). is_of o g) own ∙ equal g in
          list_all_at (serves_group p made) p.groups g [] inside (served-at g inside true false of_u (apart g of_u) ∙ x)

      not-out : (o : Option ℕ) → (client_at p v).group ≡ o → out_so o ≡ false → serves_groups p made ≡ false
      not-out None own x = cc
      not-out (Some h) own x =
          let inside = own-inside p valid v v_there h own in
          let of_v : is_of (client_at p v).group h ≡ true = ap (λ (o : Option ℕ). is_of o h) own ∙ equal h in
          list_all_at (serves_group p made) p.groups h [] inside (served-at h inside false true (not-both (is_of (client_at p u).group h) refl of_v) of_v ∙ x)
        where
          not-both : (b : Bool) → is_of (client_at p u).group h ≡ b → is_of (client_at p v).group h ≡ true → is_of (client_at p u).group h ≡ false
          not-both false e f = e
          not-both true e f = let k : true ≡ false = sym f ∙ apart h e in absurd (let z : ⊥ = cc in z)

      by : (a b : Bool) → in_so (client_at p u).group ≡ a → out_so (client_at p v).group ≡ b → serves_groups p made ≡ (a && b)
      by true true x y = all-each (serves_group p made) p.groups (λ i h. served-at i h (is_of (client_at p u).group i) (is_of (client_at p v).group i) refl refl ∙
          each i x y (is_of (client_at p u).group i) (is_of (client_at p v).group i) refl refl)
      by true false x y = not-out (client_at p v).group refl y
      by false b x y = not-in (client_at p u).group refl x

  -- by both groups
  read-group : (i : ℕ) → members_of i ≡ group_at p i
  read-group i = sym (unwrap_or-slice_get p.groups i [])

  in-read : (o : Option ℕ) → in_so o ≡ lets_in p routes o
  in-read None = refl
  in-read (Some g) = ap (λ (ms : List ℕ). count_by (is_visited routes) ms == 0) (read-group g)

  out-read : (o : Option ℕ) → (client_at p v).group ≡ o → (not (is_required p v) && out_so o) ≡ lets_out p v o
  out-read None own = ap (λ (x : Option ℕ). not (is_none x && ((client_at p v).prize == 0)) && true) own ∙ and-yes (not ((client_at p v).prize == 0))
    where
      and-yes : (b : Bool) → (b && true) ≡ b
      and-yes true = refl
      and-yes false = refl
  out-read (Some h) own = ap (λ (x : Option ℕ). not (is_none x && ((client_at p v).prize == 0)) && not (needs h)) own ∙ ap (λ (ms : List ℕ). not (is_required_group p ms)) (read-group h)

  pub serves-in-place : serves_all p made ≡ lets_stand_for p routes u v
  serves-in-place = by (is_same_group (client_at p u).group (client_at p v).group) refl
    where
      same-groups : (o q : Option ℕ) → is_same_group o q ≡ true → (i : ℕ) → is_of o i ≡ is_of q i
      same-groups None q h i = cc
      same-groups (Some g) None h i = cc
      same-groups (Some g) (Some k) h i = ap (λ (n : ℕ). nat_eq n i) (same g k h)

      other-groups : (o q : Option ℕ) → is_same_group o q ≡ false → (i : ℕ) → is_of o i ≡ true → is_of q i ≡ false
      other-groups None q h i e = cc
      other-groups (Some g) None h i e = refl
      other-groups (Some g) (Some k) h i e = differ (nat_eq k i) refl
        where
          differ : (b : Bool) → nat_eq k i ≡ b → nat_eq k i ≡ false
          differ false f = f
          differ true f = let z : true ≡ false = sym (equal i) ∙ sym (ap₂ (λ (m n : ℕ). nat_eq m n) (same g i e) (same k i f)) ∙ h in absurd (let w : ⊥ = cc in w)

      grouped : (o q : Option ℕ) → is_same_group o q ≡ true → is_none q ≡ false
      grouped None q h = cc
      grouped (Some g) None h = cc
      grouped (Some g) (Some k) h = refl

      turned : (a b c : Bool) → (a && (b && c)) ≡ (b && (a && c))
      turned true b c = refl
      turned false true c = refl
      turned false false c = refl

      by : (b : Bool) → is_same_group (client_at p u).group (client_at p v).group ≡ b → serves_all p made ≡ lets_stand_for p routes u v
      by true e =
          ap₂ (λ (a b : Bool). a && b) (required-so false (ap (λ (b : Bool). b && ((client_at p v).prize == 0)) (grouped (client_at p u).group (client_at p v).group e)))
          (alike-so (same-groups (client_at p u).group (client_at p v).group e))
          ∙ sym (ap (λ (b : Bool). cond b true (lets_in p routes (client_at p u).group && lets_out p v (client_at p v).group)) e)
      by false e =
          ap₂ (λ (a b : Bool). a && b) (required-so (is_required p v) refl) (groups-so (other-groups (client_at p u).group (client_at p v).group e))
          ∙ turned (not (is_required p v)) (in_so (client_at p u).group) (out_so (client_at p v).group)
          ∙ ap₂ (λ (a b : Bool). a && b) (in-read (client_at p u).group) (out-read (client_at p v).group refl)
          ∙ sym (ap (λ (b : Bool). cond b true (lets_in p routes (client_at p u).group && lets_out p v (client_at p v).group)) e)
