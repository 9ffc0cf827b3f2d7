-- Whether a list's reloads are as a type allows, where its first visits are the first ones of a list whose reloads are.
use Rattle.std.proofs.Common.{◌≡◌, ℕ, zero, suc, ◌+◌, ◌<◌, ◌≤◌, Bool, true, false, ◌&&◌, ◌||◌, List, [], ◌∷◌, ◌++◌, length, get_or, refl, sym, ◌∙◌, ap, ap₂, arith}
use Rattle.std.specs.Prelude.{nat_le, nat_lt}
use Rattle.std.specs.List.{list_all, list_any}
use Rattle.std.proofs.lemmas.Bool.Decides.{nat_tests}
use Rattle.std.proofs.lemmas.List.{length-map}
use Rattle.problem_data.specs.declared.problem.Problem.{Problem}
use Rattle.problem_data.specs.declared.problem.VehicleType.{VehicleType}
use Rattle.problem_data.specs.declared.visit.Visit.{Visit}
use Rattle.problem_data.specs.declared.visit.Visit.TheVariants.{Client, Reload}
use Rattle.problem_data.specs.Places.{fleet, type_at, type_of, types_of_vehicles}
use Rattle.routing_model.specs.Lawful.{IsLawful, is_allowed, is_lawful, reloads_as_allowed}
use Rattle.routing_model.specs.Routes.{Routes, list_at}
use Rattle.routing_model.proofs.LawfulChanges.{not-allowed-set, type-in-fleet}
use Rattle.routing_model.proofs.LawfulFacts.{lawful-facts}
use Rattle.search_model.proofs.ClientPlaces.{list-read}
use Rattle.route_cache.specs.Marks.{reloads_in}
use Rattle.route_cache.proofs.Counting.{reloads-append, reloads-cons}
use Rattle.route_cache.proofs.Types.{no_type, type_at-read}
use Rattle.move_core.specs.Searches.{some_type_reloads}

and-first : (a b : Bool) → (a && b) ≡ true → a ≡ true
and-first true b h = refl
and-first false b h = h

and-second : (a b : Bool) → (a && b) ≡ true → b ≡ true
and-second true b h = h
and-second false b h = cc

and-no : (a b : Bool) → b ≡ false → (a && b) ≡ false
and-no true b h = h
and-no false b h = refl

and-yes : (a b : Bool) → b ≡ true → (a && b) ≡ a
and-yes true b h = h
and-yes false b h = refl

at-most : (m n : ℕ) → nat_le m n ≡ true → m ≤ n
at-most m n h = grind (arith, nat_tests)

is-at-most : (m n : ℕ) → m ≤ n → nat_le m n ≡ true
is-at-most m n h = grind (arith, nat_tests)

is-more : (m n : ℕ) → n < m → nat_le m n ≡ false
is-more m n h = grind (arith, nat_tests)

-- the visits of two lists
all-two : (q : Visit → Bool) (xs ys : List Visit) → list_all q (xs ++ ys) ≡ (list_all q xs && list_all q ys)
all-two q [] ys = refl
all-two q (x ∷ xs) ys = ap (λ (b : Bool). q x && b) (all-two q xs ys) ∙ regroup (q x) (list_all q xs) (list_all q ys)
  where
    regroup : (a b c : Bool) → (a && (b && c)) ≡ ((a && b) && c)
    regroup true b c = refl
    regroup false b c = refl

-- without a reload each visit is allowed
pub no-reload : (t : VehicleType) (ys : List Visit) → reloads_in ys ≡ 0 → list_all (is_allowed t) ys ≡ true
no-reload t [] none = refl
no-reload t (Client place ∷ ys) none = no-reload t ys (let e : reloads_in (Client place ∷ ys) ≡ 0 + reloads_in ys = reloads-cons (Client place) ys in omega arith)
no-reload t (Reload depot ∷ ys) none = absurd (let e : reloads_in (Reload depot ∷ ys) ≡ 1 + reloads_in ys = reloads-cons (Reload depot) ys in omega (arith, e, none))

-- a part of an allowed list
pub part-allowed : (t : VehicleType) (xs ys zs : List Visit) → reloads_as_allowed t (xs ++ (ys ++ zs)) ≡ true → list_all (is_allowed t) ys ≡ true
part-allowed t xs ys zs all =
    let visits : list_all (is_allowed t) (xs ++ (ys ++ zs)) ≡ true = and-first (list_all (is_allowed t) (xs ++ (ys ++ zs))) (nat_le (reloads_in (xs ++ (ys ++ zs))) t.reloads) all in
    let last : list_all (is_allowed t) (ys ++ zs) ≡ true = and-second (list_all (is_allowed t) xs) (list_all (is_allowed t) (ys ++ zs)) (sym (all-two (is_allowed t) xs (ys ++ zs)) ∙ visits) in
    and-first (list_all (is_allowed t) ys) (list_all (is_allowed t) zs) (sym (all-two (is_allowed t) ys zs) ∙ last)

-- the first visits of an allowed list, with others behind them
module _ (t : VehicleType) (xs rest ys : List Visit) (own : reloads_as_allowed t (xs ++ rest) ≡ true) where
  first-allowed : list_all (is_allowed t) xs ≡ true
  first-allowed =
      and-first (list_all (is_allowed t) xs) (list_all (is_allowed t) rest)
      (sym (all-two (is_allowed t) xs rest) ∙ and-first (list_all (is_allowed t) (xs ++ rest)) (nat_le (reloads_in (xs ++ rest)) t.reloads) own)

  few : reloads_in xs ≤ t.reloads
  few =
      let most = at-most (reloads_in (xs ++ rest)) t.reloads (and-second (list_all (is_allowed t) (xs ++ rest)) (nat_le (reloads_in (xs ++ rest)) t.reloads) own) in
      let sum = reloads-append xs rest in
      omega arith

  visits : list_all (is_allowed t) (xs ++ ys) ≡ list_all (is_allowed t) ys
  visits = all-two (is_allowed t) xs ys ∙ ap (λ (b : Bool). b && list_all (is_allowed t) ys) first-allowed

  -- too many reloads
  pub too-many : t.reloads < reloads_in xs + reloads_in ys → reloads_as_allowed t (xs ++ ys) ≡ false
  too-many more =
      let sum = reloads-append xs ys in
      and-no (list_all (is_allowed t) (xs ++ ys)) (nat_le (reloads_in (xs ++ ys)) t.reloads) (is-more (reloads_in (xs ++ ys)) t.reloads (omega arith))

  -- few enough: by their depots
  pub by-depots : reloads_in xs + reloads_in ys ≤ t.reloads → reloads_as_allowed t (xs ++ ys) ≡ list_all (is_allowed t) ys
  by-depots most =
      let sum = reloads-append xs ys in
      and-yes (list_all (is_allowed t) (xs ++ ys)) (nat_le (reloads_in (xs ++ ys)) t.reloads) (is-at-most (reloads_in (xs ++ ys)) t.reloads (omega arith)) ∙ visits

  -- none comes
  pub none-comes : reloads_in ys ≡ 0 → reloads_as_allowed t (xs ++ ys) ≡ true
  none-comes none = let enough = few in by-depots (omega arith) ∙ no-reload t ys none

-- the lists of a lawful plan have reloads as allowed
pub plan-allowed : (p : Problem) (routes : Routes) (vehicle : ℕ) → is_lawful p routes ≡ true → vehicle < length routes → reloads_as_allowed (type_at p (type_of p vehicle)) (list_at routes vehicle) ≡ true
plan-allowed p routes vehicle lawful inside =
    let facts : IsLawful p routes = lawful-facts p routes lawful in
    let each = facts.one_list_each in
    let long = length-map (types_of_vehicles p) (type_at p) in
    ap₂ (λ (t : VehicleType) (xs : List Visit). reloads_as_allowed t xs) (sym (type-in-fleet p vehicle (omega arith))) (list-read routes vehicle)
    ∙ not-allowed-set (fleet p) routes vehicle (type_at p 0) [] (omega arith) inside facts.reloads_as_allowed

-- no list has a reload where vehicles of no type may reload
or-first : (a b : Bool) → (a || b) ≡ false → a ≡ false
or-first true b h = cc
or-first false b h = refl

or-second : (a b : Bool) → (a || b) ≡ false → b ≡ false
or-second true b h = cc
or-second false b h = h

fails-at : {X : Type 0} (q : X → Bool) (xs : List X) (n : ℕ) (d : X) → list_any q xs ≡ false → q d ≡ false → q (get_or xs n d) ≡ false
fails-at q [] n d none fails = fails
fails-at q (x ∷ xs) zero d none fails = or-first (q x) (list_any q xs) none
fails-at q (x ∷ xs) (suc n) d none fails = fails-at q xs n d (or-second (q x) (list_any q xs) none) fails

not-more : (n : ℕ) → nat_lt 0 n ≡ false → n ≡ 0
not-more n h = grind (arith, nat_tests)

pub no-reloads : (p : Problem) (routes : Routes) (vehicle : ℕ) → is_lawful p routes ≡ true → vehicle < length routes → some_type_reloads p ≡ false → reloads_in (list_at routes vehicle) ≡ 0
no-reloads p routes vehicle lawful inside none =
    let t : VehicleType = type_at p (type_of p vehicle) in
    let visits : List Visit = list_at routes vehicle in
    let allowed = plan-allowed p routes vehicle lawful inside in
    let most = at-most (reloads_in visits) t.reloads (and-second (list_all (is_allowed t) visits) (nat_le (reloads_in visits) t.reloads) allowed) in
    let never : t.reloads ≡ 0 =
    ap (λ (x : VehicleType). x.reloads) (type_at-read p (type_of p vehicle))
    ∙ not-more (get_or p.types (type_of p vehicle) no_type).reloads (fails-at (λ (x : VehicleType). nat_lt 0 x.reloads) p.types (type_of p vehicle) no_type none refl) in
    omega arith
