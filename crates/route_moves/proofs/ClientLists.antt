-- Lists of clients alone: they are tidy, they have no reloads, and what a client that goes and one that comes change of them.
use Rattle.std.proofs.Common.{◌≡◌, ℕ, zero, suc, ◌+◌, ◌≤◌, Bool, true, false, ◌&&◌, cond, not, List, [], ◌∷◌, length, refl, sym, ◌∙◌, ap, arith}
use Rattle.std.specs.Prelude.{insert, nat_eq}
use Rattle.std.specs.List.{list_all}
use Rattle.std.proofs.lemmas.Bool.Decides.{nat_tests}
use Rattle.std.proofs.lemmas.List.Sums.{sum_by-cons, sum_by-insert}
use Rattle.problem_data.specs.declared.visit.Visit.{Visit}
use Rattle.problem_data.specs.declared.visit.Visit.TheVariants.{Client, Reload}
use Rattle.routing_model.specs.Load.{first_trip}
use Rattle.routing_model.specs.Routes.{is_client, is_used, is_visit_of}
use Rattle.routing_model.specs.Tidy.{tidied, tidied_behind}
use Rattle.routing_model.proofs.LawfulAgain.{reloads-none, reloads_that}
use Rattle.search_model.specs.Edits.{visits_of}
use Rattle.search_model.specs.RouteMoves.{is_one_trip}
use Rattle.search_model.proofs.ClientPlaces.{times_in}
use Rattle.gain_model.proofs.Ways.{visits_of-insert}
use Rattle.route_cache.specs.Marks.{reloads_in}

-- the visits of the first trip, where all visits are clients
pub first-trip-whole : (visits : List Visit) → list_all is_client visits ≡ true → visits_of (first_trip visits) ≡ visits
first-trip-whole [] h = refl
first-trip-whole (Client place ∷ visits) h = ap (λ (xs : List Visit). Client place ∷ xs) (first-trip-whole visits h)
first-trip-whole (Reload depot ∷ visits) h = cc

pub clients-all : (us : List ℕ) → list_all is_client (visits_of us) ≡ true
clients-all [] = refl
clients-all (u ∷ us) = clients-all us

-- visits without reloads
no-reloads : (visits : List Visit) → reloads_in visits ≡ 0 → list_all is_client visits ≡ true
no-reloads [] h = refl
no-reloads (Client place ∷ visits) h = no-reloads visits (let sum = sum_by-cons (λ (v : Visit). cond (not (is_client v)) 1 0) (Client place) visits in omega (arith, sum, h))
no-reloads (Reload depot ∷ visits) h = absurd (let sum = sum_by-cons (λ (v : Visit). cond (not (is_client v)) 1 0) (Reload depot) visits in omega (arith, sum, h))

some-reload : (visits : List Visit) → 1 ≤ reloads_in visits → list_all is_client visits ≡ false
some-reload [] h = absurd (omega (arith, h))
some-reload (Client place ∷ visits) h = some-reload visits (let sum = sum_by-cons (λ (v : Visit). cond (not (is_client v)) 1 0) (Client place) visits in omega (arith, sum, h))
some-reload (Reload depot ∷ visits) h = refl

and-no : (b : Bool) → (b && false) ≡ false
and-no true = refl
and-no false = refl

-- a list with visits and no reload is one trip
pub is-one-trip : (visits : List Visit) → 1 ≤ length visits → reloads_in visits ≡ 0 → is_one_trip visits ≡ true
is-one-trip [] h k = absurd (omega (arith, h))
is-one-trip (Client place ∷ visits) h k = no-reloads (Client place ∷ visits) k
is-one-trip (Reload depot ∷ visits) h k = absurd (let sum = sum_by-cons (λ (v : Visit). cond (not (is_client v)) 1 0) (Reload depot) visits in omega (arith, sum, k))

pub empty-no-trip : (visits : List Visit) → length visits ≡ 0 → is_one_trip visits ≡ false
empty-no-trip [] h = refl
empty-no-trip (x ∷ visits) h = absurd (omega (arith, h))

pub reload-no-trip : (visits : List Visit) → 1 ≤ reloads_in visits → is_one_trip visits ≡ false
reload-no-trip visits h = ap (λ (b : Bool). is_used visits && b) (some-reload visits h) ∙ and-no (is_used visits)

-- a list with visits is one trip where it has no reload
pub trip-test : (visits : List Visit) → 1 ≤ length visits → nat_eq (reloads_in visits) 0 ≡ is_one_trip visits
trip-test visits some = by (reloads_in visits) refl
  where
    at-zero : (n : ℕ) → n ≡ 0 → nat_eq n 0 ≡ true
    at-zero n e = grind (arith, nat_tests)

    not-zero : (n : ℕ) → 1 ≤ n → nat_eq n 0 ≡ false
    not-zero n h = grind (arith, nat_tests)

    by : (n : ℕ) → reloads_in visits ≡ n → nat_eq (reloads_in visits) 0 ≡ is_one_trip visits
    by zero e = at-zero (reloads_in visits) e ∙ sym (is-one-trip visits some e)
    by (suc n) e = not-zero (reloads_in visits) (omega (arith, e)) ∙ sym (reload-no-trip visits (omega (arith, e)))

pub one-trip-clients : (visits : List Visit) → is_one_trip visits ≡ true → list_all is_client visits ≡ true
one-trip-clients visits h = second (is_used visits) (list_all is_client visits) h
  where
    second : (a b : Bool) → (a && b) ≡ true → b ≡ true
    second true b h = h
    second false b h = cc

-- they are tidy
tidy-behind : (behind : Bool) (us : List ℕ) → tidied_behind behind (visits_of us) ≡ visits_of us
tidy-behind behind [] = refl
tidy-behind behind (u ∷ us) = ap (λ (xs : List Visit). Client u ∷ xs) (tidy-behind true us)

pub clients-tidy : (us : List ℕ) → tidied (visits_of us) ≡ visits_of us
clients-tidy us = tidy-behind false us

-- they have no reload
pub clients-reloads : (q : Visit → Bool) (us : List ℕ) → reloads_that q (visits_of us) ≡ 0
clients-reloads q us = reloads-none q (visits_of us) (clients-all us)

-- how often a client is visited with another one put in
pub times-put : (c : ℕ) (us : List ℕ) (place u : ℕ) → times_in c (visits_of (insert us place u)) ≡ times_in c (visits_of us) + cond (is_visit_of c (Client u)) 1 0
times-put c us place u =
    ap (times_in c) (sym (visits_of-insert us place u)) ∙ sum_by-insert (λ (v : Visit). cond (is_visit_of c v) 1 0) (visits_of us) place (Client u)
