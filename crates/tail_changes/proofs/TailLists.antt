-- The lists that an exchange of tails makes, by where the two lists are cut; what tidying leaves of them; and that the exchange is made
-- exactly where both vehicles may reload so.
use Rattle.std.proofs.Common.{◌≡◌, ◌≢◌, ℕ, zero, suc, ◌+◌, ◌-◌, ◌<◌, ◌≤◌, Bool, true, false, ◌&&◌, cond, List, [], ◌++◌, length, set, refl, sym, ◌∙◌, ap, ap₂, arith, subst, Option, Some, None, slice_get, slice_range}
use Rattle.std.proofs.lemmas.List.{append-nil}
use Rattle.std.proofs.lemmas.Option.{slice_get_within}
use Rattle.problem_data.specs.declared.problem.Problem.{Problem}
use Rattle.problem_data.specs.declared.visit.Visit.{Visit}
use Rattle.problem_data.specs.declared.visit.Visit.TheVariants.{Client, Reload}
use Rattle.problem_data.specs.Places.{type_at, type_of}
use Rattle.routing_model.specs.declared.weights.Weights.{Weights}
use Rattle.routing_model.specs.Lawful.{is_lawful, reloads_as_allowed}
use Rattle.routing_model.specs.Routes.{Routes, list_at}
use Rattle.routing_model.specs.Tidy.{is_tidy, tidied}
use Rattle.search_model.specs.declared.candidate.Candidate.{Candidate}
use Rattle.search_model.specs.declared.candidate.Target.TheVariants.{After, Empty, StartOf}
use Rattle.search_model.specs.Edits.{unused_vehicle}
use Rattle.search_model.specs.Exchange.{tails_swapped}
use Rattle.search_model.specs.Moves.{made, moved}
use Rattle.search_model.proofs.ClientPlaces.{StandsAt}
use Rattle.search_model.proofs.ExchangeMoves.{MovesTwo, all-at}
use Rattle.search_model.proofs.LawfulMoves.{plan-tidy}
use Rattle.search_model.proofs.ReloadMoves.{amount-if-allowed, lawful-if-allowed, moved-if-allowed, tails-reloads, tails-times}
use Rattle.search_model.proofs.RunMoves.{lawful-once}
use Rattle.search_model.proofs.TailMoves.{tails-after, tails-empty, tails-start, tidied-tail, tidied-tails}
use Rattle.gain_model.proofs.SameBases.{unused_empty}
use Rattle.trips.specs.Joints.{joint_of}
use Rattle.route_cache.proofs.Gaps.{joined-gap, left_by, right_by}
use Rattle.route_cache.proofs.Slices.{slice-all}
use Rattle.tail_changes.specs.inside.TailBegins.{past_reload, tail_begin}

-- a list's first visits, and what is behind a cut of another list
abbrev pub with_tail_of : Routes → ℕ → ℕ → ℕ → ℕ → List Visit
with_tail_of routes a i b j = slice_range (list_at routes a) 0 i ++ slice_range (list_at routes b) j (length (list_at routes b))

-- the plan in which the two lists have each other's tail
abbrev pub tails_set : Routes → ℕ → ℕ → ℕ → ℕ → Routes
tails_set routes a i b j = set (set routes a (with_tail_of routes a i b j)) b (with_tail_of routes b j a i)

-- whether two vehicles may reload as two lists do
abbrev pub both_allowed : Problem → ℕ → ℕ → List Visit → List Visit → Bool
both_allowed p a b xs ys = reloads_as_allowed (type_at p (type_of p a)) xs && reloads_as_allowed (type_at p (type_of p b)) ys

-- what is left of a tail that comes first
past-is : (left : ℕ) (o : Option Visit) → right_by (joint_of None o) left ≡ past_reload left o
past-is left None = refl
past-is left (Some (Client place)) = refl
past-is left (Some (Reload depot)) = refl

front-left : (visits : List Visit) (o : Option Visit) → slice_range visits 0 (left_by (joint_of None o) 0) ≡ []
front-left visits None = refl
front-left visits (Some (Client place)) = refl
front-left visits (Some (Reload depot)) = refl

pub first-tail : (visits : List Visit) (left : ℕ) → is_tidy visits ≡ true → left ≤ length visits →
    tidied (slice_range visits left (length visits)) ≡ slice_range visits (tail_begin visits left 0) (length visits)
first-tail visits left tidy inside =
    let o : Option Visit = slice_get visits left in
    tidied-tail visits left tidy inside
    ∙ joined-gap visits 0 left (omega arith) inside
    ∙ ap₂ (λ (xs : List Visit) (n : ℕ). xs ++ slice_range visits n (length visits)) (front-left visits o) (past-is left o)

-- where a tail begins
pub begin-low : (visits : List Visit) (left behind : ℕ) → left ≤ tail_begin visits left behind
begin-low visits left (suc behind) = omega arith
begin-low visits left zero = by (slice_get visits left)
  where
    by : (o : Option Visit) → left ≤ past_reload left o
    by None = omega arith
    by (Some (Client place)) = omega arith
    by (Some (Reload depot)) = omega arith

pub begin-high : (visits : List Visit) (left behind : ℕ) → left ≤ length visits → tail_begin visits left behind ≤ length visits
begin-high visits left (suc behind) inside = inside
begin-high visits left zero inside = by (slice_get visits left) refl
  where
    by : (o : Option Visit) → slice_get visits left ≡ o → past_reload left o ≤ length visits
    by None e = inside
    by (Some (Client place)) e = inside
    by (Some (Reload depot)) e = let within : left < length visits = slice_get_within visits left (Reload depot) e in omega arith

-- U stands before the cut of the first list
module _ (p : Problem) (w : Weights) (routes : Routes) (lawful : is_lawful p routes ≡ true) (a i u : ℕ) (some : 1 ≤ i) (at_u : StandsAt routes u a (i - 1)) where
  abbrev A : List Visit
  A = list_at routes a

  here : i - 1 + 1 ≡ i
  here = omega arith

  room : i ≤ length A
  room = let e : i - 1 < length A = slice_get_within A (i - 1) (Client u) at_u in omega arith

  tidy-at : (candidate : Candidate) (k : ℕ) → is_tidy (list_at routes k) ≡ true
  tidy-at candidate k = all-at routes k (plan-tidy p w routes candidate lawful)

  -- what the three targets make
  pub after-lists : (b j v : ℕ) → a ≢ b → 1 ≤ j → StandsAt routes v b (j - 1) → tails_swapped p routes u (After v) ≡ Some (tails_set routes a i b j)
  after-lists b j v apart some_v at_v =
      let there : j - 1 + 1 ≡ j = omega arith in
      tails-after p routes (lawful-once p routes lawful) a (i - 1) u at_u b (j - 1) v at_v apart
      ∙ ap₂ (λ (m n : ℕ). Some (tails_set routes a m b n)) here there

  pub start-lists : (b v : ℕ) → a ≢ b → StandsAt routes v b 0 → tails_swapped p routes u (StartOf v) ≡ Some (tails_set routes a i b 0)
  start-lists b v apart at_v =
      let B : List Visit = list_at routes b in
      let whole : B ≡ slice_range B 0 (length B) = sym (slice-all B (length B) (omega arith)) in
      tails-start p routes (lawful-once p routes lawful) a (i - 1) u at_u b 0 v at_v refl apart
      ∙ ap₂ (λ (m : ℕ) (zs : List Visit). Some (set (set routes a (slice_range A 0 m ++ zs)) b (slice_range A m (length A)))) here whole

  pub empty-lists : (b type : ℕ) → a ≢ b → unused_vehicle p routes type ≡ Some b → tails_swapped p routes u (Empty type) ≡ Some (tails_set routes a i b 0)
  empty-lists b type apart found =
      let none : list_at routes b ≡ [] = unused_empty p routes lawful type b found in
      let first : slice_range A 0 i ++ slice_range (list_at routes b) 0 (length (list_at routes b)) ≡ slice_range A 0 i =
      ap (λ (ys : List Visit). slice_range A 0 i ++ slice_range ys 0 (length ys)) none ∙ append-nil (slice_range A 0 i) in
      tails-empty p routes (lawful-once p routes lawful) a (i - 1) u at_u type b found apart
      ∙ ap (λ (m : ℕ). Some (set (set routes a (slice_range A 0 m)) b (slice_range A m (length A)))) here
      ∙ ap (λ (xs : List Visit). Some (set (set routes a xs) b (slice_range A i (length A)))) (sym first)

  module _ (candidate : Candidate) (b j : ℕ) (in_a : a < length routes) (in_b : b < length routes) (apart : a ≢ b) (inside : j ≤ length (list_at routes b)) where
    abbrev B : List Visit
    B = list_at routes b

    -- a client stands before the cut: the list is tidy
    first-tidied : tidied (with_tail_of routes a i b j) ≡ with_tail_of routes a i b j
    first-tidied =
        ap (λ (m : ℕ). tidied (with_tail_of routes a m b j)) (sym here)
        ∙ tidied-tails A B (i - 1) j u (tidy-at candidate a) (tidy-at candidate b) at_u inside
        ∙ ap (λ (m : ℕ). with_tail_of routes a m b j) here

    -- the move, where both vehicles may reload so
    module _ (ys : List Visit) (second : tidied (with_tail_of routes b j a i) ≡ ys) (makes : made p w routes candidate ≡ Some (tails_set routes a i b j)) where
      abbrev X : List Visit
      X = with_tail_of routes a i b j

      abbrev Y : List Visit
      Y = with_tail_of routes b j a i

      pub tails-none : both_allowed p a b (with_tail_of routes a i b j) ys ≡ false → moved p w routes candidate ≡ None
      tails-none refused =
          moved-if-allowed p w routes candidate lawful a b X Y in_a in_b apart makes (tails-times A B i j room inside) (tails-reloads A B i j room inside)
          ∙ ap₂ (λ (xs zs : List Visit). cond (both_allowed p a b xs zs) (Some (set (set routes a xs) b zs)) None) first-tidied second
          ∙ ap (λ (t : Bool). cond t (Some (set (set routes a X) b ys)) None) refused

      pub tails-moves : both_allowed p a b (with_tail_of routes a i b j) ys ≡ true → MovesTwo p w routes candidate a b (with_tail_of routes a i b j) ys
      tails-moves granted =
          subst (λ (xs : List Visit). MovesTwo p w routes candidate a b xs ys) first-tidied
          (subst (λ (zs : List Visit). MovesTwo p w routes candidate a b (tidied X) zs) second (record {
            makes = moved-if-allowed p w routes candidate lawful a b X Y in_a in_b apart makes (tails-times A B i j room inside) (tails-reloads A B i j room inside)
                ∙ ap (λ (t : Bool). cond t (Some (set (set routes a (tidied X)) b (tidied Y))) None) so;
            lawful = lawful-if-allowed p w routes candidate lawful a b X Y in_a in_b apart makes (tails-times A B i j room inside) (tails-reloads A B i j room inside) ∙ so;
            amount = amount-if-allowed p w routes candidate lawful a b X Y in_a in_b apart makes (tails-times A B i j room inside) (tails-reloads A B i j room inside);
          }))
        where
          so : both_allowed p a b (tidied X) (tidied Y) ≡ true
          so = ap₂ (both_allowed p a b) first-tidied second ∙ granted
