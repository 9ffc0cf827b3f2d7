-- What an exchange of tails makes, by the cuts of the two lists.
use Rattle.std.proofs.Common.{◌≡◌, ◌≢◌, ℕ, zero, suc, ◌+◌, ◌-◌, ◌<◌, ◌≤◌, Bool, true, false, cond, List, [], ◌++◌, length, set, refl, sym, ◌∙◌, ap, ap₂, arith, subst, None, Some, pos, ◌-ℤ◌, ◌≤ℤ◌, slice_range}
use Rattle.std.specs.Prelude.{option_and_then}
use Rattle.std.proofs.lemmas.Int.{ints}
use Rattle.std.proofs.lemmas.List.{append-nil, set-get_or}
use Rattle.std.proofs.lemmas.Option.{slice_get_within}
use Rattle.problem_data.specs.declared.visit.Visit.{Visit}
use Rattle.problem_data.specs.declared.visit.Visit.TheVariants.{Client}
use Rattle.problem_data.specs.Places.{vehicle_count}
use Rattle.routing_model.specs.Cost.{solution_cost}
use Rattle.routing_model.specs.Lawful.{is_lawful}
use Rattle.routing_model.specs.Routes.{Routes, list_at}
use Rattle.routing_model.specs.Tidy.{is_tidy, tidied, tidied_routes}
use Rattle.search_model.specs.declared.candidate.Candidate.{Candidate}
use Rattle.search_model.specs.declared.candidate.Target.{Target}
use Rattle.search_model.specs.declared.candidate.Target.TheVariants.{After, Empty, StartOf}
use Rattle.search_model.specs.Moves.{if_lawful, made, moved}
use Rattle.search_model.proofs.ClientPlaces.{StandsAt, list-read}
use Rattle.search_model.proofs.ExchangeMoves.{MovesTwo, all-at}
use Rattle.search_model.proofs.LawfulMoves.{plan-tidy, tidy-stays}
use Rattle.search_model.proofs.TailMoves.{tidied-tails}
use Rattle.gain_model.proofs.OperatorAnswers.{answer-dear, answer-none}
use Rattle.route_cache.proofs.Slices.{slice-all, slice-none}
use Rattle.move_core.specs.Searches.{IsSound, SearchState}
use Rattle.list_changes.specs.declared.aim.Aim.{Aim}
use Rattle.list_changes.specs.Aims.{IsAim}
use Rattle.list_changes.specs.Moves.{IsAnswerTo}
use Rattle.tail_changes.specs.Tails.{tail_candidate}
use Rattle.tail_changes.specs.inside.TailBegins.{tail_begin}
use Rattle.tail_changes.proofs.TailLists.{after-lists, both_allowed, empty-lists, first-tail, start-lists, tails-moves, tails-none, tails_set, with_tail_of}

-- the place that a target names is in its list
pub aim-inside : (s : SearchState) (target : Target) (aim : Aim) → IsAim s target aim → aim.place ≤ length (list_at s.routes aim.vehicle)
aim-inside s (After v) aim at =
    let some = at.names.some in
    let within = slice_get_within (list_at s.routes aim.vehicle) (aim.place - 1) (Client v) at.names.stands in
    omega (arith, some, within)
aim-inside s (StartOf v) aim at = let front = at.names.front in omega (arith, front)
aim-inside s (Empty type) aim at = let front = at.names.front in omega (arith, front)

begin-behind : (visits : List Visit) (left behind : ℕ) → 1 ≤ behind → tail_begin visits left behind ≡ left
begin-behind visits left zero some = absurd (omega (arith, some))
begin-behind visits left (suc behind) some = refl

-- U stands directly before the cut of the first list, and the target is at the cut of the second
module _ (s : SearchState) (sound : IsSound s) (u a i : ℕ) (some : 1 ≤ i) (at_u : StandsAt s.routes u a (i - 1)) where
  abbrev A : List Visit
  A = list_at s.routes a

  room : i ≤ length A
  room = let e : i - 1 < length A = slice_get_within A (i - 1) (Client u) at_u in omega arith

  tidy-at : (candidate : Candidate) (k : ℕ) → is_tidy (list_at s.routes k) ≡ true
  tidy-at candidate k = all-at s.routes k (plan-tidy s.problem s.weights s.routes candidate sound.lawful)

  -- what is made, before tidying
  tails-made : (target : Target) (aim : Aim) → IsAim s target aim → a ≢ aim.vehicle → made s.problem s.weights s.routes (tail_candidate u target) ≡ Some (tails_set s.routes a i aim.vehicle aim.place)
  tails-made (After v) aim at apart = after-lists s.problem s.weights s.routes sound.lawful a i u some at_u aim.vehicle aim.place v apart at.names.some at.names.stands
  tails-made (StartOf v) aim at apart =
      start-lists s.problem s.weights s.routes sound.lawful a i u some at_u aim.vehicle v apart at.names.stands ∙ ap (λ (j : ℕ). Some (tails_set s.routes a i aim.vehicle j)) (sym at.names.front)
  tails-made (Empty type) aim at apart =
      empty-lists s.problem s.weights s.routes sound.lawful a i u some at_u aim.vehicle type apart at.names.found ∙ ap (λ (j : ℕ). Some (tails_set s.routes a i aim.vehicle j)) (sym at.names.front)

  -- the second list, tidied
  second_list : Aim → List Visit
  second_list aim = slice_range (list_at s.routes aim.vehicle) 0 aim.place ++ slice_range A (tail_begin A i aim.place) (length A)

  second-front : (candidate : Candidate) (b j : ℕ) → j ≡ 0 → tidied (with_tail_of s.routes b j a i) ≡ slice_range (list_at s.routes b) 0 j ++ slice_range A (tail_begin A i j) (length A)
  second-front candidate b j front =
      subst (λ (n : ℕ). tidied (with_tail_of s.routes b n a i) ≡ slice_range (list_at s.routes b) 0 n ++ slice_range A (tail_begin A i n) (length A)) (sym front)
      (first-tail A i (tidy-at candidate a) room)

  second-tidied : (candidate : Candidate) (target : Target) (aim : Aim) → IsAim s target aim →
      tidied (with_tail_of s.routes aim.vehicle aim.place a i) ≡ slice_range (list_at s.routes aim.vehicle) 0 aim.place ++ slice_range (list_at s.routes a) (tail_begin (list_at s.routes a) i aim.place) (length (list_at s.routes a))
  second-tidied candidate (After v) aim at =
      let B : List Visit = list_at s.routes aim.vehicle in
      let low : 1 ≤ aim.place = at.names.some in
      let there : aim.place - 1 + 1 ≡ aim.place = omega arith in
      ap (λ (n : ℕ). tidied (with_tail_of s.routes aim.vehicle n a i)) (sym there)
      ∙ tidied-tails B A (aim.place - 1) i v (tidy-at candidate aim.vehicle) (tidy-at candidate a) at.names.stands room
      ∙ ap₂ (λ (n m : ℕ). slice_range B 0 n ++ slice_range A m (length A)) there (sym (begin-behind A i aim.place low))
  second-tidied candidate (StartOf v) aim at = second-front candidate aim.vehicle aim.place at.names.front
  second-tidied candidate (Empty type) aim at = second-front candidate aim.vehicle aim.place at.names.front

  module _ (target : Target) (aim : Aim) (at : IsAim s target aim) (apart : a ≢ aim.vehicle) (in_a : a < vehicle_count s.problem) where
    abbrev B : List Visit
    B = list_at s.routes aim.vehicle

    there_a : a < length s.routes
    there_a = let each = sound.one_list_each in omega arith

    there_b : aim.vehicle < length s.routes
    there_b = let each = sound.one_list_each in let inside = at.in_range in omega arith

    -- nothing, where a vehicle may not reload so
    pub refused-exchange : both_allowed s.problem a aim.vehicle (with_tail_of s.routes a i aim.vehicle aim.place)
        (slice_range (list_at s.routes aim.vehicle) 0 aim.place ++ slice_range (list_at s.routes a) (tail_begin (list_at s.routes a) i aim.place) (length (list_at s.routes a))) ≡ false → IsAnswerTo s (tail_candidate u target) None
    refused-exchange refused =
        answer-none s.problem s.weights s.routes (tail_candidate u target)
        (tails-none s.problem s.weights s.routes sound.lawful a i u some at_u (tail_candidate u target) aim.vehicle aim.place there_a there_b apart (aim-inside s target aim at)
        (slice_range B 0 aim.place ++ slice_range A (tail_begin A i aim.place) (length A)) (second-tidied (tail_candidate u target) target aim at) (tails-made target aim at apart) refused)

    -- the exchange, where both may
    pub granted-exchange : both_allowed s.problem a aim.vehicle (with_tail_of s.routes a i aim.vehicle aim.place)
        (slice_range (list_at s.routes aim.vehicle) 0 aim.place ++ slice_range (list_at s.routes a) (tail_begin (list_at s.routes a) i aim.place) (length (list_at s.routes a))) ≡ true →
        MovesTwo s.problem s.weights s.routes (tail_candidate u target) a aim.vehicle (with_tail_of s.routes a i aim.vehicle aim.place)
        (slice_range (list_at s.routes aim.vehicle) 0 aim.place ++ slice_range (list_at s.routes a) (tail_begin (list_at s.routes a) i aim.place) (length (list_at s.routes a)))
    granted-exchange granted =
        tails-moves s.problem s.weights s.routes sound.lawful a i u some at_u (tail_candidate u target) aim.vehicle aim.place there_a there_b apart (aim-inside s target aim at)
        (slice_range B 0 aim.place ++ slice_range A (tail_begin A i aim.place) (length A)) (second-tidied (tail_candidate u target) target aim at) (tails-made target aim at apart) granted

    -- nothing is behind both cuts: the plan stays as it is
    pub bare-exchange : i ≡ length (list_at s.routes a) → aim.place ≡ length (list_at s.routes aim.vehicle) → IsAnswerTo s (tail_candidate u target) None
    bare-exchange last last_b =
        answer-dear s.problem s.weights s.routes (tail_candidate u target) s.routes stays (no-fall (solution_cost s.problem s.weights s.routes))
      where
        no-fall : (n : ℕ) → pos 0 ≤ℤ (pos n -ℤ pos n)
        no-fall n = omega (arith, ints)

        whole : (X Y : List Visit) (m n : ℕ) → m ≡ length X → n ≡ length Y → slice_range X 0 m ++ slice_range Y n (length Y) ≡ X
        whole X Y m n all none =
            ap₂ (λ (x y : ℕ). slice_range X 0 x ++ slice_range Y y (length Y)) all none
            ∙ ap₂ (λ (xs ys : List Visit). xs ++ ys) (slice-all X (length X) (omega arith)) (slice-none Y (length Y))
            ∙ append-nil X

        set-own : (v : ℕ) → set s.routes v (list_at s.routes v) ≡ s.routes
        set-own v = ap (set s.routes v) (list-read s.routes v) ∙ set-get_or s.routes v []

        same : tails_set s.routes a i aim.vehicle aim.place ≡ s.routes
        same =
            ap₂ (λ (xs ys : List Visit). set (set s.routes a xs) aim.vehicle ys) (whole A B i aim.place last last_b) (whole B A aim.place i last_b last)
            ∙ ap (λ (rs : Routes). set rs aim.vehicle B) (set-own a)
            ∙ set-own aim.vehicle

        tidy : tidied_routes s.routes ≡ s.routes
        tidy = tidy-stays s.routes (plan-tidy s.problem s.weights s.routes (tail_candidate u target) sound.lawful)

        stays : moved s.problem s.weights s.routes (tail_candidate u target) ≡ Some s.routes
        stays =
            ap (option_and_then (if_lawful s.problem)) (tails-made target aim at apart ∙ ap (λ (rs : Routes). Some rs) same)
            ∙ ap (λ (rs : Routes). cond (is_lawful s.problem rs) (Some rs) None) tidy
            ∙ ap (λ (t : Bool). cond t (Some s.routes) None) sound.lawful
