-- What new lists with a reload at one depot tell of the plan with it.
use Rattle.std.proofs.Common.{◌≡◌, ◌≢◌, ℕ, ◌+◌, ◌-◌, ◌≤◌, inl, inr, Bool, true, false, cond, List, [], ◌∷◌, set, refl, sym, ◌∙◌, ap, ap₂, subst, arith, Option, None, Some, length-set}
use Rattle.std.specs.Prelude.{◌&&◌, nat_eq, nat_le}
use Rattle.std.proofs.lemmas.Bool.Decides.{nat_tests}
use Rattle.std.proofs.lemmas.List.{get_or-set_same}
use Rattle.std.proofs.lemmas.List.Sums.{sum_by-cons}
use Rattle.problem_data.specs.declared.visit.Visit.{Visit}
use Rattle.problem_data.specs.declared.visit.Visit.TheVariants.{Client, Reload}
use Rattle.problem_data.specs.Places.{is_depot_place}
use Rattle.routing_model.specs.Lawful.{is_allowed, is_lawful}
use Rattle.routing_model.specs.Listed.{type_of_vehicle}
use Rattle.routing_model.specs.Routes.{Routes, is_visit_of, list_at}
use Rattle.search_model.proofs.ClientPlaces.{itself, list-read, times_in}
use Rattle.gain_model.specs.Gains.{GainState}
use Rattle.route_cache.specs.Marks.{reloads_in}
use Rattle.move_core.specs.Searches.{IsSound, SearchState}
use Rattle.new_lists.specs.declared.new_list.NewLists.{NewLists}
use Rattle.new_lists.specs.declared.new_list.NewLists.TheVariants.{One, Two}
use Rattle.new_lists.specs.Improvements.{IsGainTo, IsImprovement}
use Rattle.new_lists.specs.NewLists.{AreNewLists, list_of, plan_of, vehicles_in}
use Rattle.new_lists.proofs.MadeLists.{listed-first, listed-one, listed-second}
use Rattle.reload_puts.specs.declared.beside.Beside.{Beside}
use Rattle.reload_puts.specs.declared.beside.Beside.TheVariants.{After, Before}
use Rattle.reload_puts.specs.declared.seats.Seats.{Seats}
use Rattle.reload_puts.specs.Puts.{put_candidate, put_plan, put_visits}
use Rattle.reload_puts.specs.PutLists.{ArePut, HaveParts, neighbour_list}
use Rattle.reload_puts.specs.Seats.{AreSeats}
use Rattle.reload_puts.proofs.PutPlans.{ArePutVisits, put-lawful}
use Rattle.depot_moves.specs.inside.Gains.{IsTried, plan_cost}

-- a client's visit counts for itself alone
once-itself : (u : ℕ) → times_in u (Client u ∷ []) ≡ 1
once-itself u = sum_by-cons (λ visit. cond (is_visit_of u visit) 1 0) (Client u) [] ∙ ap (λ (b : Bool). cond b 1 0 + 0) (itself u)

never-other : (c u : ℕ) → c ≢ u → times_in c (Client u ∷ []) ≡ 0
never-other c u other = sum_by-cons (λ visit. cond (is_visit_of c visit) 1 0) (Client u) [] ∙ ap (λ (b : Bool). cond b 1 0 + 0) (differs (nat_eq u c) refl)
  where
    differs : (b : Bool) → nat_eq u c ≡ b → nat_eq u c ≡ false
    differs true e = absurd (other (let same : u ≡ c = grind (arith, nat_tests) in sym same))
    differs false e = e

-- a reload beside it changes neither
reload-before : (c u depot : ℕ) → times_in c (Reload depot ∷ Client u ∷ []) ≡ times_in c (Client u ∷ [])
reload-before c u depot = let sum = sum_by-cons (λ visit. cond (is_visit_of c visit) 1 0) (Reload depot) (Client u ∷ []) in omega (arith, sum)

reload-after : (c u depot : ℕ) → times_in c (Client u ∷ Reload depot ∷ []) ≡ times_in c (Client u ∷ [])
reload-after c u depot =
    let both = sum_by-cons (λ visit. cond (is_visit_of c visit) 1 0) (Client u) (Reload depot ∷ []) in
    let one = sum_by-cons (λ visit. cond (is_visit_of c visit) 1 0) (Client u) [] in
    let last = sum_by-cons (λ visit. cond (is_visit_of c visit) 1 0) (Reload depot) [] in
    omega (arith, both, one, last)

both : (a b : Bool) → a ≡ true → b ≡ true → (a && (b && true)) ≡ true
both a b e f = ap₂ (λ (x y : Bool). x && (y && true)) e f

-- the new visits are the client and a reload
put-visits : (beside : Beside) (u depot : ℕ) → ArePutVisits u depot (put_visits beside u depot)
put-visits Before u depot = record {
  once = reload-before u u depot ∙ once-itself u;
  no_other = λ c other. reload-before c u depot ∙ never-other c u other;
  pass = λ q of_u of_depot. both (q (Reload depot)) (q (Client u)) of_depot of_u;
}
put-visits After u depot = record {
  once = reload-after u u depot ∙ once-itself u;
  no_other = λ c other. reload-after c u depot ∙ never-other c u other;
  pass = λ q of_u of_depot. both (q (Client u)) (q (Reload depot)) of_u of_depot;
}

module _ (s : SearchState) (sound : IsSound s) where
  -- the new list in the plan
  there : (lists : NewLists) → HaveParts s lists → list_at (plan_of s.routes lists) (neighbour_list lists).vehicle ≡ list_of s.routes (neighbour_list lists)
  there (One list) has =
      let each = sound.one_list_each in
      let in_range = has.in_range in
      list-read (set s.routes list.vehicle (list_of s.routes list)) list.vehicle ∙ get_or-set_same s.routes list.vehicle (list_of s.routes list) [] (omega arith)
  there (Two one two) has =
      let each = sound.one_list_each in
      let in_range = has.second.in_range in
      let long = length-set s.routes one.vehicle (list_of s.routes one) in
      list-read (set (set s.routes one.vehicle (list_of s.routes one)) two.vehicle (list_of s.routes two)) two.vehicle
      ∙ get_or-set_same (set s.routes one.vehicle (list_of s.routes one)) two.vehicle (list_of s.routes two) [] (omega arith)

  -- of a lawful plan, the vehicles can have them
  pub lawful-lists : (lists : NewLists) → HaveParts s lists → is_lawful s.problem (plan_of s.routes lists) ≡ true → AreNewLists s lists
  lawful-lists (One list) has lawful = record {
    in_range = has.in_range;
    left = has.left;
    right = has.right;
    one = has.one;
    two = has.two;
    three = has.three;
    listed = listed-one s sound list.vehicle (list_of s.routes list) has.in_range lawful;
  }
  lawful-lists (Two one two) has lawful = record {
    apart = has.apart;
    first = record {
      in_range = has.first.in_range;
      left = has.first.left;
      right = has.first.right;
      one = has.first.one;
      two = has.first.two;
      three = has.first.three;
      listed = listed-first s sound one.vehicle two.vehicle (list_of s.routes one) (list_of s.routes two) has.first.in_range has.apart lawful;
    };
    second = record {
      in_range = has.second.in_range;
      left = has.second.left;
      right = has.second.right;
      one = has.second.one;
      two = has.second.two;
      three = has.second.three;
      listed = listed-second s sound one.vehicle two.vehicle (list_of s.routes one) (list_of s.routes two) has.second.in_range lawful;
    };
  }

  module _ (beside : Beside) (seats : Seats) (are : AreSeats s seats) (depot : ℕ) (of_depot : is_depot_place s.problem depot ≡ true)
      (allowed : is_allowed (type_of_vehicle s.problem seats.other) (Reload depot) ≡ true) (lists : NewLists) (put : ArePut s beside seats depot lists) where
    -- it is lawful where the reloads are few enough
    pub few-lawful : is_lawful s.problem (plan_of s.routes lists) ≡ nat_le (reloads_in (list_of s.routes (neighbour_list lists))) (type_of_vehicle s.problem (neighbour_list lists).vehicle).reloads
    few-lawful =
        ap (is_lawful s.problem) put.makes
        ∙ put-lawful seats.client seats.neighbour are.differ depot (put_visits beside seats.client depot) (put-visits beside seats.client depot) s.problem s.routes sound.lawful
        seats.vehicle seats.position are.at_client seats.other (seats.behind - 1) are.at_neighbour of_depot allowed
        ∙ ap (λ (rs : Routes). nat_le (reloads_in (list_at rs seats.other)) (type_of_vehicle s.problem seats.other).reloads) (sym put.makes)
        ∙ ap (λ (v : ℕ). nat_le (reloads_in (list_at (plan_of s.routes lists) v)) (type_of_vehicle s.problem v).reloads) (sym put.at)
        ∙ ap (λ (xs : List Visit). nat_le (reloads_in xs) (type_of_vehicle s.problem (neighbour_list lists).vehicle).reloads) (there lists put.parts)

    -- there are too many reloads
    pub many-tried : is_lawful s.problem (plan_of s.routes lists) ≡ false → IsTried s (put_candidate beside seats.client seats.neighbour) (put_plan s beside seats.client seats.neighbour depot) None
    many-tried unlawful = inl (ap (is_lawful s.problem) (sym put.makes) ∙ unlawful)

    -- and few enough
    pub few-tried : is_lawful s.problem (plan_of s.routes lists) ≡ true → (found : Option GainState) → IsImprovement s lists found →
        IsTried s (put_candidate beside seats.client seats.neighbour) (put_plan s beside seats.client seats.neighbour depot) found
    few-tried lawful None dear = inr (subst (λ (rs : Routes). plan_cost s s.routes ≤ plan_cost s rs) put.makes dear)
    few-tried lawful (Some gain) gains = record {
      lawful = ap (is_lawful s.problem) (sym put.makes) ∙ lawful;
      vehicles = vehicles_in lists;
      own = put.own;
      gains = subst (λ (rs : Routes). IsGainTo s rs (vehicles_in lists) gain) put.makes gains;
    }
