-- The plan that a gain makes: which lists stay, and that it is the plan before with the present lists of its vehicles.
use Rattle.std.proofs.Common.{◌≡◌, ◌∙◌, ◌⊎◌, inl, inr, ◌<◌, ℕ, List, length, Option, Some, None, set, refl, sym, ap, arith, subst}
use Rattle.std.specs.Prelude.{All, IfSome, option_map}
use Rattle.std.proofs.lemmas.Bool.{cases_eq}
use Rattle.std.proofs.lemmas.List.{length-set, set-set}
use Rattle.problem_data.specs.declared.visit.Visit.{Visit}
use Rattle.routing_model.specs.Routes.{Routes, list_at}
use Rattle.gain_model.proofs.ListsOfPlans.{list_at-set, list_at-set_other}
use Rattle.local_search.specs.inside.Kits.{with_present_lists}
use Rattle.gain_model.specs.Gains.{GainSide, GainState, IsSideWithin, IsWithin, made, side_visits, sides_with}

-- the vehicle of a side, if there is one
abbrev pub vehicle_of_side : Option GainSide → Option ℕ
vehicle_of_side None = None
vehicle_of_side (Some side) = Some side.vehicle

module _ (routes : Routes) (first : GainSide) where
  abbrev plan : Option GainSide → Routes
  plan None = set routes first.vehicle (side_visits routes first)
  plan (Some second) = set (set routes first.vehicle (side_visits routes first)) second.vehicle (side_visits routes second)

  plan_length : (second : Option GainSide) → length (plan second) ≡ length routes
  plan_length None = length-set routes first.vehicle (side_visits routes first)
  plan_length (Some second) = length-set (set routes first.vehicle (side_visits routes first)) second.vehicle (side_visits routes second) ∙ length-set routes first.vehicle (side_visits routes first)

  plan_elsewhere : (second : Option GainSide) (k : ℕ) → (k ≡ first.vehicle → ⊥) → (Some k ≡ vehicle_of_side second → ⊥) → list_at (plan second) k ≡ list_at routes k
  plan_elsewhere None k a b = list_at-set_other routes first.vehicle k (side_visits routes first) (λ e. a (sym e))
  plan_elsewhere (Some second) k a b =
      list_at-set_other (set routes first.vehicle (side_visits routes first)) second.vehicle k (side_visits routes second) (λ e. b (ap (λ z. Some z) (sym e)))
      ∙ list_at-set_other routes first.vehicle k (side_visits routes first) (λ e. a (sym e))

  plan_present : (second : Option GainSide) → first.vehicle < length routes → ((side : GainSide) → second ≡ Some side → side.vehicle < length routes) →
      with_present_lists (plan second) first.vehicle (vehicle_of_side second) routes ≡ plan second
  plan_present None l h = ap (λ (xs : List Visit). set routes first.vehicle xs) (list_at-set routes first.vehicle (side_visits routes first) l)
  plan_present (Some second) l h = by (cases_eq first.vehicle second.vehicle)
    where
      xs : List Visit
      xs = side_visits routes first

      there : second.vehicle < length (set routes first.vehicle (side_visits routes first))
      there = rw (length-set routes first.vehicle (side_visits routes first)) (h second refl)

      last : list_at (plan (Some second)) second.vehicle ≡ side_visits routes second
      last = list_at-set (set routes first.vehicle (side_visits routes first)) second.vehicle (side_visits routes second) there

      by : (first.vehicle ≡ second.vehicle) ⊎ (first.vehicle ≡ second.vehicle → ⊥) →
          set (set routes first.vehicle (list_at (plan (Some second)) first.vehicle)) second.vehicle (list_at (plan (Some second)) second.vehicle) ≡ plan (Some second)
      by (inl e) =
          ap (λ (ys : List Visit). set (set routes first.vehicle (list_at (plan (Some second)) first.vehicle)) second.vehicle ys) last
          ∙ same_place first.vehicle second.vehicle e (list_at (plan (Some second)) first.vehicle) (side_visits routes first) (side_visits routes second)
        where
          same_place : (i j : ℕ) → i ≡ j → (us vs ws : List Visit) → set (set routes i us) j ws ≡ set (set routes i vs) j ws
          same_place i j e us vs ws = subst (λ n. set (set routes i us) n ws ≡ set (set routes i vs) n ws) e (set-set routes i us ws ∙ sym (set-set routes i vs ws))
      by (inr n) =
          ap (λ (ys : List Visit). set (set routes first.vehicle (list_at (plan (Some second)) first.vehicle)) second.vehicle ys) last
          ∙ ap (λ (ys : List Visit). set (set routes first.vehicle ys) second.vehicle (side_visits routes second))
          (list_at-set_other (set routes first.vehicle (side_visits routes first)) second.vehicle first.vehicle (side_visits routes second) (λ e. n (sym e))
          ∙ list_at-set routes first.vehicle (side_visits routes first) l)

made_is : (gain : GainState) (routes : Routes) → made gain routes ≡ plan routes gain.first gain.second
made_is gain routes = by gain.second
  where
    by : (second : Option GainSide) → made (record { first = gain.first; second = second; amount = gain.amount }) routes ≡ plan routes gain.first second
    by None = refl
    by (Some side) = refl

pub made-length : (gain : GainState) (routes : Routes) → length (made gain routes) ≡ length routes
made-length gain routes = ap (λ (z : Routes). length z) (made_is gain routes) ∙ plan_length routes gain.first gain.second

pub made-elsewhere : (gain : GainState) (routes : Routes) (k : ℕ) → (k ≡ gain.first.vehicle → ⊥) → (Some k ≡ vehicle_of_side gain.second → ⊥) → list_at (made gain routes) k ≡ list_at routes k
made-elsewhere gain routes k a b = ap (λ (z : Routes). list_at z k) (made_is gain routes) ∙ plan_elsewhere routes gain.first gain.second k a b

-- each side's vehicle is there
pub first_there : (gain : GainState) (routes : Routes) → IsWithin gain routes → gain.first.vehicle < length routes
first_there gain routes w = by gain.second w
  where
    by : (second : Option GainSide) → All (IsSideWithin routes) (sides_with gain.first second) → gain.first.vehicle < length routes
    by None h = let s = h 0 gain.first (omega arith) in s.vehicle_there
    by (Some side) h = let s = h 0 gain.first (omega arith) in s.vehicle_there

pub second_there : (gain : GainState) (routes : Routes) → IsWithin gain routes → (side : GainSide) → gain.second ≡ Some side → side.vehicle < length routes
second_there gain routes w side e = by gain.second w e
  where
    by : (second : Option GainSide) → All (IsSideWithin routes) (sides_with gain.first second) → second ≡ Some side → side.vehicle < length routes
    by None h k = absurd (no k)
      where
        no : None ≡ Some side → ⊥
        no z = cc
    by (Some other) h k =
        let same : other ≡ side = cc in
        let s = h 1 other (omega arith) in
        subst (λ (z : GainSide). z.vehicle < length routes) same s.vehicle_there

-- the plan before, with the present lists of the gain's vehicles
pub made-present : (gain : GainState) (routes : Routes) → IsWithin gain routes →
    with_present_lists (made gain routes) gain.first.vehicle (vehicle_of_side gain.second) routes ≡ made gain routes
made-present gain routes w =
    subst (λ (z : Routes). with_present_lists z gain.first.vehicle (vehicle_of_side gain.second) routes ≡ z) (sym (made_is gain routes))
    (plan_present routes gain.first gain.second (first_there gain routes w) (second_there gain routes w))

-- vehicles of sides, as an accessor gives them
pub side_vehicle : (second : Option GainSide) → option_map (λ (side : GainSide). side.vehicle) second ≡ vehicle_of_side second
side_vehicle None = refl
side_vehicle (Some side) = refl

-- the vehicles of a gain, as an accessor gives them, are in range
pub first_in : (gain : GainState) (routes : Routes) (n v : ℕ) → IsWithin gain routes → length routes ≡ n → v ≡ gain.first.vehicle → v < n
first_in gain routes n v w l e = let h = first_there gain routes w in rw (e, ← l) h

pub second_in : (gain : GainState) (routes : Routes) (n : ℕ) (o : Option ℕ) → IsWithin gain routes → length routes ≡ n → o ≡ option_map (λ (side : GainSide). side.vehicle) gain.second → IfSome o (λ v. v < n)
second_in gain routes n o w l e = subst (λ (z : Option ℕ). IfSome z (λ v. v < n)) (sym e) (by gain.second (λ side k. second_there gain routes w side k))
  where
    by : (second : Option GainSide) → ((side : GainSide) → second ≡ Some side → side.vehicle < length routes) → IfSome (option_map (λ (side : GainSide). side.vehicle) second) (λ v. v < n)
    by None h = tt
    by (Some side) h = rw (← l) (h side refl)
