-- The plan that a gain makes, by the new routes of its vehicles.
use Rattle.std.proofs.Common.{◌≡◌, ◌≢◌, ℕ, ◌+◌, ◌<◌, ◌≤◌, List, [], ◌∷◌, length, set, refl, sym, ◌∙◌, ap, arith, subst, All, Option, Some, None, IfSome, get_or-set_same, get_or-set_other}
use Rattle.std.specs.Prelude.{flat_map, fold, option_map, sum_by, unwrap_or}
use Rattle.std.proofs.lemmas.List.Elements.{All-head, All-nil, All-tail}
use Rattle.std.proofs.Math.ListN.{length-set}
use Rattle.problem_data.specs.declared.problem.Problem.{Problem}
use Rattle.problem_data.specs.declared.visit.Visit.{Visit}
use Rattle.problem_data.specs.Reads.{RoseAtMost}
use Rattle.routing_model.specs.Listed.{IsListed}
use Rattle.routing_model.specs.Routes.{Routes}
use Rattle.gain_model.specs.Gains.{AreApart, GainSide, GainState, IsPartWithin, IsSideWithin, IsWithin, made, part_visits, side_visits, sides_with, with_side}
use Rattle.gain_model.specs.RouteReads.{apply_reads, new_reads, set_reads}
use Rattle.gain_model.specs.declared.part.Part.{Part}
use Rattle.route_cache.specs.Routes.{RouteState}
use Rattle.move_core.specs.inside.Applying.{AreMadeRoutes, second_reads, side_route}
use Rattle.plan_tables.specs.Routes.{vehicle_route}

-- the lists that a gain's sides make
abbrev pub made_with : Routes → GainSide → Option GainSide → Routes
made_with routes first None = set routes first.vehicle (side_visits routes first)
made_with routes first (Some second) = set (set routes first.vehicle (side_visits routes first)) second.vehicle (side_visits routes second)

pub made-is : (routes : Routes) (gain : GainState) → made gain routes ≡ made_with routes gain.first gain.second
made-is routes gain = by gain.first gain.second
  where
    by : (first : GainSide) (second : Option GainSide) → fold (with_side routes) routes (sides_with first second) ≡ made_with routes first second
    by first None = refl
    by first (Some second) = refl

-- the sides are there
pub first-within : (routes : Routes) (gain : GainState) → IsWithin gain routes → IsSideWithin routes gain.first
first-within routes gain within = by gain.first gain.second within
  where
    by : (first : GainSide) (second : Option GainSide) → All (IsSideWithin routes) (sides_with first second) → IsSideWithin routes first
    by first None w = All-head (IsSideWithin routes) first [] w
    by first (Some second) w = All-head (IsSideWithin routes) first (second ∷ []) w

pub second-within : (routes : Routes) (gain : GainState) → IsWithin gain routes → IfSome gain.second (IsSideWithin routes)
second-within routes gain within = by gain.first gain.second within
  where
    by : (first : GainSide) (second : Option GainSide) → All (IsSideWithin routes) (sides_with first second) → IfSome second (IsSideWithin routes)
    by first None w = tt
    by first (Some second) w = All-head (IsSideWithin routes) second [] (All-tail (IsSideWithin routes) first (second ∷ []) w)

-- a list of each vehicle's that all can have is one in its place
set_listed : (p : Problem) (routes : Routes) (v : ℕ) (visits : List Visit) → v < length routes → All (IsListed p) (set routes v visits) → IsListed p visits
set_listed p routes v visits there listed =
    subst (IsListed p) (get_or-set_same routes v visits [] there) (listed v [] (omega (arith, length-set routes v visits, there)))

-- what the second side's parts are, and its vehicle
abbrev pub second_parts : Option GainSide → List Part
second_parts second = unwrap_or (option_map (λ (side : GainSide). side.parts) second) []

abbrev pub vehicle_in : Option GainSide → Option ℕ
vehicle_in second = option_map (λ (side : GainSide). side.vehicle) second

abbrev pub parts_list : Routes → List Part → List Visit
parts_list routes parts = flat_map (part_visits routes) parts

-- each new list can be its vehicle's
pub first-listed : (p : Problem) (routes : Routes) (gain : GainState) → IsWithin gain routes → AreApart gain → All (IsListed p) (made gain routes) → IsListed p (side_visits routes gain.first)
first-listed p routes gain within apart listed =
    by gain.first gain.second (first-within routes gain within).vehicle_there apart (subst (All (IsListed p)) (made-is routes gain) listed)
  where
    by : (first : GainSide) (second : Option GainSide) → first.vehicle < length routes → IfSome second (λ side. side.vehicle ≢ first.vehicle) → All (IsListed p) (made_with routes first second) → IsListed p (side_visits routes first)
    by first None there a l = set_listed p routes first.vehicle (side_visits routes first) there l
    by first (Some second) there a l =
        let one : Routes = set routes first.vehicle (side_visits routes first) in
        let far : first.vehicle < length (set one second.vehicle (side_visits routes second)) =
        omega (arith, length-set one second.vehicle (side_visits routes second), length-set routes first.vehicle (side_visits routes first), there) in
        subst (IsListed p)
        (get_or-set_other one second.vehicle first.vehicle (side_visits routes second) [] (λ e. a (sym e)) ∙ get_or-set_same routes first.vehicle (side_visits routes first) [] there)
        (l first.vehicle [] far)

pub second-listed : (p : Problem) (routes : Routes) (gain : GainState) → IsWithin gain routes → All (IsListed p) (made gain routes) →
    IfSome (vehicle_in gain.second) (λ _. IsListed p (parts_list routes (second_parts gain.second)))
second-listed p routes gain within listed = by gain.first gain.second (second-within routes gain within) (subst (All (IsListed p)) (made-is routes gain) listed)
  where
    by : (first : GainSide) (second : Option GainSide) → IfSome second (IsSideWithin routes) → All (IsListed p) (made_with routes first second) → IfSome (vehicle_in second) (λ _. IsListed p (parts_list routes (second_parts second)))
    by first None s l = tt
    by first (Some side) s l =
        let one : Routes = set routes first.vehicle (side_visits routes first) in
        set_listed p one side.vehicle (side_visits routes side) (omega (arith, length-set routes first.vehicle (side_visits routes first), s.vehicle_there)) l

pub second-parts-within : (routes : Routes) (gain : GainState) → IsWithin gain routes → All (IsPartWithin routes) (second_parts gain.second)
second-parts-within routes gain within = by gain.second (second-within routes gain within)
  where
    by : (second : Option GainSide) → IfSome second (IsSideWithin routes) → All (IsPartWithin routes) (second_parts second)
    by None s = All-nil (IsPartWithin routes)
    by (Some side) s = s.parts_within

pub second-inside : (routes : Routes) (gain : GainState) (count : ℕ) → length routes ≡ count → IsWithin gain routes → IfSome (vehicle_in gain.second) (λ v. v < count)
second-inside routes gain count e within = by gain.second (second-within routes gain within)
  where
    by : (second : Option GainSide) → IfSome second (IsSideWithin routes) → IfSome (vehicle_in second) (λ v. v < count)
    by None s = tt
    by (Some side) s = omega (arith, e, s.vehicle_there)

-- a route is of another vehicle, if there is one
abbrev IfOther : Option RouteState → ℕ → Type 0
IfOther o v = IfSome o (λ state. state.vehicle ≢ v)

-- the new routes that are answered
pub are-made : (p : Problem) (routes : Routes) (gain : GainState) (route : RouteState) (other : Option RouteState) → AreApart gain →
    route ≡ vehicle_route p (parts_list routes gain.first.parts) gain.first.vehicle → other ≡ option_map (vehicle_route p (parts_list routes (second_parts gain.second))) (vehicle_in gain.second) →
    AreMadeRoutes p routes gain route other
are-made p routes gain route other apart is is' =
    let second : other ≡ option_map (side_route p routes) gain.second = is' ∙ side gain.second in
    record {
      is_route = is;
      is_other = second;
      are_apart =
          subst (λ (o : Option RouteState). IfOther o route.vehicle) (sym second)
          (subst (λ (v : ℕ). IfOther (option_map (side_route p routes) gain.second) v) (sym (ap (λ (state : RouteState). state.vehicle) is)) (others gain.second gain.first.vehicle apart));
    }
  where
    side : (second : Option GainSide) → option_map (vehicle_route p (parts_list routes (second_parts second))) (vehicle_in second) ≡ option_map (side_route p routes) second
    side None = refl
    side (Some s) = refl

    others : (second : Option GainSide) (v : ℕ) → IfSome second (λ s. s.vehicle ≢ v) → IfOther (option_map (side_route p routes) second) v
    others None v a = tt
    others (Some s) v a = a

-- what making them may read
made_reads : (routes : Routes) (gain : GainState) →
    set_reads (length (parts_list routes gain.first.parts)) + second_reads (vehicle_in gain.second) (parts_list routes (second_parts gain.second)) ≤ apply_reads routes gain
made_reads routes gain = by gain.first gain.second
  where
    by : (first : GainSide) (second : Option GainSide) →
        set_reads (length (parts_list routes first.parts)) + second_reads (vehicle_in second) (parts_list routes (second_parts second))
        ≤ sum_by (λ (side : GainSide). set_reads (length (side_visits routes side)) + new_reads) (sides_with first second)
    by first None = omega arith
    by first (Some side) = omega arith

pub reads-made : (routes : Routes) (gain : GainState) (before mid now : ℕ) → RoseAtMost (set_reads (length (parts_list routes gain.first.parts))) before mid →
    RoseAtMost (second_reads (vehicle_in gain.second) (parts_list routes (second_parts gain.second))) mid now → RoseAtMost (apply_reads routes gain) before now
reads-made routes gain before mid now one two = record { kept = omega arith; most = omega (arith, made_reads routes gain) }
