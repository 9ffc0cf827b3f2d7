-- Why a look's bounds hold: the ways and the costs of lists with a lent run, and what two vehicles cost.
use Rattle.std.proofs.Common.{◌≡◌, ℕ, ◌+◌, ◌*◌, ◌<◌, ◌≤◌, ◌^◌, Bool, true, false, ◌&&◌, List, length, refl, ap, arith}
use Rattle.std.specs.Prelude.{nat_eq, nat_le}
use Rattle.std.proofs.lemmas.Bool.Decides.{nat_tests}
use Rattle.problem_data.specs.declared.problem.VehicleType.{VehicleType}
use Rattle.problem_data.specs.declared.visit.Visit.{Visit}
use Rattle.routing_model.specs.Listed.{type_of_vehicle}
use Rattle.routing_model.specs.Routes.{list_at}
use Rattle.move_core.specs.Searches.{SearchState}
use Rattle.list_changes.specs.declared.change.Change.TheVariants.{Two}
use Rattle.list_changes.specs.declared.layout.Layout.{Layout}
use Rattle.exchange_screens.specs.declared.seat.Seat.{Seat}
use Rattle.list_changes.specs.Changes.{CostsNoLess, IsSide, new_list}
use Rattle.list_changes.specs.Layouts.{has_no_visit, runs_of, lent_layout}
use Rattle.list_changes.specs.Bounds.{IsBound, IsLeast, IsPaid, overloaded}
use Rattle.exchange_screens.specs.inside.Seats.{IsSeat}
use Rattle.list_changes.specs.Ways.{way_by}
use Rattle.list_changes.proofs.BoundLaws.{bound-holds, driven-change, least-empty, least-used, times-most, two-no_less}

-- a layout with a run has visits
lent-some : (left right first end size : ℕ) → first < end → has_no_visit (lent_layout left right first end) size ≡ false
lent-some left right first end size order = by (nat_eq left 0) (nat_eq right size) (nat_eq first end) other
  where
    other : nat_eq first end ≡ false
    other = grind (arith, nat_tests)

    by : (a b c : Bool) → c ≡ false → (a && (b && (c && true))) ≡ false
    by a b true e = absurd (no e)
      where
        no : true ≡ false → ⊥
        no z = cc
    by true true false e = refl
    by true false false e = refl
    by false b false e = refl

module _ (s : SearchState) (seat : Seat) (is : IsSeat s seat) (lender : ℕ) where
  abbrev t : VehicleType
  t = type_of_vehicle s.problem seat.vehicle

  -- what comes with a list that has visits
  pub least-some : (layout : Layout) → IsSide s seat.vehicle lender layout → has_no_visit layout (length (list_at s.routes seat.vehicle)) ≡ false → (far n : ℕ) →
      far ≤ way_by s.problem t (list_at s.routes seat.vehicle) layout (runs_of (list_at s.routes lender) layout) → n ≤ seat.fixed + seat.unit * far → n < 2 ^ 59 → IsLeast s seat.vehicle lender layout n
  least-some layout side some far n near least small =
      let own : List Visit = list_at s.routes seat.vehicle in
      let lent : List Visit = list_at s.routes lender in
      let used = least-used own lent layout side.laid s.problem t s.weights side.listed.tidy some in
      let unit : seat.unit * far ≡ t.unit_distance * far = ap (λ (u : ℕ). u * far) is.unit in
      let sum = times-most t.unit_distance (t.unit_distance * far) far (way_by s.problem t own layout (runs_of lent layout)) (omega arith) near in
      record { small = small; holds = omega (arith, sum, used, unit, is.fixed, least) }

  pub least-lent : (left right first end : ℕ) → IsSide s seat.vehicle lender (lent_layout left right first end) → first < end → (far n : ℕ) →
      far ≤ way_by s.problem t (list_at s.routes seat.vehicle) (lent_layout left right first end) (runs_of (list_at s.routes lender) (lent_layout left right first end)) →
      n ≤ seat.fixed + seat.unit * far → n < 2 ^ 59 → IsLeast s seat.vehicle lender (lent_layout left right first end) n
  least-lent left right first end side order = least-some (lent_layout left right first end) side (lent-some left right first end (length (list_at s.routes seat.vehicle)) order)

  -- and with one that has none
  pub least-none : (layout : Layout) → IsSide s seat.vehicle lender layout → has_no_visit layout (length (list_at s.routes seat.vehicle)) ≡ true → IsLeast s seat.vehicle lender layout 0
  least-none layout side none =
      let empty = least-empty (list_at s.routes seat.vehicle) (list_at s.routes lender) layout side.laid s.problem t s.weights none in
      record { small = omega arith; holds = omega (arith, empty) }

-- a bound of a side
bound-is : (s : SearchState) (vehicle lender : ℕ) (layout : Layout) → IsSide s vehicle lender layout → (least paid : ℕ) → IsLeast s vehicle lender layout least → IsPaid s vehicle layout paid →
    IsBound s vehicle lender layout (record { least = least; paid = paid })
bound-is s vehicle lender layout side least paid is_least is_paid =
    let change = driven-change (list_at s.routes vehicle) (list_at s.routes lender) layout side.laid s.problem (type_of_vehicle s.problem vehicle) in
    record {
      small = is_least.small;
      cut = is_paid.cut;
      holds = λ uncut. bound-holds _ _ _ _ _ _ _ _ _ change is_least.holds (is_paid.holds uncut);
    }

-- two vehicles cost no less, where what comes, with what the excess loads cost at least, is no less than what goes
pub two-dear : (s : SearchState) (a b : ℕ) (one two : Layout) → IsSide s a b one → IsSide s b a two → (least least' paid paid' load load' : ℕ) →
    IsLeast s a b one least → IsLeast s b a two least' → IsPaid s a one paid → IsPaid s b two paid' →
    load ≤ overloaded s a (new_list s.routes a b one) → load' ≤ overloaded s b (new_list s.routes b a two) → load ≤ 2 ^ 58 → load' ≤ 2 ^ 58 →
    nat_le (paid + paid') (least + least' + load + load') ≡ true → CostsNoLess s (Two a b one two)
two-dear s a b one two side side' least least' paid paid' load load' is is' goes goes' carried carried' small small' enough =
    two-no_less s a b one two (record { least = least; paid = paid }) (record { least = least'; paid = paid' }) load load'
    (bound-is s a b one side least paid is goes) (bound-is s b a two side' least' paid' is' goes') carried carried' small small' enough

-- by the distances alone
pub two-dear-far : (s : SearchState) (a b : ℕ) (one two : Layout) → IsSide s a b one → IsSide s b a two → (least least' paid paid' : ℕ) →
    IsLeast s a b one least → IsLeast s b a two least' → IsPaid s a one paid → IsPaid s b two paid' → paid + paid' ≤ least + least' → CostsNoLess s (Two a b one two)
two-dear-far s a b one two side side' least least' paid paid' is is' goes goes' enough =
    two-dear s a b one two side side' least least' paid paid' 0 0 is is' goes goes' (omega arith) (omega arith) (omega arith) (omega arith)
    (test (paid + paid') (least + least' + 0 + 0) (omega arith))
  where
    test : (m n : ℕ) → m ≤ n → nat_le m n ≡ true
    test m n h = grind (arith, nat_tests)
