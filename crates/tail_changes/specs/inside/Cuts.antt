-- Two cut lists that exchange what is behind the cuts.
use Rattle.std.specs.Prelude.{◌≡◌, ◌<◌, ◌≤◌, ◌⊎◌, Bool, true, false, ◌&&◌, length, Option, None, Some}
use Rattle.problem_data.specs.Places.{vehicle_count}
use Rattle.routing_model.specs.Routes.{Routes, list_at}
use Rattle.move_core.specs.Searches.{SearchState}
use Rattle.list_changes.specs.declared.change.Change.{Change}
use Rattle.list_changes.specs.declared.change.Change.TheVariants.{Two}
use Rattle.list_changes.specs.declared.layout.Layout.{Layout}
use Rattle.list_changes.specs.declared.layout.Span.{Span}
use Rattle.list_changes.specs.Layouts.{lent_layout}
use Rattle.tail_changes.specs.declared.tails.Cut.{Cut}
use Rattle.tail_changes.specs.Reloading.{may_have, taken}
use Rattle.tail_changes.specs.inside.TailBegins.{tail_begin}

-- a vehicle's list, with a cut in it
pub record IsCut (s : SearchState) (cut : Cut) : Type 0 where
  pub in_range : cut.vehicle < vehicle_count s.problem
  pub size : cut.size ≡ length (list_at s.routes cut.vehicle)
  pub inside : cut.left ≤ cut.size

-- the tail that comes to the first list, and the one that goes from it
abbrev pub coming : Cut → Span
coming second = record { first = second.left; end = second.size }

abbrev pub going : Routes → Cut → Cut → Span
going routes first second = record { first = tail_begin (list_at routes first.vehicle) first.left second.left; end = first.size }

-- a cut list with another tail
abbrev pub with_tail : Cut → Span → Layout
with_tail cut tail = lent_layout cut.left cut.size tail.first tail.end

-- the tails in each other's place
abbrev pub exchange_of : Routes → Cut → Cut → Change
exchange_of routes first second = Two first.vehicle second.vehicle (with_tail first (coming second)) (with_tail second (going routes first second))

-- whether both vehicles may reload as their new lists do
abbrev pub may_exchange : SearchState → Cut → Cut → Bool
may_exchange s first second =
    may_have s first.vehicle (taken s.routes first.vehicle first.left second.vehicle (coming second))
    && may_have s second.vehicle (taken s.routes second.vehicle second.left first.vehicle (going s.routes first second))

-- there is nothing behind both cuts
pub record AreBare (first second : Cut) : Type 0 where
  pub first_bare : first.left ≡ first.size
  pub second_bare : second.left ≡ second.size

-- nothing, where the vehicles may not exchange their tails or there are none, and else the exchange
abbrev pub IsExchange : SearchState → Cut → Cut → Option Change → Type 0
IsExchange s first second None = AreBare first second ⊎ (may_exchange s first second ≡ false)
IsExchange s first second (Some change) = (change ≡ exchange_of s.routes first second) × (may_exchange s first second ≡ true)
