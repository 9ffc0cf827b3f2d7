-- How much farther a vehicle drives with a client at a place of its list, of the list as it is, and of the list without one of its visits.
use Rattle.std.specs.Prelude.{ℕ, ◌+◌, ◌^◌, ◌==◌, nat_lt, ℤ, pos, ◌+ℤ◌, ◌≤ℤ◌, if◌then◌else◌}
use Rattle.gain_model.specs.Growths.{detour}
use Rattle.routing_model.specs.Listed.{type_of_vehicle}
use Rattle.route_cache.specs.Marks.{place_along}
use Rattle.route_cache.specs.Routes.{RouteState}

-- the place at a position of a route
abbrev pub place_of : RouteState → ℕ → ℕ
place_of route position = place_along (type_of_vehicle route.problem route.vehicle) route.visits position

-- how much farther it is from one position to another by a client
abbrev pub farther : RouteState → ℕ → ℕ → ℕ → ℤ
farther route from client to = detour route.problem (type_of_vehicle route.problem route.vehicle) (place_of route from) client (place_of route to)

-- with a client at a place
abbrev pub growth_of : RouteState → ℕ → ℕ → ℤ
growth_of route client place = farther route place client (place + 1)

-- with a client in the place of the visit at a position, than without that visit
abbrev pub instead_of : RouteState → ℕ → ℕ → ℤ
instead_of route client position = farther route position client (position + 2)

-- how much less far it is without that visit
abbrev pub gone_of : RouteState → ℕ → ℤ
gone_of route position = instead_of route (place_of route (position + 1)) position

-- what is known of the places of a list, as places of the list without the visit at a position: that visit's own place lies between the two
-- that fall
abbrev pub without : ℕ → ℤ → (ℕ → ℤ) → ℕ → ℤ
without position instead f place = if nat_lt place position then f place else (if place == position then instead else f (place + 1))

-- with a client at a place of the list without that visit
abbrev pub growth_without : RouteState → ℕ → ℕ → ℕ → ℤ
growth_without route position client place = without position (instead_of route client position) (growth_of route client) place

-- as small as two legs
pub record IsSmall (growth : ℤ) : Type 0 where
  pub low : pos 0 ≤ℤ (growth +ℤ pos (2 ^ 33))
  pub high : growth ≤ℤ pos (2 ^ 33)
