-- What a turn changes of what a vehicle's distance costs.
use Rattle.std.specs.Prelude.{◌≡◌, ℕ, ◌*◌, ◌^◌, ◌<◌, ℤ, pos, ◌-ℤ◌}
use Rattle.routing_model.specs.Listed.{type_of_vehicle}
use Rattle.move_core.specs.Searches.{SearchState}
use Rattle.route_moves.specs.declared.star_screen.Swing.{Swing}

-- a vehicle drives so much farther, or so much less: what that costs
pub record IsSwing (s : SearchState) (vehicle : ℕ) (change : ℤ) (swing : Swing) : Type 0 where
  pub farther : ℕ
  pub less : ℕ
  pub is : change ≡ pos farther -ℤ pos less
  pub rise : swing.rise ≡ (type_of_vehicle s.problem vehicle).unit_distance * farther
  pub fall : swing.fall ≡ (type_of_vehicle s.problem vehicle).unit_distance * less
  pub small_rise : swing.rise < 2 ^ 96
  pub small_fall : swing.fall < 2 ^ 96
