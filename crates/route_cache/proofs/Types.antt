-- The types of vehicles, and of views.
use Rattle.std.proofs.Common.{◌≡◌, ℕ, ◌<◌, [], length, get_or, refl, sym, subst, Option, Some, None}
use Rattle.std.proofs.lemmas.List.Elements.{All-get_or}
use Rattle.std.proofs.lemmas.Option.{unwrap_or-slice_get}
use Rattle.problem_data.specs.declared.problem.Problem.{Problem}
use Rattle.problem_data.specs.declared.problem.VehicleType.{VehicleType}
use Rattle.problem_data.specs.Places.{no_window, type_at}
use Rattle.problem_data.specs.Valid.{IsValid, IsValidType}
use Rattle.routing_model.specs.Listed.{type_of_vehicle}
use Rattle.route_cache.specs.Routes.{IsTypeFor}

abbrev pub no_type : VehicleType
no_type = record { count = 0; capacity = 0; start = 0; end = 0; fixed = 0; unit_distance = 0; unit_duration = 0; shift = no_window; max_duration = 0; max_distance = 0; profile = 0; reloads = 0; reload_depots = [] }

pub type_at-read : (p : Problem) (number : ℕ) → type_at p number ≡ get_or p.types number no_type
type_at-read p number = unwrap_or-slice_get p.types number no_type

-- a type that is there is valid
pub type-valid : (p : Problem) (number : ℕ) → IsValid p → number < length p.types → IsValidType p (type_at p number)
type-valid p number valid h =
    subst (IsValidType p) (sym (type_at-read p number)) (All-get_or (IsValidType p) p.types number no_type h valid.each_type)

-- each view has a type by which it is right
pub some-type : (p : Problem) (vehicle : Option ℕ) → IsValid p → (t : VehicleType) × IsTypeFor p vehicle t
some-type p (Some vehicle) valid = (type_of_vehicle p vehicle, refl)
some-type p None valid = (type_at p 0, type-valid p 0 valid valid.some_type)
