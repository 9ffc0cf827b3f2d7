-- The sections as keys: what the derived test finds is what the definition's finds.
use Rattle.std.proofs.Common.{◌≡◌, Bool, refl, List, [], ◌∷◌}
use Rattle.std.specs.Map.{lookup}
use denote.Enum.Bare.{sameb}
use Rattle.vrplib_model.specs.contracts.section.Section.{the_type}
use Rattle.vrplib_model.specs.declared.section.Section.{Section}
use Rattle.vrplib_model.specs.declared.section.Section.TheVariants.{NodeCoord as node_coord_section, Demand as demand_section, Backhaul as backhaul_section, TimeWindow as time_window_section, ServiceTime as service_time_section, ReleaseTime as release_time_section, Prize as prize_section, EdgeWeight as edge_weight_section, Depot as depot_section, Group as group_section, Profile as profile_section, VehicleTypes as vehicle_types_section}
use Rattle.vrplib_model.specs.Sections.{same_section}

pub same_test : (s t : Section) → sameb the_type s t ≡ same_section s t
same_test node_coord_section node_coord_section = refl
same_test demand_section demand_section = refl
same_test backhaul_section backhaul_section = refl
same_test time_window_section time_window_section = refl
same_test service_time_section service_time_section = refl
same_test release_time_section release_time_section = refl
same_test prize_section prize_section = refl
same_test edge_weight_section edge_weight_section = refl
same_test depot_section depot_section = refl
same_test group_section group_section = refl
same_test profile_section profile_section = refl
same_test vehicle_types_section vehicle_types_section = refl
same_test _ _ = refl

pub same_lookup : {K X : Type 0} (f g : K → Bool) → ((k : K) → f k ≡ g k) → (es : List (K × X)) → lookup f es ≡ lookup g es
same_lookup f g same [] = refl
same_lookup f g same (e ∷ es) = rw (same e.0, same_lookup f g same es) refl
