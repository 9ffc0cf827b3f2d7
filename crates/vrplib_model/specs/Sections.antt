-- The sections that are read (TSPLIB 95, section 1.2, VRPLIB, and the sections of this solver), by their spelling.
use Rattle.std.specs.Prelude.{ℕ, Bool, true, false, nat_eq, List, [], ◌∷◌, Option, find, codes, bytes_eq}
use Rattle.std.specs.List.{ends_with}
pub use Rattle.vrplib_model.specs.declared.section.Section.{Section}
pub use Rattle.vrplib_model.specs.declared.section.Section.TheVariants.{NodeCoord as node_coord_section, Demand as demand_section, Backhaul as backhaul_section, TimeWindow as time_window_section, ServiceTime as service_time_section, ReleaseTime as release_time_section, Prize as prize_section, EdgeWeight as edge_weight_section, Depot as depot_section, Group as group_section, Profile as profile_section, VehicleTypes as vehicle_types_section}

-- how a section is spelled
abbrev pub section_name : Section → List ℕ
section_name node_coord_section = codes "NODE_COORD_SECTION"
section_name demand_section = codes "DEMAND_SECTION"
section_name backhaul_section = codes "BACKHAUL_SECTION"
section_name time_window_section = codes "TIME_WINDOW_SECTION"
section_name service_time_section = codes "SERVICE_TIME_SECTION"
section_name release_time_section = codes "RELEASE_TIME_SECTION"
section_name prize_section = codes "PRIZE_SECTION"
section_name edge_weight_section = codes "EDGE_WEIGHT_SECTION"
section_name depot_section = codes "DEPOT_SECTION"
section_name group_section = codes "MUTUALLY_EXCLUSIVE_GROUP_SECTION"
section_name profile_section = codes "PROFILE_SECTION"
section_name vehicle_types_section = codes "VEHICLE_TYPES_SECTION"

-- all sections
abbrev pub sections : List Section
sections = node_coord_section ∷ demand_section ∷ backhaul_section ∷ time_window_section ∷ service_time_section ∷ release_time_section
    ∷ prize_section ∷ edge_weight_section ∷ depot_section ∷ group_section ∷ profile_section ∷ vehicle_types_section ∷ []

-- the section that a key spells
unfoldable pub section_of : List ℕ → Option Section
section_of key = find (λ s. bytes_eq (section_name s) key) sections

-- the key of a section line, known or not, ends so
unfoldable pub is_section_key : List ℕ → Bool
is_section_key key = ends_with nat_eq key (codes "_SECTION")

-- two sections are the same
abbrev pub same_section : Section → Section → Bool
same_section node_coord_section node_coord_section = true
same_section demand_section demand_section = true
same_section backhaul_section backhaul_section = true
same_section time_window_section time_window_section = true
same_section service_time_section service_time_section = true
same_section release_time_section release_time_section = true
same_section prize_section prize_section = true
same_section edge_weight_section edge_weight_section = true
same_section depot_section depot_section = true
same_section group_section group_section = true
same_section profile_section profile_section = true
same_section vehicle_types_section vehicle_types_section = true
same_section _ _ = false

-- the section has exactly one row for each node
abbrev pub is_by_node : Section → Bool
is_by_node node_coord_section = true
is_by_node demand_section = true
is_by_node backhaul_section = true
is_by_node time_window_section = true
is_by_node service_time_section = true
is_by_node release_time_section = true
is_by_node prize_section = true
is_by_node _ = false
