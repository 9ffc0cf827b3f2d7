-- The faults of a text as a whole, where no line is faulty. The lines are given the nearest to the end first.
use Rattle.std.specs.Prelude.{ℕ, ◌+◌, Bool, not, ◌&&◌, ◌||◌, nat_lt, nat_le, max, min, List, [], ◌∷◌, length, Option, bytes_eq}
use Rattle.std.specs.List.{list_any, list_all}
use Rattle.problem_data.specs.Limits.{largest_leg}
use Rattle.problem_data.specs.declared.problem.Window.{Window}
use Rattle.problem_data.specs.declared.problem.VehicleType.{VehicleType}
use Rattle.problem_data.specs.declared.problem.Profile.{Profile}
use Rattle.vrp_num.specs.declared.rounding.Rounding.{Rounding}
use Rattle.vrplib_model.specs.declared.rule.Rule.{Rule}
use Rattle.vrplib_model.specs.declared.rule.Rule.TheVariants.{Missing, BadDepot, BadVehicle, BadGroup, EmptyWindow, Limit}
use Rattle.vrplib_model.specs.declared.rule.Key.TheVariants.{Dimension, EdgeWeightType, NodeCoordSection, EdgeWeightSection}
use Rattle.vrplib_model.specs.Keywords.{dimension, edge_weight_type}
use Rattle.vrplib_model.specs.Sections.{node_coord_section, edge_weight_section}
use Rattle.vrplib_model.specs.LineKinds.{Line}
use Rattle.vrplib_model.specs.Values.{has_keyword, node_count, is_euclidean, is_explicit}
use Rattle.vrplib_model.specs.Rows.{has_section}
use Rattle.vrplib_model.specs.Checks.{broken_if, first_of}
use Rattle.vrplib_model.specs.Entries.{counted, depot_nodes, depot_count, delivery, pickup, release, prize, window}
use Rattle.vrplib_model.specs.Fleet.{types}
use Rattle.vrplib_model.specs.Legs.{profiles}
use Rattle.vrplib_model.specs.Meaning.{groups}

-- the first keyword or section that the text lacks
abbrev pub missing_key : List Line → Option Rule
missing_key lines = first_of (
    broken_if (not (has_keyword dimension lines)) (Missing Dimension)
    ∷ broken_if (not (has_keyword edge_weight_type lines)) (Missing EdgeWeightType)
    ∷ broken_if (is_euclidean lines && not (has_section node_coord_section lines)) (Missing NodeCoordSection)
    ∷ broken_if (is_explicit lines && not (has_section edge_weight_section lines)) (Missing EdgeWeightSection)
    ∷ [])

-- the depots aren't the nodes 1 to d, or no node is left for a client
abbrev pub has_other_depots : Rounding → List Line → Bool
has_other_depots mode lines =
    let d = depot_count mode lines in
    not (bytes_eq (depot_nodes mode lines) (counted 1 d) && nat_le 1 d && nat_lt d (node_count mode lines))

-- a depot has what only a client may have
abbrev pub is_client_like : Rounding → List Line → ℕ → Bool
is_client_like mode lines node =
    nat_lt 0 (delivery mode lines node) || nat_lt 0 (pickup mode lines node) || nat_lt 0 (release mode lines node)
    || nat_lt 0 (prize mode lines node)

-- one of the d depots is at the place
abbrev pub is_depot_place : ℕ → ℕ → Bool
is_depot_place d place = nat_lt place d

-- a type starts, ends or reloads at a place that isn't a depot, or drives by a profile that isn't there
abbrev pub has_wrong_reference : ℕ → ℕ → VehicleType → Bool
has_wrong_reference d profile_count t = not (
    is_depot_place d t.start && is_depot_place d t.end && list_all (is_depot_place d) t.reload_depots && nat_lt t.profile profile_count)

-- two windows have no moment in common
abbrev pub are_apart : Window → Window → Bool
are_apart a b = nat_lt (min a.late b.late) (max a.early b.early)

-- the shift of a type doesn't meet the window of its start or of its end
abbrev pub has_missed_shift : Rounding → List Line → VehicleType → Bool
has_missed_shift mode lines t =
    are_apart t.shift (window mode lines (t.start + 1)) || are_apart t.shift (window mode lines (t.end + 1))

-- a leg above the largest
abbrev pub has_long_leg : Profile → Bool
has_long_leg p = list_any (λ leg. nat_lt largest_leg leg) p.distances.entries || list_any (λ leg. nat_lt largest_leg leg) p.durations.entries

-- the first check that the text as a whole fails
unfoldable pub whole_fault : Rounding → List Line → Option Rule
whole_fault mode lines =
    let d = depot_count mode lines in
    first_of (
    missing_key lines
    ∷ broken_if (has_other_depots mode lines || list_any (is_client_like mode lines) (depot_nodes mode lines)) BadDepot
    ∷ broken_if (list_any (has_wrong_reference d (length (profiles mode lines))) (types mode lines)) BadVehicle
    ∷ broken_if (list_any (list_any (is_depot_place d)) (groups mode lines)) BadGroup
    ∷ broken_if (list_any (has_missed_shift mode lines) (types mode lines)) EmptyWindow
    ∷ broken_if (list_any has_long_leg (profiles mode lines)) Limit
    ∷ [])
