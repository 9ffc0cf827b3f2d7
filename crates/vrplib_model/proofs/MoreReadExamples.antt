-- More examples of what a text is read as: each rule, and each section, closed by computation.
use Rattle.std.proofs.Common.{◌≡◌, ℕ, ◌^◌, ◌*◌, List, [], ◌∷◌, ◌++◌, refl, Ok, Err, codes, Some, None, Result, Option}
use Rattle.list_words.specs.Texts.{line}
use Rattle.problem_data.specs.declared.problem.Problem.{Problem}
use Rattle.vrp_num.specs.declared.rounding.Rounding.TheVariants.{Round, Exact}
use Rattle.vrplib_model.specs.declared.refusal.Refusal.{Refusal}
use Rattle.vrplib_model.specs.declared.rule.Rule.{Rule}
use Rattle.vrplib_model.specs.declared.rule.Rule.TheVariants.{NoKeyword, Missing, BadNumber, RowCount, BadNode, Unsupported, Limit, BadDepot, EmptyWindow, BadVehicle, BadGroup}
use Rattle.vrplib_model.specs.declared.rule.Key.TheVariants.{EdgeWeightType, EdgeWeightFormat, NodeCoordSection, EdgeWeightSection}
use Rattle.vrplib_model.specs.Reading.{read}
use Rattle.vrplib_model.proofs.OnLiterals.{reader_on_literals}

-- a refusal at a line, by a rule
abbrev refused : ℕ → Rule → Result Problem Refusal
refused at rule = Err (record { line = at; rule = rule })

-- a part of the problem that was read
abbrev part : {X : Type 0} → (Problem → X) → Result Problem Refusal → Option X
part f (Ok problem) = Some (f problem)
part f (Err refusal) = None

abbrev rich : List ℕ
rich = line (codes "DIMENSION : 5")
    ++ line (codes "EDGE_WEIGHT_TYPE : EXPLICIT")
    ++ line (codes "EDGE_WEIGHT_FORMAT : UPPER_ROW")
    ++ line (codes "SERVICE_TIME : 7")
    ++ line (codes "EDGE_WEIGHT_SECTION")
    ++ line (codes "1 2 3 4")
    ++ line (codes "5 6 7 8 9 10")
    ++ line (codes "DEPOT_SECTION")
    ++ line (codes "1 2")
    ++ line (codes "-1")
    ++ line (codes "NOTE_SECTION : anything")
    ++ line (codes "of any kind")
    ++ line (codes "7")
    ++ line (codes "DEMAND_SECTION")
    ++ line (codes "1 0")
    ++ line (codes "2 0")
    ++ line (codes "5 3")
    ++ line (codes "4 2")
    ++ line (codes "3 1")
    ++ line (codes "MUTUALLY_EXCLUSIVE_GROUP_SECTION")
    ++ line (codes "1 3 5")
    ++ line (codes "PROFILE_SECTION")
    ++ line (codes "1 1000 2000")
    ++ line (codes "2 1500 1")
    ++ line (codes "VEHICLE_TYPES_SECTION")
    ++ line (codes "1 1 10 1 2 100 1 0 0 -1 -1 50 2 1 1 2")
    ++ line (codes "2 2 20 2 2 0.5 1 1 5 100 200.4 -1 1 0")
    ++ line (codes "EOF")

rich_profiles : part (λ p. p.profiles) (read Round rich) ≡ Some (record { distances = record { size = 5; entries = 0 ∷ 1 ∷ 2 ∷ 3 ∷ 4 ∷ 1 ∷ 0 ∷ 5 ∷ 6 ∷ 7 ∷ 2 ∷ 5 ∷ 0 ∷ 8 ∷ 9 ∷ 3 ∷ 6 ∷ 8 ∷ 0 ∷ 10 ∷ 4 ∷ 7 ∷ 9 ∷ 10 ∷ 0 ∷ [] }; durations = record { size = 5; entries = 0 ∷ 2 ∷ 4 ∷ 6 ∷ 8 ∷ 2 ∷ 0 ∷ 10 ∷ 12 ∷ 14 ∷ 4 ∷ 10 ∷ 0 ∷ 16 ∷ 18 ∷ 6 ∷ 12 ∷ 16 ∷ 0 ∷ 20 ∷ 8 ∷ 14 ∷ 18 ∷ 20 ∷ 0 ∷ [] } } ∷ record { distances = record { size = 5; entries = 0 ∷ 1 ∷ 3 ∷ 4 ∷ 6 ∷ 1 ∷ 0 ∷ 7 ∷ 9 ∷ 10 ∷ 3 ∷ 7 ∷ 0 ∷ 12 ∷ 13 ∷ 4 ∷ 9 ∷ 12 ∷ 0 ∷ 15 ∷ 6 ∷ 10 ∷ 13 ∷ 15 ∷ 0 ∷ [] }; durations = record { size = 5; entries = 0 ∷ 0 ∷ 0 ∷ 0 ∷ 0 ∷ 0 ∷ 0 ∷ 0 ∷ 0 ∷ 0 ∷ 0 ∷ 0 ∷ 0 ∷ 0 ∷ 0 ∷ 0 ∷ 0 ∷ 0 ∷ 0 ∷ 0 ∷ 0 ∷ 0 ∷ 0 ∷ 0 ∷ 0 ∷ [] } } ∷ [])
unfolding reader_on_literals
rich_profiles = refl

rich_types : part (λ p. p.types) (read Round rich) ≡ Some (record { count = 1; capacity = 10; start = 0; end = 1; fixed = 100; unit_distance = 1; unit_duration = 0; shift = record { early = 0; late = 10 ^ 12 }; max_duration = 10 ^ 18; max_distance = 50; profile = 1; reloads = 1; reload_depots = 0 ∷ 1 ∷ [] } ∷ record { count = 2; capacity = 20; start = 1; end = 1; fixed = 1; unit_distance = 1; unit_duration = 1; shift = record { early = 5; late = 100 }; max_duration = 200; max_distance = 10 ^ 18; profile = 0; reloads = 0; reload_depots = [] } ∷ [])
unfolding reader_on_literals
rich_types = refl

rich_clients : part (λ p. p.clients) (read Round rich) ≡ Some (record { delivery = 1; pickup = 0; window = record { early = 0; late = 10 ^ 12 }; service = 7; release = 0; prize = 0; group = Some 0 } ∷ record { delivery = 2; pickup = 0; window = record { early = 0; late = 10 ^ 12 }; service = 7; release = 0; prize = 0; group = None } ∷ record { delivery = 3; pickup = 0; window = record { early = 0; late = 10 ^ 12 }; service = 7; release = 0; prize = 0; group = Some 0 } ∷ [])
unfolding reader_on_literals
rich_clients = refl

rich_groups : part (λ p. p.groups) (read Round rich) ≡ Some ((2 ∷ 4 ∷ []) ∷ [])
unfolding reader_on_literals
rich_groups = refl

row_behind_end : read Round (line (codes "DIMENSION : 3")
    ++ line (codes "DEPOT_SECTION")
    ++ line (codes "1 -1")
    ++ line (codes "2")) ≡ refused 4 NoKeyword
unfolding reader_on_literals
row_behind_end = refl

word_in_section : read Round (line (codes "DIMENSION : 3")
    ++ line (codes "DEMAND_SECTION")
    ++ line (codes "hello")) ≡ refused 3 NoKeyword
unfolding reader_on_literals
word_in_section = refl

no_type : read Round (line (codes "DIMENSION : 3")
    ++ line (codes "EDGE_WEIGHT_SECTION")) ≡ refused 2 (Missing EdgeWeightType)
unfolding reader_on_literals
no_type = refl

no_format : read Round (line (codes "DIMENSION : 3")
    ++ line (codes "EDGE_WEIGHT_TYPE : EXPLICIT")
    ++ line (codes "EDGE_WEIGHT_SECTION")) ≡ refused 3 (Missing EdgeWeightFormat)
unfolding reader_on_literals
no_format = refl

other_format : read Round (line (codes "DIMENSION : 3")
    ++ line (codes "EDGE_WEIGHT_TYPE : EXPLICIT")
    ++ line (codes "EDGE_WEIGHT_FORMAT : UPPER_DIAG_ROW")
    ++ line (codes "EDGE_WEIGHT_SECTION")) ≡ refused 4 Unsupported
unfolding reader_on_literals
other_format = refl

two_types : read Round (line (codes "EDGE_WEIGHT_TYPE : EUC_2D EUC_2D")) ≡ refused 1 Unsupported
unfolding reader_on_literals
two_types = refl

negative_and_large : read Round (line (codes "DIMENSION : -1e13")) ≡ refused 1 BadNumber
unfolding reader_on_literals
negative_and_large = refl

large_not_whole : read Round (line (codes "DIMENSION : 12345678901234.5")) ≡ refused 1 BadNumber
unfolding reader_on_literals
large_not_whole = refl

large_profile_number : read Round (line (codes "DIMENSION : 2") ++ line (codes "PROFILE_SECTION") ++ line (codes "1e13 1000 1000")) ≡ refused 3 BadNumber
unfolding reader_on_literals
large_profile_number = refl

large_coordinate : read Round (line (codes "DIMENSION : 2") ++ line (codes "NODE_COORD_SECTION") ++ line (codes "1 -1e13 0")) ≡ refused 3 Limit
unfolding reader_on_literals
large_coordinate = refl

large_negative_depot : read Round (line (codes "DIMENSION : 2") ++ line (codes "DEPOT_SECTION") ++ line (codes "-1e13")) ≡ refused 3 BadNumber
unfolding reader_on_literals
large_negative_depot = refl

half_node : read Round (line (codes "DIMENSION : 3")
    ++ line (codes "DEMAND_SECTION")
    ++ line (codes "1.5 0")) ≡ refused 3 BadNumber
unfolding reader_on_literals
half_node = refl

node_again : read Round (line (codes "DIMENSION : 3")
    ++ line (codes "DEMAND_SECTION")
    ++ line (codes "1 0")
    ++ line (codes "1 0")) ≡ refused 4 BadNode
unfolding reader_on_literals
node_again = refl

row_more : read Round (line (codes "DIMENSION : 3")
    ++ line (codes "DEMAND_SECTION")
    ++ line (codes "1 0")
    ++ line (codes "2 0")
    ++ line (codes "3 0")
    ++ line (codes "4 0")) ≡ refused 6 RowCount
unfolding reader_on_literals
row_more = refl

far_coordinate : read Round (line (codes "DIMENSION : 3")
    ++ line (codes "NODE_COORD_SECTION")
    ++ line (codes "1 0 -1000000.000001")) ≡ refused 3 Limit
unfolding reader_on_literals
far_coordinate = refl

depot_again : read Round (line (codes "DIMENSION : 3")
    ++ line (codes "DEPOT_SECTION")
    ++ line (codes "1")
    ++ line (codes "1")) ≡ refused 4 BadNode
unfolding reader_on_literals
depot_again = refl

group_order : read Round (line (codes "DIMENSION : 3")
    ++ line (codes "MUTUALLY_EXCLUSIVE_GROUP_SECTION")
    ++ line (codes "2 2")) ≡ refused 3 BadGroup
unfolding reader_on_literals
group_order = refl

group_twice : read Round (line (codes "DIMENSION : 3")
    ++ line (codes "MUTUALLY_EXCLUSIVE_GROUP_SECTION")
    ++ line (codes "1 2")
    ++ line (codes "2 3 2")) ≡ refused 4 BadGroup
unfolding reader_on_literals
group_twice = refl

group_short : read Round (line (codes "DIMENSION : 3")
    ++ line (codes "MUTUALLY_EXCLUSIVE_GROUP_SECTION")
    ++ line (codes "1")) ≡ refused 3 RowCount
unfolding reader_on_literals
group_short = refl

group_none : read Round (line (codes "DIMENSION : 3")
    ++ line (codes "MUTUALLY_EXCLUSIVE_GROUP_SECTION")
    ++ line (codes "TYPE : CVRP")) ≡ refused 3 RowCount
unfolding reader_on_literals
group_none = refl

profile_order : read Round (line (codes "DIMENSION : 3")
    ++ line (codes "PROFILE_SECTION")
    ++ line (codes "2 1000 10001")) ≡ refused 3 BadNumber
unfolding reader_on_literals
profile_order = refl

profile_fifth : read Round (line (codes "DIMENSION : 3")
    ++ line (codes "PROFILE_SECTION")
    ++ line (codes "1 1 1")
    ++ line (codes "2 1 1")
    ++ line (codes "3 1 1")
    ++ line (codes "4 1 1")
    ++ line (codes "5 1 1")) ≡ refused 7 Limit
unfolding reader_on_literals
profile_fifth = refl

type_order : read Round (line (codes "DIMENSION : 3")
    ++ line (codes "VEHICLE_TYPES_SECTION")
    ++ line (codes "2 1 10 1 1 0 1 0 0 -1 -1 -1 1 0")) ≡ refused 3 BadVehicle
unfolding reader_on_literals
type_order = refl

type_none : read Round (line (codes "DIMENSION : 3")
    ++ line (codes "VEHICLE_TYPES_SECTION")
    ++ line (codes "1 0 10 1 1 0 1 0 0 -1 -1 -1 1 0")) ≡ refused 3 Limit
unfolding reader_on_literals
type_none = refl

type_sum : read Round (line (codes "DIMENSION : 3")
    ++ line (codes "VEHICLE_TYPES_SECTION")
    ++ line (codes "1 2000 10 1 1 0 1 0 0 -1 -1 -1 1 0")
    ++ line (codes "2 49 10 1 1 0 1 0 0 -1 -1 -1 1 0")) ≡ refused 4 Limit
unfolding reader_on_literals
type_sum = refl

type_reload : read Round (line (codes "DIMENSION : 3")
    ++ line (codes "VEHICLE_TYPES_SECTION")
    ++ line (codes "1 1 10 1 1 0 1 0 0 -1 -1 -1 1 0 1")) ≡ refused 3 BadVehicle
unfolding reader_on_literals
type_reload = refl

type_reloads : read Round (line (codes "DIMENSION : 3")
    ++ line (codes "VEHICLE_TYPES_SECTION")
    ++ line (codes "1 1 10 1 1 0 1 0 0 -1 -1 -1 1 1")) ≡ refused 3 BadVehicle
unfolding reader_on_literals
type_reloads = refl

type_reload_twice : read Round (line (codes "DIMENSION : 3")
    ++ line (codes "VEHICLE_TYPES_SECTION")
    ++ line (codes "1 1 10 1 1 0 1 0 0 -1 -1 -1 1 1 1 1")) ≡ refused 3 BadVehicle
unfolding reader_on_literals
type_reload_twice = refl

type_node : read Round (line (codes "DIMENSION : 3")
    ++ line (codes "VEHICLE_TYPES_SECTION")
    ++ line (codes "1 1 10 4 1 0 1 0 0 -1 -1 -1 1 0")) ≡ refused 3 BadNode
unfolding reader_on_literals
type_node = refl

type_window : read Round (line (codes "DIMENSION : 3")
    ++ line (codes "VEHICLE_TYPES_SECTION")
    ++ line (codes "1 1 10 1 1 0 1 0 9 8 -1 -1 1 0")) ≡ refused 3 EmptyWindow
unfolding reader_on_literals
type_window = refl

type_profile : read Round (line (codes "DIMENSION : 3")
    ++ line (codes "VEHICLE_TYPES_SECTION")
    ++ line (codes "1 1 10 1 1 0 1 0 0 -1 -1 -1 5 0")) ≡ refused 3 Limit
unfolding reader_on_literals
type_profile = refl

explicit_without_legs : read Round (line (codes "DIMENSION : 3")
    ++ line (codes "EDGE_WEIGHT_TYPE : EXPLICIT")) ≡ refused 0 (Missing EdgeWeightSection)
unfolding reader_on_literals
explicit_without_legs = refl

euclidean_without_places : read Round (line (codes "DIMENSION : 3")
    ++ line (codes "EDGE_WEIGHT_TYPE : EUC_2D")) ≡ refused 0 (Missing NodeCoordSection)
unfolding reader_on_literals
euclidean_without_places = refl

depots_out_of_order : read Round (line (codes "DIMENSION : 3")
    ++ line (codes "EDGE_WEIGHT_TYPE : EUC_2D")
    ++ line (codes "NODE_COORD_SECTION")
    ++ line (codes "1 0 0")
    ++ line (codes "2 0 1000000")
    ++ line (codes "3 1 0")
    ++ line (codes "DEPOT_SECTION")
    ++ line (codes "2 1")) ≡ refused 0 BadDepot
unfolding reader_on_literals
depots_out_of_order = refl

depots_all : read Round (line (codes "DIMENSION : 3")
    ++ line (codes "EDGE_WEIGHT_TYPE : EUC_2D")
    ++ line (codes "NODE_COORD_SECTION")
    ++ line (codes "1 0 0")
    ++ line (codes "2 0 1000000")
    ++ line (codes "3 1 0")
    ++ line (codes "DEPOT_SECTION")
    ++ line (codes "1 2 3")) ≡ refused 0 BadDepot
unfolding reader_on_literals
depots_all = refl

profile_missing : read Round (line (codes "DIMENSION : 3")
    ++ line (codes "EDGE_WEIGHT_TYPE : EUC_2D")
    ++ line (codes "NODE_COORD_SECTION")
    ++ line (codes "1 0 0")
    ++ line (codes "2 0 1000000")
    ++ line (codes "3 1 0")
    ++ line (codes "VEHICLE_TYPES_SECTION")
    ++ line (codes "1 1 10 1 1 0 1 0 0 -1 -1 -1 2 0")) ≡ refused 0 BadVehicle
unfolding reader_on_literals
profile_missing = refl

start_at_client : read Round (line (codes "DIMENSION : 3")
    ++ line (codes "EDGE_WEIGHT_TYPE : EUC_2D")
    ++ line (codes "NODE_COORD_SECTION")
    ++ line (codes "1 0 0")
    ++ line (codes "2 0 1000000")
    ++ line (codes "3 1 0")
    ++ line (codes "VEHICLE_TYPES_SECTION")
    ++ line (codes "1 1 10 2 1 0 1 0 0 -1 -1 -1 1 0")) ≡ refused 0 BadVehicle
unfolding reader_on_literals
start_at_client = refl

shift_misses : read Round (line (codes "DIMENSION : 3")
    ++ line (codes "EDGE_WEIGHT_TYPE : EUC_2D")
    ++ line (codes "NODE_COORD_SECTION")
    ++ line (codes "1 0 0")
    ++ line (codes "2 0 1000000")
    ++ line (codes "3 1 0")
    ++ line (codes "TIME_WINDOW_SECTION")
    ++ line (codes "1 10 20")
    ++ line (codes "2 0 5")
    ++ line (codes "3 0 5")
    ++ line (codes "VEHICLE_TYPES_SECTION")
    ++ line (codes "1 1 10 1 1 0 1 0 21 -1 -1 -1 1 0")) ≡ refused 0 EmptyWindow
unfolding reader_on_literals
shift_misses = refl

long_leg : read Round (line (codes "DIMENSION : 2")
    ++ line (codes "EDGE_WEIGHT_TYPE : EXPLICIT")
    ++ line (codes "EDGE_WEIGHT_FORMAT : FULL_MATRIX")
    ++ line (codes "EDGE_WEIGHT_SECTION")
    ++ line (codes "0 4e9 1 0")
    ++ line (codes "PROFILE_SECTION")
    ++ line (codes "1 1000 1001")) ≡ refused 0 Limit
unfolding reader_on_literals
long_leg = refl

full_matrix : part (λ p. p.profiles) (read Round (line (codes "DIMENSION : 2")
    ++ line (codes "EDGE_WEIGHT_TYPE : EXPLICIT")
    ++ line (codes "EDGE_WEIGHT_FORMAT : FULL_MATRIX")
    ++ line (codes "EDGE_WEIGHT_SECTION")
    ++ line (codes "0 4e9 1 0"))) ≡ Some (record { distances = record { size = 2; entries = 0 ∷ 4 * 10 ^ 9 ∷ 1 ∷ 0 ∷ [] }; durations = record { size = 2; entries = 0 ∷ 4 * 10 ^ 9 ∷ 1 ∷ 0 ∷ [] } } ∷ [])
unfolding reader_on_literals
full_matrix = refl

exact_leg_too_long : read Exact (line (codes "DIMENSION : 2")
    ++ line (codes "EDGE_WEIGHT_TYPE : EXPLICIT")
    ++ line (codes "EDGE_WEIGHT_FORMAT : FULL_MATRIX")
    ++ line (codes "EDGE_WEIGHT_SECTION")
    ++ line (codes "0 4e9 1 0")) ≡ refused 5 Limit
unfolding reader_on_literals
exact_leg_too_long = refl

carriage_returns : read Round (line (codes "DIMENSION : 3" ++ 13 ∷ []) ++ line (codes "EDGE_WEIGHT_TYPE : EUC_2D" ++ 13 ∷ []) ++ line (codes "NODE_COORD_SECTION" ++ 13 ∷ []) ++ line (codes "1 0 0" ++ 13 ∷ []) ++ line (codes "2 0 1000000" ++ 13 ∷ []) ++ line (codes "3 1 0" ++ 13 ∷ [])) ≡ read Round (line (codes "DIMENSION : 3")
    ++ line (codes "EDGE_WEIGHT_TYPE : EUC_2D")
    ++ line (codes "NODE_COORD_SECTION")
    ++ line (codes "1 0 0")
    ++ line (codes "2 0 1000000")
    ++ line (codes "3 1 0"))
unfolding reader_on_literals
carriage_returns = refl
