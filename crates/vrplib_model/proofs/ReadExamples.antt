-- Examples of what a text is read as, closed by computation.
use Rattle.std.proofs.Common.{◌≡◌, ℕ, ◌^◌, ◌*◌, [], ◌∷◌, ◌++◌, pos, refl, Ok, Err, codes, None, take, Result}
use Rattle.list_words.specs.Texts.{line}
use Rattle.problem_data.specs.declared.problem.Problem.{Problem}
use Rattle.problem_data.specs.declared.problem.Place.{Place}
use Rattle.problem_data.specs.declared.problem.Client.{Client}
use Rattle.problem_data.specs.declared.problem.Depot.{Depot}
use Rattle.problem_data.specs.declared.problem.VehicleType.{VehicleType}
use Rattle.vrp_num.specs.declared.rounding.Rounding.TheVariants.{Round}
use Rattle.vrplib_model.specs.declared.refusal.Refusal.{Refusal}
use Rattle.vrplib_model.specs.declared.rule.Rule.{Rule}
use Rattle.vrplib_model.specs.declared.rule.Rule.TheVariants.{NotText, NoKeyword, Repeated, Missing, BadNumber, RowCount, BadNode, Unsupported, Limit, BadDepot, EmptyWindow, BadGroup}
use Rattle.vrplib_model.specs.declared.rule.Key.TheVariants.{Dimension}
use Rattle.vrplib_model.specs.Reading.{read}
use Rattle.vrplib_model.proofs.OnLiterals.{reader_on_literals}
use Rattle.vrplib_model.proofs.ExampleTexts.{cut_with, three, three_with, tiny, tiny_with}

-- a refusal at a line, by a rule
abbrev refused : ℕ → Rule → Result Problem Refusal
refused at rule = Err (record { line = at; rule = rule })

-- a place at coordinates in whole units, a depot and a client of plain problems, and their one vehicle type
abbrev at : ℕ → ℕ → Place
at x y = record { x = pos (x * 10 ^ 6); y = pos (y * 10 ^ 6) }

abbrev open_depot : Depot
open_depot = record { window = record { early = 0; late = 10 ^ 12 }; service = 0 }

abbrev buyer : ℕ → Client
buyer q = record { delivery = q; pickup = 0; window = record { early = 0; late = 10 ^ 12 }; service = 0; release = 0; prize = 0; group = None }

abbrev one_type : ℕ → ℕ → VehicleType
one_type n q = record {
  count = n;
  capacity = q;
  start = 0;
  end = 0;
  fixed = 0;
  unit_distance = 1;
  unit_duration = 0;
  shift = record { early = 0; late = 10 ^ 12 };
  max_duration = 10 ^ 18;
  max_distance = 10 ^ 18;
  profile = 0;
  reloads = 0;
  reload_depots = [];
}

three_is_read : read Round three ≡ Ok (record {
  places = at 0 0 ∷ at 3 4 ∷ at 6 8 ∷ at 0 2 ∷ [];
  depots = open_depot ∷ [];
  clients = buyer 1 ∷ buyer 1 ∷ buyer 1 ∷ [];
  types = one_type 3 10 ∷ [];
  profiles = record { distances = record { size = 4; entries = 0 ∷ 5 ∷ 10 ∷ 2 ∷ 5 ∷ 0 ∷ 5 ∷ 4 ∷ 10 ∷ 5 ∷ 0 ∷ 8 ∷ 2 ∷ 4 ∷ 8 ∷ 0 ∷ [] }; durations = record { size = 4; entries = 0 ∷ 5 ∷ 10 ∷ 2 ∷ 5 ∷ 0 ∷ 5 ∷ 4 ∷ 10 ∷ 5 ∷ 0 ∷ 8 ∷ 2 ∷ 4 ∷ 8 ∷ 0 ∷ [] } } ∷ [];
  groups = [];
})
unfolding reader_on_literals
three_is_read = refl

tiny_is_read : read Round tiny ≡ Ok (record {
  places = at 0 0 ∷ at 3 4 ∷ at 0 5 ∷ [];
  depots = open_depot ∷ [];
  clients = buyer 7 ∷ buyer 8 ∷ [];
  types = one_type 2 10 ∷ [];
  profiles = record { distances = record { size = 3; entries = 0 ∷ 5 ∷ 5 ∷ 5 ∷ 0 ∷ 3 ∷ 5 ∷ 3 ∷ 0 ∷ [] }; durations = record { size = 3; entries = 0 ∷ 5 ∷ 5 ∷ 5 ∷ 0 ∷ 3 ∷ 5 ∷ 3 ∷ 0 ∷ [] } } ∷ [];
  groups = [];
})
unfolding reader_on_literals
tiny_is_read = refl

repeated_keyword : read Round (line (codes "DIMENSION : 3")
    ++ line (codes "DIMENSION : 3")) ≡ refused 2 Repeated
unfolding reader_on_literals
repeated_keyword = refl

stray_row : read Round (line (codes "7")) ≡ refused 1 NoKeyword
unfolding reader_on_literals
stray_row = refl

distance_keyword : read Round (line (codes "DISTANCE : 100")) ≡ refused 1 Unsupported
unfolding reader_on_literals
distance_keyword = refl

vehicles_section : read Round (line (codes "VEHICLES_DEPOT_SECTION")) ≡ refused 1 Unsupported
unfolding reader_on_literals
vehicles_section = refl

section_first : read Round (line (codes "DEMAND_SECTION")) ≡ refused 1 (Missing Dimension)
unfolding reader_on_literals
section_first = refl

empty_window : read Round (line (codes "DIMENSION : 2")
    ++ line (codes "TIME_WINDOW_SECTION")
    ++ line (codes "1 0 10")
    ++ line (codes "2 9 8")) ≡ refused 4 EmptyWindow
unfolding reader_on_literals
empty_window = refl

lower_row : read Round (line (codes "DIMENSION : 3")
    ++ line (codes "EDGE_WEIGHT_TYPE : EXPLICIT")
    ++ line (codes "EDGE_WEIGHT_FORMAT : LOWER_ROW")
    ++ line (codes "EDGE_WEIGHT_SECTION")
    ++ line (codes "5 6")
    ++ line (codes "7")) ≡ Ok (record {
      places = at 0 0 ∷ at 0 0 ∷ at 0 0 ∷ [];
      depots = open_depot ∷ [];
      clients = buyer 0 ∷ buyer 0 ∷ [];
      types = one_type 2 (10 ^ 12) ∷ [];
      profiles = record { distances = record { size = 3; entries = 0 ∷ 5 ∷ 6 ∷ 5 ∷ 0 ∷ 7 ∷ 6 ∷ 7 ∷ 0 ∷ [] }; durations = record { size = 3; entries = 0 ∷ 5 ∷ 6 ∷ 5 ∷ 0 ∷ 7 ∷ 6 ∷ 7 ∷ 0 ∷ [] } } ∷ [];
      groups = [];
    })
unfolding reader_on_literals
lower_row = refl

zero_byte : read Round (line (codes "NAME : a")
    ++ line (0 ∷ [])) ≡ refused 2 NotText
unfolding reader_on_literals
zero_byte = refl

two_values : read Round (line (codes "DIMENSION : 2 3")) ≡ refused 1 BadNumber
unfolding reader_on_literals
two_values = refl

small_dimension : read Round (line (codes "DIMENSION : 1")) ≡ refused 1 Limit
unfolding reader_on_literals
small_dimension = refl

huge_dimension : read Round (line (codes "DIMENSION : 1e1000")) ≡ refused 1 Limit
unfolding reader_on_literals
huge_dimension = refl

tiny_dimension : read Round (line (codes "DIMENSION : 1e-1000")) ≡ refused 1 BadNumber
unfolding reader_on_literals
tiny_dimension = refl

behind_minus_one : read Round (line (codes "DIMENSION : 2")
    ++ line (codes "DEPOT_SECTION")
    ++ line (codes "-1 1")) ≡ refused 3 RowCount
unfolding reader_on_literals
behind_minus_one = refl

short_row : read Round (line (codes "DIMENSION : 2")
    ++ line (codes "NODE_COORD_SECTION")
    ++ line (codes "1 0")) ≡ refused 3 RowCount
unfolding reader_on_literals
short_row = refl

short_section : read Round (line (codes "DIMENSION : 2")
    ++ line (codes "NODE_COORD_SECTION")
    ++ line (codes "1 0 0")
    ++ line (codes "EOF")) ≡ refused 4 RowCount
unfolding reader_on_literals
short_section = refl

node_outside : read Round (line (codes "DIMENSION : 2")
    ++ line (codes "DEMAND_SECTION")
    ++ line (codes "3 1")) ≡ refused 3 BadNode
unfolding reader_on_literals
node_outside = refl

negative_prize : read Round (line (codes "DIMENSION : 2")
    ++ line (codes "PRIZE_SECTION")
    ++ line (codes "1 0")
    ++ line (codes "2 -1")) ≡ refused 4 BadNumber
unfolding reader_on_literals
negative_prize = refl

weight_too_many : read Round (line (codes "DIMENSION : 2")
    ++ line (codes "EDGE_WEIGHT_TYPE : EXPLICIT")
    ++ line (codes "EDGE_WEIGHT_FORMAT : FULL_MATRIX")
    ++ line (codes "EDGE_WEIGHT_SECTION")
    ++ line (codes "0 1 1")
    ++ line (codes "0 5")) ≡ refused 6 RowCount
unfolding reader_on_literals
weight_too_many = refl

weight_too_few : read Round (line (codes "DIMENSION : 2")
    ++ line (codes "EDGE_WEIGHT_TYPE : EXPLICIT")
    ++ line (codes "EDGE_WEIGHT_FORMAT : FULL_MATRIX")
    ++ line (codes "EDGE_WEIGHT_SECTION")
    ++ line (codes "0 1 1")) ≡ refused 6 RowCount
unfolding reader_on_literals
weight_too_few = refl

depot_demand : read Round (three_with (codes "1 4")) ≡ refused 0 BadDepot
unfolding reader_on_literals
depot_demand = refl

depot_in_group : read Round (tiny_with (codes "DIMENSION : \t3") (line (codes "MUTUALLY_EXCLUSIVE_GROUP_SECTION") ++ line (codes "1 1"))) ≡ refused 0 BadGroup
unfolding reader_on_literals
depot_in_group = refl

only_end : read Round (line (codes "EOF")) ≡ refused 0 (Missing Dimension)
unfolding reader_on_literals
only_end = refl

many_nodes : read Round (tiny_with (codes "DIMENSION : 2049") []) ≡ refused 4 Limit
unfolding reader_on_literals
many_nodes = refl

cut : read Round (cut_with (codes "DIMENSION : \t3")) ≡ refused 14 RowCount
unfolding reader_on_literals
cut = refl

nothing : read Round [] ≡ refused 0 (Missing Dimension)
unfolding reader_on_literals
nothing = refl

shortest_prefix : read Round (take 181 tiny) ≡ read Round tiny
unfolding reader_on_literals
shortest_prefix = refl

one_byte_less : read Round (take 180 tiny) ≡ refused 14 RowCount
unfolding reader_on_literals
one_byte_less = refl
