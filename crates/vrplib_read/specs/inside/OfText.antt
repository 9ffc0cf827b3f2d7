-- What holds of each text that the reader's state stands for.
use Rattle.std.specs.Prelude.{ℕ, ◌<◌, ◌+◌, ◌*◌, ◌/◌, Bool, ◌&&◌, ◌||◌, ◌==◌, nat_lt, nat_le, if◌then◌else◌, List, [], ℤ, pos, negsuc, Option, Some, None, unwrap_or, length, bytes_eq, map, flat_map, drop}
use Rattle.std.specs.List.{list_any}
use Rattle.std.specs.Option.{option_map_or}
use Rattle.indexmap.specs.IndexMap.{get}
use Rattle.problem_data.specs.Limits.{largest_leg}
use Rattle.problem_data.specs.declared.problem.Place.{Place}
use Rattle.problem_data.specs.declared.problem.Profile.{Profile}
use Rattle.problem_data.specs.declared.problem.VehicleType.{VehicleType}
use Rattle.vrp_num.specs.declared.rounding.Rounding.{Rounding}
use Rattle.vrp_num.specs.Rounding.{distance}
use Rattle.vrplib_read.specs.declared.reading.Reading.{Reading}
use Rattle.vrplib_rows.specs.declared.weight_format.WeightFormat.{WeightFormat}
use Rattle.vrplib_rows.specs.declared.weight_format.WeightFormat.TheVariants.{FullMatrix, LowerRow}
use Rattle.vrplib_model.specs.LineKinds.{Line}
use Rattle.vrplib_model.specs.declared.section.Section.{Section}
use Rattle.vrplib_model.specs.declared.section.Section.TheVariants.{EdgeWeight as edge_weight_section}
use Rattle.vrplib_model.specs.Sections.{same_section}
use Rattle.vrplib_model.specs.Numbers.{number_at}
use Rattle.vrplib_model.specs.Rows.{nodes_of}
use Rattle.vrplib_model.specs.Entries.{place_of, counted, depot_nodes}
use Rattle.vrplib_rows.specs.KnownKeywords.{is_format}
use Rattle.vrplib_model.specs.Legs.{full_place, lower_place, upper_place}
use Rattle.vrplib_model.specs.WholeText.{has_other_depots, is_client_like}
use Rattle.vrplib_read.specs.inside.Stands.{Stands}

-- it holds of each text
abbrev pub OfText : Reading → (List Line → Type 0) → Type 0
OfText r P = (all : List Line) → Stands r.mode all r → P all

-- the number of nodes that is known
abbrev pub known_nodes : Reading → ℕ
known_nodes r = unwrap_or r.keywords.dimension 0

-- the rows of a section that are known
abbrev pub known_rows : Reading → Section → List (List ℤ)
known_rows r s = option_map_or (λ listed. listed.rows) (get same_section r.sections s) []

-- the places that a row of a group names
abbrev pub group_places : List ℤ → List ℕ
group_places numbers = map place_of (nodes_of (drop 1 numbers))

-- the numbers of the section of weights that are known
abbrev pub known_weights : Reading → List ℤ
known_weights r = flat_map (λ row. row) (known_rows r edge_weight_section)

-- the distance of two places
abbrev pub place_leg : Rounding → Place → Place → ℕ
place_leg mode a b = distance mode (a.x, a.y) (b.x, b.y)

-- where a leg stands among the weights of a format
abbrev pub place_by : Option WeightFormat → ℕ → ℕ → ℕ → ℕ
place_by format n i j =
    if is_format FullMatrix format then full_place n i j
    else (if is_format LowerRow format
    then (if nat_lt j i then lower_place i j else lower_place j i)
    else (if nat_lt i j then upper_place n i j else upper_place n j i))

-- the leg that the weights of a format give
abbrev pub weight_leg : Option WeightFormat → ℕ → List ℤ → ℕ → ℕ → ℕ
weight_leg format n weights i j = if i == j then 0 else number_at (place_by format n i j) weights

-- the leg is above the largest
abbrev pub is_long : ℕ → Bool
is_long leg = nat_lt largest_leg leg

-- legs times a factor, in thousandths, cut
abbrev pub scaled : ℕ → List ℕ → List ℕ
scaled factor legs = map (λ leg. leg * factor / 1000) legs

-- the profile that a row of factors gives over base legs
abbrev pub scaled_profile : ℕ → List ℕ → List ℤ → Profile
scaled_profile size legs numbers = record {
  distances = record { size = size; entries = scaled (number_at 1 numbers) legs };
  durations = record { size = size; entries = scaled (number_at 2 numbers) legs };
}

-- the count of nodes 1, 2 and so on behind one more number, where -1 is no node
abbrev pub next_count : ℕ → ℤ → Option ℕ
next_count count (negsuc _) = Some count
next_count count (pos n) = if n == count + 1 then Some (count + 1) else None

-- the nodes are 1, 2 and so on
abbrev pub are_first : List ℕ → Bool
are_first list = bytes_eq list (counted 1 (length list))

-- there are some, and fewer than n
abbrev pub are_first_below : ℕ → List ℕ → Bool
are_first_below n list = are_first list && nat_le 1 (length list) && nat_lt (length list) n

-- the depots aren't the first nodes, or are like clients
abbrev pub has_bad_depots : Rounding → List Line → Bool
has_bad_depots mode lines = has_other_depots mode lines || list_any (is_client_like mode lines) (depot_nodes mode lines)

-- a vehicle type starts and ends at places below n
abbrev pub StartsWithin : ℕ → VehicleType → Type 0
StartsWithin n t = (t.start < n) × (t.end < n)
