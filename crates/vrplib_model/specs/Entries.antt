-- What a text says of each node: the entry in the row of that node, in the section that gives it.
use Rattle.std.specs.Prelude.{ℕ, zero, suc, ◌+◌, ◌-◌, ◌==◌, if◌then◌else◌, List, [], ◌∷◌, length, find, ℤ, pos, Option, unwrap_or}
use Rattle.std.specs.Option.{option_map_or}
use Rattle.problem_data.specs.Limits.{largest}
use Rattle.problem_data.specs.declared.problem.Window.{Window}
use Rattle.problem_data.specs.declared.problem.Place.{Place}
use Rattle.vrp_num.specs.declared.rounding.Rounding.{Rounding}
use Rattle.vrplib_model.specs.Keywords.{service_time}
use Rattle.vrplib_model.specs.Sections.{Section, node_coord_section, demand_section, backhaul_section, time_window_section, service_time_section, release_time_section, prize_section, depot_section}
use Rattle.vrplib_model.specs.LineKinds.{Line}
use Rattle.vrplib_model.specs.Numbers.{int_at, number_at}
use Rattle.vrplib_model.specs.Values.{keyword_number, node_count}
use Rattle.vrplib_model.specs.Rows.{rows_of, numbers_of, nodes_of, has_section}

-- count numbers in a row, from the first on
abbrev pub counted : ℕ → ℕ → List ℕ
counted first zero = []
counted first (suc count) = first ∷ counted (first + 1) count

-- the nodes of the text, 1 to n
abbrev pub nodes : Rounding → List Line → List ℕ
nodes mode lines = counted 1 (node_count mode lines)

-- the place of a node
abbrev pub place_of : ℕ → ℕ
place_of node = node - 1

-- the row of a node in a section
abbrev pub row_at : Rounding → Section → List Line → ℕ → Option (List ℤ)
row_at mode s lines node = find (λ numbers. number_at 0 numbers == node) (rows_of mode s lines)

-- the k-th number in the row of a node, or another number where the section has no such row
abbrev pub entry : Rounding → Section → ℕ → ℕ → List Line → ℕ → ℕ
entry mode s k other lines node = option_map_or (number_at k) (row_at mode s lines node) other

-- the same of a number that may be negative
abbrev pub int_entry : Rounding → Section → ℕ → List Line → ℕ → ℤ
int_entry mode s k lines node = option_map_or (int_at k) (row_at mode s lines node) (pos 0)

-- the depots' nodes: those of the depot section, or node 1 where there is none
abbrev pub depot_nodes : Rounding → List Line → List ℕ
depot_nodes mode lines = if has_section depot_section lines then nodes_of (numbers_of mode depot_section lines) else 1 ∷ []

-- how many depots there are
abbrev pub depot_count : Rounding → List Line → ℕ
depot_count mode lines = length (depot_nodes mode lines)

-- how many clients there are
abbrev pub client_count : Rounding → List Line → ℕ
client_count mode lines = node_count mode lines - depot_count mode lines

-- the nodes of clients follow those of depots
abbrev pub client_nodes : Rounding → List Line → List ℕ
client_nodes mode lines = counted (depot_count mode lines + 1) (client_count mode lines)

-- the coordinates of a node, in millionths
abbrev pub coordinates : Rounding → List Line → ℕ → Place
coordinates mode lines node = record {
  x = int_entry mode node_coord_section 1 lines node;
  y = int_entry mode node_coord_section 2 lines node;
}

-- the delivery of a node
abbrev pub delivery : Rounding → List Line → ℕ → ℕ
delivery mode lines node = entry mode demand_section 1 0 lines node

-- the pickup of a node
abbrev pub pickup : Rounding → List Line → ℕ → ℕ
pickup mode lines node = entry mode backhaul_section 1 0 lines node

-- the release time of a node
abbrev pub release : Rounding → List Line → ℕ → ℕ
release mode lines node = entry mode release_time_section 1 0 lines node

-- the prize of a node
abbrev pub prize : Rounding → List Line → ℕ → ℕ
prize mode lines node = entry mode prize_section 1 0 lines node

-- the time window of a node
abbrev pub window : Rounding → List Line → ℕ → Window
window mode lines node = record {
  early = entry mode time_window_section 1 0 lines node;
  late = entry mode time_window_section 2 largest lines node;
}

-- the service of a depot, which is 0 where the section doesn't give it
abbrev pub depot_service : Rounding → List Line → ℕ → ℕ
depot_service mode lines node = entry mode service_time_section 1 0 lines node

-- the service of a client, which the keyword gives where the section doesn't
abbrev pub client_service : Rounding → List Line → ℕ → ℕ
client_service mode lines node = entry mode service_time_section 1 (unwrap_or (keyword_number mode service_time lines) 0) lines node
