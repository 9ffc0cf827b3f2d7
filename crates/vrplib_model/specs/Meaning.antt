-- The problem that a faultless text means. The lines of the text are given the nearest to its end first.
use Rattle.std.specs.Prelude.{ℕ, ◌==◌, List, map, drop, position, Option}
use Rattle.std.specs.List.{list_any}
use Rattle.problem_data.specs.declared.problem.Depot.{Depot}
use Rattle.problem_data.specs.declared.problem.Client.{Client}
use Rattle.problem_data.specs.declared.problem.Problem.{Problem}
use Rattle.vrp_num.specs.declared.rounding.Rounding.{Rounding}
use Rattle.vrplib_model.specs.Sections.{group_section}
use Rattle.vrplib_model.specs.LineKinds.{Line}
use Rattle.vrplib_model.specs.Rows.{rows_of, nodes_of}
use Rattle.vrplib_model.specs.Entries.{place_of, nodes, depot_nodes, client_nodes, coordinates, delivery, pickup, release, prize, window, depot_service, client_service}
use Rattle.vrplib_model.specs.Fleet.{types}
use Rattle.vrplib_model.specs.Legs.{profiles}

-- the groups, each a list of places
abbrev pub groups : Rounding → List Line → List (List ℕ)
groups mode lines = map (λ numbers. map place_of (nodes_of (drop 1 numbers))) (rows_of mode group_section lines)

-- the number of a node's group, from 0
abbrev pub group_of : Rounding → List Line → ℕ → Option ℕ
group_of mode lines node = position (λ places. list_any (λ place. place == place_of node) places) (groups mode lines)

-- the depot at a node
abbrev pub depot : Rounding → List Line → ℕ → Depot
depot mode lines node = record { window = window mode lines node; service = depot_service mode lines node }

-- the client at a node
abbrev pub client : Rounding → List Line → ℕ → Client
client mode lines node = record {
  delivery = delivery mode lines node;
  pickup = pickup mode lines node;
  window = window mode lines node;
  service = client_service mode lines node;
  release = release mode lines node;
  prize = prize mode lines node;
  group = group_of mode lines node;
}

-- the problem of a text
unfoldable pub problem_of : Rounding → List Line → Problem
problem_of mode lines = record {
  places = map (coordinates mode lines) (nodes mode lines);
  depots = map (depot mode lines) (depot_nodes mode lines);
  clients = map (client mode lines) (client_nodes mode lines);
  types = types mode lines;
  profiles = profiles mode lines;
  groups = groups mode lines;
}
