-- Places, depots and clients of an accepted text are valid.
use Rattle.std.proofs.Common.{ℕ, ◌^◌, ◌≤◌, Bool, true, false, List, [], ◌∷◌, get_or, map, arith, ℤ, pos, Option, Some, None}
use Rattle.std.specs.Prelude.{◌==◌, unwrap_or, find, if◌then◌else◌}
use Rattle.std.specs.List.{AllByRecursion, All}
use Rattle.std.specs.Option.{IfSome, option_map_or}
use Rattle.std.proofs.lemmas.Int.{ints}
use Rattle.std.proofs.lemmas.List.Elements.{All-map, recursion_from_All}
use Rattle.problem_data.specs.Limits.{largest}
use Rattle.problem_data.specs.Valid.{IsValidPlace, IsValidWindow, IsValidDepot, IsValidClient}
use Rattle.vrp_num.specs.declared.rounding.Rounding.{Rounding}
use Rattle.vrplib_model.specs.LineKinds.{Line}
use Rattle.vrplib_model.specs.Keywords.{service_time}
use Rattle.vrplib_model.specs.Sections.{Section, node_coord_section, demand_section, backhaul_section, time_window_section, service_time_section, release_time_section, prize_section}
use Rattle.vrplib_model.specs.Numbers.{rounding, int_at, number_at}
use Rattle.vrplib_model.specs.Values.{keyword_number, node_count, value_tokens}
use Rattle.vrplib_model.specs.Rows.{rows_of}
use Rattle.vrplib_model.specs.Entries.{row_at, coordinates, nodes, depot_nodes, client_nodes}
use Rattle.vrplib_model.specs.Meaning.{depot, client}
use Rattle.vrplib_model.specs.inside.FaultlessRows.{IsRow, IsQuantityRow, IsCoordinateRow, IsWindowRow}
use Rattle.vrplib_model.proofs.SoundLines.{AreRead}
use Rattle.vrplib_model.proofs.WholeFacts.{between-size, value-holds}

-- a row that is found is one of the rows
first-holds : (P : List ℤ → Type 0) (here : Bool) (row : List ℤ) (found : Option (List ℤ)) → P row → IfSome found P → IfSome (if here then Some row else found) P
first-holds P true row found h rest = h
first-holds P false row found h rest = rest

found-holds : (P : List ℤ → Type 0) (test : List ℤ → Bool) (rows : List (List ℤ)) → AllByRecursion P rows → IfSome (find test rows) P
found-holds P test [] all = tt
found-holds P test (row ∷ rows) all = first-holds P (test row) row (find test rows) all.0 (found-holds P test rows all.1)

row-found : (mode : Rounding) (s : Section) (all : List Line) (node : ℕ) → AreRead mode all → IfSome (row_at mode s all node) (IsRow s (node_count mode all))
row-found mode s all node read =
    found-holds (IsRow s (node_count mode all)) (λ numbers. number_at 0 numbers == node) (rows_of mode s all)
    (recursion_from_All (IsRow s (node_count mode all)) (rows_of mode s all) (read.rows s).each)

-- what the rows give
quantity-small : (n other : ℕ) (row : Option (List ℤ)) → IfSome row (IsQuantityRow n) → other ≤ largest → option_map_or (number_at 1) row other ≤ largest
quantity-small n other None h small = small
quantity-small n other (Some row) h small = (between-size 0 (10 ^ 12) (int_at 1 row) h.quantity).1

window-valid : (n : ℕ) (row : Option (List ℤ)) → IfSome row (IsWindowRow n)
    → IsValidWindow (record { early = option_map_or (number_at 1) row 0; late = option_map_or (number_at 2) row (10 ^ 12) })
window-valid n None h = record { ordered = omega arith; late = omega arith }
window-valid n (Some row) h = record { ordered = h.ordered; late = (between-size 0 (10 ^ 12) (int_at 2 row) h.late).1 }

place-valid : (n : ℕ) (row : Option (List ℤ)) → IfSome row (IsCoordinateRow n)
    → IsValidPlace (record { x = option_map_or (int_at 1) row (pos 0); y = option_map_or (int_at 2) row (pos 0) })
place-valid n None h = record { x = omega (arith, ints); y = omega (arith, ints) }
place-valid n (Some row) h = record { x = h.x; y = h.y }

-- the keyword's service
common-service : (mode : Rounding) (all : List Line) → unwrap_or (keyword_number mode service_time all) 0 ≤ largest
common-service mode all =
    value-holds mode (rounding (10 ^ 12)) (λ n. n ≤ largest) 0 (value_tokens service_time all) (λ z b. (between-size 0 (10 ^ 12) z b).1) (omega arith)

depot-valid : (mode : Rounding) (all : List Line) → AreRead mode all → (node : ℕ) → IsValidDepot (depot mode all node)
depot-valid mode all read node =
    let n = node_count mode all in
    record {
      window = window-valid n (row_at mode time_window_section all node) (row-found mode time_window_section all node read);
      service = quantity-small n 0 (row_at mode service_time_section all node) (row-found mode service_time_section all node read) (omega arith);
    }

client-valid : (mode : Rounding) (all : List Line) → AreRead mode all → (node : ℕ) → IsValidClient (client mode all node)
client-valid mode all read node =
    let n = node_count mode all in
    record {
      delivery = quantity-small n 0 (row_at mode demand_section all node) (row-found mode demand_section all node read) (omega arith);
      pickup = quantity-small n 0 (row_at mode backhaul_section all node) (row-found mode backhaul_section all node read) (omega arith);
      window = window-valid n (row_at mode time_window_section all node) (row-found mode time_window_section all node read);
      service = quantity-small n (unwrap_or (keyword_number mode service_time all) 0) (row_at mode service_time_section all node)
          (row-found mode service_time_section all node read) (common-service mode all);
      release = quantity-small n 0 (row_at mode release_time_section all node) (row-found mode release_time_section all node read) (omega arith);
      prize = quantity-small n 0 (row_at mode prize_section all node) (row-found mode prize_section all node read) (omega arith);
    }

-- what is made of each node is valid
made-valid : {X : Type 0} (P : X → Type 0) (f : ℕ → X) (ns : List ℕ) → ((node : ℕ) → P (f node)) → All P (map f ns)
made-valid P f ns each = All-map P f ns (λ k d h. each (get_or ns k d))

pub places-valid : (mode : Rounding) (all : List Line) → AreRead mode all → All IsValidPlace (map (coordinates mode all) (nodes mode all))
places-valid mode all read = made-valid IsValidPlace (coordinates mode all) (nodes mode all)
    (λ node. place-valid (node_count mode all) (row_at mode node_coord_section all node) (row-found mode node_coord_section all node read))

pub depots-valid : (mode : Rounding) (all : List Line) → AreRead mode all → All IsValidDepot (map (depot mode all) (depot_nodes mode all))
depots-valid mode all read = made-valid IsValidDepot (depot mode all) (depot_nodes mode all) (depot-valid mode all read)

pub clients-valid : (mode : Rounding) (all : List Line) → AreRead mode all → All IsValidClient (map (client mode all) (client_nodes mode all))
clients-valid mode all read = made-valid IsValidClient (client mode all) (client_nodes mode all) (client-valid mode all read)
