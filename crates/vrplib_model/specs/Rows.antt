-- The rows of each section in the lines read so far, which are given the nearest first.
use Rattle.std.specs.Prelude.{ℕ, ◌+◌, ◌-◌, Bool, false, if◌then◌else◌, List, [], ◌∷◌, ◌++◌, length, sum_by, replicate, flat_map, ℤ, pos, negsuc, Option, Some, None, bytes_eq}
use Rattle.std.specs.List.{list_any}
use Rattle.problem_data.specs.Limits.{largest, largest_leg, largest_unit_cost, most_profiles, most_reloads, most_vehicles, unlimited}
use Rattle.vrp_num.specs.declared.rounding.Rounding.{Rounding}
pub use Rattle.vrplib_model.specs.declared.position.Position.{Position}
pub use Rattle.vrplib_model.specs.declared.position.Position.TheVariants.{Outside as outside, PassedOver as passed_over, Within as within}
use Rattle.vrplib_model.specs.Sections.{Section, same_section, section_name, section_of, node_coord_section, demand_section, backhaul_section, time_window_section, service_time_section, release_time_section, prize_section, edge_weight_section, depot_section, group_section, profile_section, vehicle_types_section}
use Rattle.vrplib_model.specs.LineKinds.{Line, section_line, keyword_line, end_of_file, row}
use Rattle.vrplib_model.specs.Numbers.{Field, number, exactly, whole, between, rounding, rounding_or, coordinate, node_or_end, is_minus_one_token, field_values, numbers, number_at}
use Rattle.vrplib_model.specs.Values.{is_euclidean}

-- behind a section line; legs in the text are passed over where coordinates give them
abbrev pub opened : Option Section → List Line → Position
opened None older = passed_over
opened (Some edge_weight_section) older = if is_euclidean older then passed_over else within edge_weight_section
opened (Some s) older = within s

-- behind a row; -1 closes the depot section
abbrev pub after_row : List (List ℕ) → Position → Position
after_row tokens (within depot_section) = if list_any is_minus_one_token tokens then outside else within depot_section
after_row tokens position = position

-- where the line behind these stands
abbrev pub next_position : List Line → Position
next_position [] = outside
next_position (section_line key ∷ older) = opened (section_of key) older
next_position (keyword_line _ _ ∷ older) = outside
next_position (end_of_file ∷ older) = outside
next_position (row tokens ∷ older) = after_row tokens (next_position older)
next_position (_ ∷ older) = next_position older

-- a position is in this section
abbrev pub is_within : Section → Position → Bool
is_within s (within t) = same_section s t
is_within s _ = false

-- the number of vehicles in the rows of vehicle types
abbrev pub vehicle_count : List (List ℤ) → ℕ
vehicle_count rows = sum_by (number_at 1) rows

-- the fields of a section's row, given the rows before it and how many tokens it has
abbrev pub fields : Section → List (List ℤ) → ℕ → List Field
fields node_coord_section before n = number ∷ coordinate ∷ coordinate ∷ []
fields demand_section before n = number ∷ whole largest ∷ []
fields backhaul_section before n = number ∷ whole largest ∷ []
fields time_window_section before n = number ∷ rounding largest ∷ rounding largest ∷ []
fields service_time_section before n = number ∷ rounding largest ∷ []
fields release_time_section before n = number ∷ rounding largest ∷ []
fields prize_section before n = number ∷ rounding largest ∷ []
fields edge_weight_section before n = replicate n (rounding largest_leg)
fields depot_section before n = replicate n node_or_end
fields group_section before n = replicate n number
fields profile_section before n = exactly (length before + 1) ∷ whole 10000 ∷ whole 10000 ∷ []
fields vehicle_types_section before n =
    -- type, count, capacity, start, end
    number ∷ between 1 (most_vehicles - vehicle_count before) ∷ whole largest ∷ number ∷ number
    -- fixed, unit_distance, unit_duration
    ∷ rounding largest ∷ whole largest_unit_cost ∷ whole largest_unit_cost
    -- early, late, max_duration, max_distance
    ∷ rounding largest ∷ rounding_or largest largest ∷ rounding_or largest unlimited ∷ rounding_or largest unlimited
    -- profile, reloads, and the nodes of reload depots
    ∷ between 1 most_profiles ∷ whole most_reloads ∷ replicate (n - 14) number

-- the numbers of a row
abbrev pub row_numbers : Rounding → Section → List (List ℤ) → List (List ℕ) → List ℤ
row_numbers mode s before tokens = numbers (field_values mode (fields s before (length tokens)) tokens)

-- the rows of a section, in the order of the text
unfoldable pub rows_of : Rounding → Section → List Line → List (List ℤ)
rows_of mode s [] = []
rows_of mode s (row tokens ∷ older) =
    let rows = rows_of mode s older in
    if is_within s (next_position older) then rows ++ row_numbers mode s rows tokens ∷ [] else rows
rows_of mode s (_ ∷ older) = rows_of mode s older

-- a line opens the section
abbrev pub opens : Section → Line → Bool
opens s (section_line key) = bytes_eq (section_name s) key
opens s _ = false

-- some line opens the section
abbrev pub has_section : Section → List Line → Bool
has_section s lines = list_any (opens s) lines

-- the numbers of a section whose rows may be broken into lines anywhere
abbrev pub numbers_of : Rounding → Section → List Line → List ℤ
numbers_of mode s lines = flat_map (λ numbers. numbers) (rows_of mode s lines)

-- the nodes in rows of a depot section, without the -1
abbrev pub nodes_of : List ℤ → List ℕ
nodes_of [] = []
nodes_of (negsuc _ ∷ rest) = nodes_of rest
nodes_of (pos n ∷ rest) = n ∷ nodes_of rest
