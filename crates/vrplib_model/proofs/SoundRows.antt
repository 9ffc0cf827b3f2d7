-- What the faultless rows of a section are together.
use Rattle.std.proofs.Common.{◌≡◌, ℕ, ◌-◌, ◌<◌, ◌≤◌, false, List, [], ◌∷◌, ◌++◌, length, drop, refl, ◌∙◌, ap, arith, ℤ, None, append-nil}
use Rattle.std.specs.Prelude.{nat_le, ⊤, flat_map, nat_abs}
use Rattle.std.specs.List.{All}
use Rattle.std.proofs.lemmas.Bool.{leb-false, or_parts}
use Rattle.std.proofs.lemmas.Int.{ints}
use Rattle.std.proofs.lemmas.List.{length_push}
use Rattle.std.proofs.lemmas.List.Sums.{sum_by_push}
use Rattle.std.proofs.lemmas.List.Concat.{flat_map-append}
use Rattle.std.proofs.lemmas.List.Elements.{All-nil, All-push}
use Rattle.vrp_num.specs.declared.rounding.Rounding.{Rounding}
use Rattle.vrplib_model.specs.declared.rule.Rule.{Rule}
use Rattle.vrplib_model.specs.Numbers.{int_at, number_at}
use Rattle.vrplib_model.specs.Sections.{Section, node_coord_section, demand_section, backhaul_section, time_window_section, service_time_section, release_time_section, prize_section, edge_weight_section, depot_section, group_section, profile_section, vehicle_types_section}
use Rattle.vrplib_model.specs.Rows.{fields, row_numbers, nodes_of, vehicle_count}
use Rattle.vrplib_model.specs.RowFaults.{fault_of_row, nodes_named, has_other_reloads}
use Rattle.vrplib_model.specs.Checks.{has_repeated, broken_if}
use Rattle.vrplib_model.specs.inside.FaultlessRows.{IsBetween, IsRow}
use Rattle.vrplib_model.proofs.Distinct.{distinct-swap}
use Rattle.vrplib_model.proofs.RowBounds.{IsFaultless, faultless-row, row-is, numbers-in, at-in, broken_if-none}

-- reload depots differ, and there are some exactly where there may be reloads
abbrev pub IsOwnType : List ℤ → Type 0
IsOwnType row = (has_repeated (nodes_of (drop 14 row)) ≡ false) × (has_other_reloads (number_at 13 row) (drop 14 row) ≡ false)

-- what the rows are besides each being one of the section
abbrev pub FitTogether : Section → List (List ℤ) → Type 0
FitTogether group_section rows = (length rows ≤ 1024) × (has_repeated (flat_map (nodes_named group_section) rows) ≡ false)
FitTogether profile_section rows = length rows ≤ 4
FitTogether vehicle_types_section rows = (length rows ≤ 64) × (vehicle_count rows ≤ 2048) × All IsOwnType rows
FitTogether s rows = ⊤

-- the rows of a section, in a text of n nodes
pub record AreSound (s : Section) (n : ℕ) (rows : List (List ℤ)) : Type 0 where
  pub each : All (IsRow s n) rows
  pub together : FitTogether s rows

fit-none : (s : Section) → FitTogether s []
fit-none node_coord_section = tt
fit-none demand_section = tt
fit-none backhaul_section = tt
fit-none time_window_section = tt
fit-none service_time_section = tt
fit-none release_time_section = tt
fit-none prize_section = tt
fit-none edge_weight_section = tt
fit-none depot_section = tt
fit-none group_section = (omega arith, refl)
fit-none profile_section = omega arith
fit-none vehicle_types_section = (omega arith, omega arith, All-nil IsOwnType)

pub sound-none : (s : Section) (n : ℕ) → AreSound s n []
sound-none s n = record { each = All-nil (IsRow s n); together = fit-none s }

one_more-within : (most : ℕ) (rule : Rule) (rows : List (List ℤ)) (row : List ℤ) → broken_if (nat_le most (length rows)) rule ≡ None → length (rows ++ row ∷ []) ≤ most
one_more-within most rule rows row e =
    let below : length rows < most = leb-false _ _ (broken_if-none _ rule e) in
    omega (arith, below, length_push rows row)

named-more : (rows : List (List ℤ)) (row : List ℤ) → has_repeated (nodes_named group_section row ++ flat_map (nodes_named group_section) rows) ≡ false
    → has_repeated (flat_map (nodes_named group_section) (rows ++ row ∷ [])) ≡ false
named-more rows row e =
    let named : List ℤ → List ℕ = nodes_named group_section in
    let regrouped : flat_map named (rows ++ row ∷ []) ≡ flat_map named rows ++ named row =
    flat_map-append named rows (row ∷ []) ∙ ap (λ rest. flat_map named rows ++ rest) (append-nil (named row)) in
    ap has_repeated regrouped ∙ distinct-swap (named row) (flat_map named rows) e

count-more : (rows : List (List ℤ)) (row : List ℤ) → vehicle_count rows ≤ 2048 → IsBetween 1 (2048 - vehicle_count rows) (int_at 1 row) → vehicle_count (rows ++ row ∷ []) ≤ 2048
count-more rows row h b =
    let count : nat_abs (int_at 1 row) ≤ 2048 - vehicle_count rows = omega (arith, ints, b.least, b.most) in
    omega (arith, count, sum_by_push (number_at 1) rows row, h)

fit-more : (mode : Rounding) (s : Section) (tokens : List (List ℕ)) (n weights : ℕ) (rows : List (List ℤ)) → IsFaultless mode s tokens n weights rows
    → FitTogether s rows → FitTogether s (rows ++ row_numbers mode s rows tokens ∷ [])
fit-more mode node_coord_section tokens n weights rows h fit = tt
fit-more mode demand_section tokens n weights rows h fit = tt
fit-more mode backhaul_section tokens n weights rows h fit = tt
fit-more mode time_window_section tokens n weights rows h fit = tt
fit-more mode service_time_section tokens n weights rows h fit = tt
fit-more mode release_time_section tokens n weights rows h fit = tt
fit-more mode prize_section tokens n weights rows h fit = tt
fit-more mode edge_weight_section tokens n weights rows h fit = tt
fit-more mode depot_section tokens n weights rows h fit = tt
fit-more mode group_section tokens n weights rows h fit =
    let row = row_numbers mode group_section rows tokens in (
      one_more-within 1024 _ rows row h.within,
      named-more rows row (or_parts _ _ h.good_group).1,
    )
fit-more mode profile_section tokens n weights rows h fit = one_more-within 4 _ rows (row_numbers mode profile_section rows tokens) h.within
fit-more mode vehicle_types_section tokens n weights rows h fit =
    let row = row_numbers mode vehicle_types_section rows tokens in
    let tests = or_parts _ _ h.good_vehicle in
    let own : IsOwnType row = ((or_parts _ _ tests.0).1, tests.1) in
    let many = at-in 1 (fields vehicle_types_section rows (length tokens)) row (numbers-in mode vehicle_types_section tokens n weights rows h) in (
      one_more-within 64 _ rows row h.within,
      count-more rows row fit.1 many,
      All-push IsOwnType rows row fit.2 own,
    )

-- one faultless row more
pub sound-more : (mode : Rounding) (s : Section) (tokens : List (List ℕ)) (n weights : ℕ) (rows : List (List ℤ)) → fault_of_row mode s tokens n weights rows ≡ None
    → AreSound s n rows → AreSound s n (rows ++ row_numbers mode s rows tokens ∷ [])
sound-more mode s tokens n weights rows e sound = record {
  each = All-push (IsRow s n) rows (row_numbers mode s rows tokens) sound.each (row-is mode s tokens n weights rows e);
  together = fit-more mode s tokens n weights rows (faultless-row mode s tokens n weights rows e) sound.together;
}
