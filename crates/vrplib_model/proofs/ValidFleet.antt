-- The vehicle types of an accepted text are valid.
use Rattle.std.proofs.Common.{◌≡◌, ℕ, ◌+◌, ◌^◌, ◌<◌, ◌≤◌, inl, inr, ◌↔◌, true, false, List, [], ◌∷◌, length, drop, map, refl, sym, ◌∙◌, ap, subst, arith, ℤ}
use Rattle.std.specs.Prelude.{◌&&◌, nat_lt, nat_eq, nat_abs, max, min, unwrap_or, slice_get, sum_by}
use Rattle.std.specs.List.{AllByRecursion, All, IsDistinct, list_all}
use Rattle.std.proofs.lemmas.Bool.{ltb-true, ltb-false, eqb-false, and_parts, or_parts, not-false, cond_both}
use Rattle.std.proofs.lemmas.List.{length-map}
use Rattle.std.proofs.lemmas.List.Sums.{AllPass-from_list_all}
use Rattle.std.proofs.lemmas.List.Folds.{fold-map}
use Rattle.std.proofs.lemmas.List.Elements.{All-from_recursion, recursion_from_All, All-weaker}
use Rattle.problem_data.specs.declared.problem.Window.{Window}
use Rattle.problem_data.specs.declared.problem.Depot.{Depot}
use Rattle.problem_data.specs.declared.problem.VehicleType.{VehicleType}
use Rattle.problem_data.specs.Limits.{largest, largest_unit_cost, most_reloads}
use Rattle.problem_data.specs.Places.{depot_at}
use Rattle.problem_data.specs.Valid.{IsValidWindow, IsValidMaximum, IsValidType, Meets}
use Rattle.vrp_num.specs.declared.rounding.Rounding.{Rounding}
use Rattle.vrplib_model.specs.LineKinds.{Line}
use Rattle.vrplib_model.specs.Keywords.{capacity, vehicles, max_duration, max_distance}
use Rattle.vrplib_model.specs.Sections.{vehicle_types_section}
use Rattle.vrplib_model.specs.Numbers.{whole, between, rounding, int_at, number_at}
use Rattle.vrplib_model.specs.Values.{node_count, value_tokens}
use Rattle.vrplib_model.specs.Rows.{rows_of, nodes_of, has_section}
use Rattle.vrplib_model.specs.RowFaults.{has_other_reloads}
use Rattle.vrplib_model.specs.Entries.{place_of, depot_nodes, depot_count, client_count, window}
use Rattle.vrplib_model.specs.Fleet.{type_of_row, only_type, types}
use Rattle.vrplib_model.specs.Legs.{profiles}
use Rattle.vrplib_model.specs.Meaning.{depot, problem_of}
use Rattle.vrplib_model.specs.WholeText.{is_depot_place, has_wrong_reference, are_apart, has_missed_shift}
use Rattle.vrplib_model.specs.inside.FaultlessRows.{IsBetween, IsMaximum, IsTypeRow}
use Rattle.vrplib_model.proofs.SoundRows.{IsOwnType}
use Rattle.vrplib_model.proofs.SoundLines.{AreRead}
use Rattle.vrplib_model.proofs.WholeFacts.{PassesWhole, between-size, value-holds, few-nodes, each-then, each-of, made-at}
use Rattle.vrplib_model.proofs.NamedNodes.{nodes-are, length-nodes, places-differ, distinct-is}

-- what a type is by itself
pub record IsSoundType (t : VehicleType) : Type 0 where
  pub count : 1 ≤ t.count
  pub capacity : t.capacity ≤ largest
  pub fixed : t.fixed ≤ largest
  pub unit_distance : t.unit_distance ≤ largest_unit_cost
  pub unit_duration : t.unit_duration ≤ largest_unit_cost
  pub shift : IsValidWindow t.shift
  pub max_duration : IsValidMaximum t.max_duration
  pub max_distance : IsValidMaximum t.max_distance
  pub reloads : t.reloads ≤ most_reloads
  pub distinct : IsDistinct nat_eq t.reload_depots
  pub offered : (1 ≤ t.reloads) ↔ (1 ≤ length t.reload_depots)

maximum-valid : (z : ℤ) → IsMaximum z → IsValidMaximum (nat_abs z)
maximum-valid z (inl b) = inl (between-size 0 (10 ^ 12) z b).1
maximum-valid z (inr e) = inr (ap nat_abs e)

offered-by : (n reloads : ℕ) (zs : List ℤ) → AllByRecursion (IsBetween 1 n) zs → has_other_reloads reloads zs ≡ false → (1 ≤ reloads) ↔ (1 ≤ length (map place_of (nodes_of zs)))
offered-by n reloads [] all e = let none : reloads ≤ 0 = ltb-false 0 reloads e in (λ h. omega (arith, none, h), λ h. absurd (omega arith))
offered-by n reloads (z ∷ zs) all e =
    let some : reloads ≡ 0 → ⊥ = eqb-false reloads 0 e in
    let many = length-nodes n (z ∷ zs) all in
    let same = length-map (nodes_of (z ∷ zs)) place_of in
    (λ h. omega (arith, many, same), λ h. omega (arith, some))

row-sound : (n : ℕ) (row : List ℤ) → IsTypeRow n row → IsOwnType row → IsSoundType (type_of_row row)
row-sound n row h own =
    let stops = recursion_from_All (IsBetween 1 n) (drop 14 row) h.depots in
    record {
      count = (between-size 1 2048 (int_at 1 row) h.count).0;
      capacity = (between-size 0 (10 ^ 12) (int_at 2 row) h.capacity).1;
      fixed = (between-size 0 (10 ^ 12) (int_at 5 row) h.fixed).1;
      unit_distance = (between-size 0 (10 ^ 6) (int_at 6 row) h.unit_distance).1;
      unit_duration = (between-size 0 (10 ^ 6) (int_at 7 row) h.unit_duration).1;
      shift = record { ordered = h.ordered; late = (between-size 0 (10 ^ 12) (int_at 9 row) h.late).1 };
      max_duration = maximum-valid (int_at 10 row) h.max_duration;
      max_distance = maximum-valid (int_at 11 row) h.max_distance;
      reloads = (between-size 0 32 (int_at 13 row) h.reloads).1;
      distinct = distinct-is (map place_of (nodes_of (drop 14 row))) (places-differ n (nodes_of (drop 14 row)) (nodes-are n (drop 14 row) stops) own.0);
      offered = offered-by n (number_at 13 row) (drop 14 row) stops own.1;
    }

-- the one type where no row gives one
only-sound : (mode : Rounding) (all : List Line) → PassesWhole mode all → IsSoundType (only_type mode all)
unfolding IsDistinct
only-sound mode all passes =
    let some : 1 ≤ client_count mode all = omega (arith, passes.some_client) in
    record {
      count = value-holds mode (between 1 2048) (λ n. 1 ≤ n) (client_count mode all) (value_tokens vehicles all) (λ z b. (between-size 1 2048 z b).0) some;
      capacity = value-holds mode (whole (10 ^ 12)) (λ n. n ≤ largest) (10 ^ 12) (value_tokens capacity all) (λ z b. (between-size 0 (10 ^ 12) z b).1) (omega arith);
      fixed = omega arith;
      unit_distance = omega arith;
      unit_duration = omega arith;
      shift = record { ordered = omega arith; late = omega arith };
      max_duration = value-holds mode (rounding (10 ^ 12)) IsValidMaximum (10 ^ 18) (value_tokens max_duration all) (λ z b. inl (between-size 0 (10 ^ 12) z b).1) (inr refl);
      max_distance = value-holds mode (rounding (10 ^ 12)) IsValidMaximum (10 ^ 18) (value_tokens max_distance all) (λ z b. inl (between-size 0 (10 ^ 12) z b).1) (inr refl);
      reloads = omega arith;
      distinct = tt;
      offered = (λ h. h, λ h. h);
    }

rows-sound : (n : ℕ) (rows : List (List ℤ)) → AllByRecursion (IsTypeRow n) rows → AllByRecursion IsOwnType rows → AllByRecursion IsSoundType (map type_of_row rows)
rows-sound n [] all own = tt
rows-sound n (row ∷ rows) all own = (row-sound n row all.0 own.0, rows-sound n rows all.1 own.1)

types-sound : (mode : Rounding) (all : List Line) → AreRead mode all → PassesWhole mode all → AllByRecursion IsSoundType (types mode all)
types-sound mode all read passes =
    let n = node_count mode all in
    let rows = rows_of mode vehicle_types_section all in
    let sound = read.rows vehicle_types_section in
    cond_both (has_section vehicle_types_section all) (map type_of_row rows) (only_type mode all ∷ []) (AllByRecursion IsSoundType)
    (λ _. rows-sound n rows (recursion_from_All (IsTypeRow n) rows sound.each) (recursion_from_All IsOwnType rows sound.together.2))
    (λ _. (only-sound mode all passes, tt))

-- how many there are
pub some-type : (mode : Rounding) (all : List Line) → AreRead mode all → 1 ≤ length (types mode all)
some-type mode all read =
    let rows = rows_of mode vehicle_types_section all in
    cond_both (has_section vehicle_types_section all) (map type_of_row rows) (only_type mode all ∷ []) (λ ts. 1 ≤ length ts)
    (λ e. omega (arith, length-map rows type_of_row, read.some_type e)) (λ _. omega arith)

pub few-types : (mode : Rounding) (all : List Line) → AreRead mode all → length (types mode all) ≤ 64
few-types mode all read =
    let rows = rows_of mode vehicle_types_section all in
    cond_both (has_section vehicle_types_section all) (map type_of_row rows) (only_type mode all ∷ []) (λ ts. length ts ≤ 64)
    (λ _. omega (arith, length-map rows type_of_row, (read.rows vehicle_types_section).together.0)) (λ _. omega arith)

pub few-vehicles : (mode : Rounding) (all : List Line) → AreRead mode all → sum_by (λ t. t.count) (types mode all) ≤ 2048
few-vehicles mode all read =
    let rows = rows_of mode vehicle_types_section all in
    let least : client_count mode all ≤ 2048 = omega (arith, few-nodes mode all) in
    let only : (only_type mode all).count ≤ 2048 = value-holds mode (between 1 2048) (λ n. n ≤ 2048) (client_count mode all) (value_tokens vehicles all) (λ z b. (between-size 1 2048 z b).1) least in
    cond_both (has_section vehicle_types_section all) (map type_of_row rows) (only_type mode all ∷ []) (λ ts. sum_by (λ t. t.count) ts ≤ 2048)
    (λ _. omega (arith, fold-map (λ a (t : VehicleType). a + t.count) type_of_row 0 rows, (read.rows vehicle_types_section).together.1)) (λ _. omega (arith, only))

-- the window of a depot's place
depot-window : (mode : Rounding) (all : List Line) → PassesWhole mode all → (place : ℕ) → place < depot_count mode all → (depot_at (problem_of mode all) place).window ≡ window mode all (place + 1)
unfolding problem_of
depot-window mode all passes place h =
    let other : Depot = record { window = record { early = 0; late = 0 }; service = 0 } in
    let found : depot_at (problem_of mode all) place ≡ depot mode all (1 + place) =
    ap (λ ns. unwrap_or (slice_get (map (depot mode all) ns) place) other) passes.depots ∙ made-at (depot mode all) 1 (depot_count mode all) place other h in
    ap (λ (x : Depot). x.window) found ∙ ap (window mode all) (omega arith)

meets : (v w : Window) → are_apart v w ≡ false → Meets v w
meets v w e = ltb-false (min v.late w.late) (max v.early w.early) e

meets-depot : (mode : Rounding) (all : List Line) → PassesWhole mode all → (shift : Window) (place : ℕ) → place < depot_count mode all → are_apart shift (window mode all (place + 1)) ≡ false
    → Meets shift (depot_at (problem_of mode all) place).window
meets-depot mode all passes shift place h e = subst (Meets shift) (sym (depot-window mode all passes place h)) (meets shift (window mode all (place + 1)) e)

type-valid : (mode : Rounding) (all : List Line) → PassesWhole mode all → (t : VehicleType) → IsSoundType t
    → has_wrong_reference (depot_count mode all) (length (profiles mode all)) t ≡ false → has_missed_shift mode all t ≡ false → IsValidType (problem_of mode all) t
unfolding problem_of
type-valid mode all passes t sound reference shift =
    let d = depot_count mode all in
    let count : length (map (depot mode all) (depot_nodes mode all)) ≡ d = length-map (depot_nodes mode all) (depot mode all) in
    let profile_there = nat_lt t.profile (length (profiles mode all)) in
    let stops_there = list_all (is_depot_place d) t.reload_depots in
    let right = and_parts (is_depot_place d t.start && is_depot_place d t.end && stops_there) profile_there (not-false _ reference) in
    let depots = and_parts (is_depot_place d t.start && is_depot_place d t.end) stops_there right.0 in
    let ends = and_parts (is_depot_place d t.start) (is_depot_place d t.end) depots.0 in
    let start : t.start < d = ltb-true t.start d ends.0 in
    let end : t.end < d = ltb-true t.end d ends.1 in
    let apart = or_parts (are_apart t.shift (window mode all (t.start + 1))) (are_apart t.shift (window mode all (t.end + 1))) shift in
    record {
      count = sound.count;
      capacity = sound.capacity;
      start = omega (arith, start, count);
      end = omega (arith, end, count);
      fixed = sound.fixed;
      unit_distance = sound.unit_distance;
      unit_duration = sound.unit_duration;
      shift = sound.shift;
      max_duration = sound.max_duration;
      max_distance = sound.max_distance;
      profile = ltb-true t.profile (length (profiles mode all)) right.1;
      reloads = sound.reloads;
      reload_depots = All-weaker (λ place. is_depot_place d place ≡ true) (λ place. place < length (map (depot mode all) (depot_nodes mode all)))
          (λ place e. let below : place < d = ltb-true place d e in omega (arith, below, count)) t.reload_depots (AllPass-from_list_all (is_depot_place d) t.reload_depots depots.1);
      distinct = sound.distinct;
      offered = sound.offered;
      starts = meets-depot mode all passes t.shift t.start start apart.0;
      ends = meets-depot mode all passes t.shift t.end end apart.1;
    }

pub types-valid : (mode : Rounding) (all : List Line) → AreRead mode all → PassesWhole mode all → All (IsValidType (problem_of mode all)) (types mode all)
types-valid mode all read passes =
    let ts = types mode all in
    let Refers : VehicleType → Type 0 = λ t. has_wrong_reference (depot_count mode all) (length (profiles mode all)) t ≡ false in
    let MeetsShift : VehicleType → Type 0 = λ t. has_missed_shift mode all t ≡ false in
    let IsValidHere : VehicleType → Type 0 = IsValidType (problem_of mode all) in
    let sound = each-then IsSoundType (λ t. Refers t → MeetsShift t → IsValidHere t) ts
    (each-of (λ t. IsSoundType t → Refers t → MeetsShift t → IsValidHere t) ts (type-valid mode all passes)) (types-sound mode all read passes) in
    let referring = each-then Refers (λ t. MeetsShift t → IsValidHere t) ts sound passes.references in
    All-from_recursion IsValidHere ts (each-then MeetsShift IsValidHere ts referring passes.shifts)
