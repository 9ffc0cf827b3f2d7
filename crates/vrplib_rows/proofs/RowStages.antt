-- The fault of a row, stage by stage: its shape, its tokens, its numbers.
use Rattle.std.proofs.Common.{◌≡◌, ◌+◌, ℕ, Bool, true, false, not, ◌&&◌, List, [], ◌∷◌, ◌++◌, length, get_or, take, refl, sym, ◌∙◌, ap, subst, arith, ℤ, Option, Some, None, cond, eqb}
use Rattle.std.specs.Prelude.{All, flat_map, is_some, slice_get, slice_index}
use Rattle.std.proofs.lemmas.Bool.{or_parts}
use Rattle.std.proofs.lemmas.List.{length-append, take_more}
use Rattle.std.proofs.lemmas.List.Elements.{All-push}
use Rattle.std.proofs.lemmas.List.Sums.{sum_by-append}
use Rattle.std.proofs.lemmas.Option.{get_or_from_slice_get, slice_get_within}
use Rattle.vrp_num.specs.declared.rounding.Rounding.{Rounding}
use Rattle.vrplib_model.specs.declared.rule.Rule.{Rule}
use Rattle.vrplib_model.specs.declared.rule.Rule.TheVariants.{RowCount, BadNode, EmptyWindow, BadVehicle, BadGroup}
use Rattle.vrplib_model.specs.Checks.{broken_if, contains, first_of, has_repeated}
use Rattle.vrplib_rows.specs.inside.RowTables.{AreOwned, EndInOrder, IsKeptAs, names_apart, rows_cut}
use Rattle.vrplib_model.specs.inside.FaultlessRows.{IsRow}
use Rattle.vrplib_rows.specs.KeptRows.{Listed}
use Rattle.vrplib_rows.specs.inside.NextRows.{Follows, later_fault, numbers_fault, token_fault}
use Rattle.vrplib_rows.specs.declared.next_row.NextRow.{NextRow}
use Rattle.vrplib_model.specs.Numbers.{number_at}
use Rattle.vrplib_model.specs.RowFaults.{excess, fault_of_row, has_bad_node, has_empty_window, has_right_length, is_bad_group, is_bad_vehicle, nodes_named}
use Rattle.vrplib_model.specs.Rows.{row_numbers, vehicle_count}
use Rattle.vrplib_model.specs.declared.section.Section.{Section}
use Rattle.vrplib_model.specs.declared.section.Section.TheVariants.{NodeCoord as node_coord_section, Demand as demand_section, Backhaul as backhaul_section, TimeWindow as time_window_section, ServiceTime as service_time_section, ReleaseTime as release_time_section, Prize as prize_section, EdgeWeight as edge_weight_section, Depot as depot_section, Group as group_section, Profile as profile_section, VehicleTypes as vehicle_types_section}
use Rattle.vrplib_rows.proofs.CutRows.{ordered_more, rows_cut-append}
use Rattle.vrplib_model.proofs.RowBounds.{row-is}
use Rattle.vrplib_rows.proofs.RowOwners.{owned_more}

-- the fault of a row's number of tokens, or of one row too many
abbrev pub shape_fault : Section → List (List ℕ) → ℕ → ℕ → List (List ℤ) → Option Rule
shape_fault s tokens nodes weights rows = first_of (broken_if (not (has_right_length s tokens)) RowCount ∷ excess s tokens nodes weights rows ∷ [])

some_of_two : (a b : Option Rule) (more : List (Option Rule)) (rule : Rule) → Some rule ≡ first_of (a ∷ b ∷ []) → Some rule ≡ first_of (a ∷ b ∷ more)
some_of_two (Some r) b more rule e = e
some_of_two None (Some r) more rule e = e
some_of_two None None more rule e = cc

none_of_two : (a b : Option Rule) (more : List (Option Rule)) → None ≡ first_of (a ∷ b ∷ []) → first_of (a ∷ b ∷ more) ≡ first_of more
none_of_two (Some r) b more e = cc
none_of_two None (Some r) more e = cc
none_of_two None None more e = refl

some_of_one : (a : Option Rule) (more : List (Option Rule)) (rule : Rule) → Some rule ≡ a → Some rule ≡ first_of (a ∷ more)
some_of_one a more rule e = let P : Option Rule → Type 0 = λ x. Some rule ≡ first_of (x ∷ more) in subst P e refl

pub by_shape : (mode : Rounding) (s : Section) (tokens : List (List ℕ)) (nodes weights : ℕ) (rows : List (List ℤ)) (rule : Rule)
    → Some rule ≡ shape_fault s tokens nodes weights rows → Some rule ≡ fault_of_row mode s tokens nodes weights rows
unfolding fault_of_row
by_shape mode s tokens nodes weights rows rule e = some_of_two (broken_if (not (has_right_length s tokens)) RowCount) (excess s tokens nodes weights rows) _ rule e

pub by_token : (mode : Rounding) (s : Section) (tokens : List (List ℕ)) (nodes weights : ℕ) (rows : List (List ℤ)) (rule : Rule)
    → None ≡ shape_fault s tokens nodes weights rows → Some rule ≡ token_fault mode s tokens rows → Some rule ≡ fault_of_row mode s tokens nodes weights rows
unfolding fault_of_row
by_token mode s tokens nodes weights rows rule e f =
    some_of_one (token_fault mode s tokens rows) _ rule f ∙ sym (none_of_two (broken_if (not (has_right_length s tokens)) RowCount) (excess s tokens nodes weights rows) _ e)

pub by_numbers : (mode : Rounding) (s : Section) (tokens : List (List ℕ)) (nodes weights : ℕ) (rows : List (List ℤ)) (row : List ℤ) (fault : Option Rule)
    → None ≡ shape_fault s tokens nodes weights rows → None ≡ token_fault mode s tokens rows → row ≡ row_numbers mode s rows tokens → fault ≡ numbers_fault nodes s row rows
    → fault ≡ fault_of_row mode s tokens nodes weights rows
unfolding fault_of_row
by_numbers mode s tokens nodes weights rows row fault e f is n =
    n ∙ ap (λ r. numbers_fault nodes s r rows) is
    ∙ ap (λ x. first_of (x ∷ broken_if (has_bad_node nodes s (row_numbers mode s rows tokens) rows) BadNode ∷ broken_if (has_empty_window s (row_numbers mode s rows tokens)) EmptyWindow
    ∷ broken_if (is_bad_vehicle s (row_numbers mode s rows tokens) rows) BadVehicle ∷ broken_if (is_bad_group s (row_numbers mode s rows tokens) rows) BadGroup ∷ [])) f
    ∙ sym (none_of_two (broken_if (not (has_right_length s tokens)) RowCount) (excess s tokens nodes weights rows) _ e)

first_of_one : (x : Option Rule) → first_of (x ∷ []) ≡ x
first_of_one None = refl
first_of_one (Some rule) = refl

behind_first : (x : Option Rule) (more : List (Option Rule)) → first_of (x ∷ first_of more ∷ []) ≡ first_of (x ∷ more)
behind_first None more = first_of_one (first_of more)
behind_first (Some rule) more = refl

-- the fault of a row by its tokens and numbers, behind its shape
pub later_stage : (mode : Rounding) (next : NextRow) (tokens : List (List ℕ)) (weights nodes : ℕ) (l : Listed) (rule : Rule) → next.section ≡ l.section → Follows next l.rows → None ≡ shape_fault l.section tokens l.nodes weights l.rows
    → nodes ≡ l.nodes → ((rows : List (List ℤ)) → Follows next rows → Some rule ≡ later_fault mode next.section tokens nodes rows) → Some rule ≡ fault_of_row mode l.section tokens l.nodes weights l.rows
unfolding fault_of_row
later_stage mode next tokens weights nodes l rule at follows shaped n later =
    later l.rows follows ∙ ap (λ m. later_fault mode next.section tokens m l.rows) n ∙ ap (λ s. later_fault mode s tokens l.nodes l.rows) at ∙ behind_first (token_fault mode l.section tokens l.rows) _
    ∙ sym (none_of_two (broken_if (not (has_right_length l.section tokens)) RowCount) (excess l.section tokens l.nodes weights l.rows) _ shaped)

unbroken : (b : Bool) (rule : Rule) (more : List (Option Rule)) → None ≡ first_of (broken_if b rule ∷ more) → (b ≡ false) × (None ≡ first_of more)
unbroken true rule more e = absurd cc
unbroken false rule more e = (refl, e)

group_passed : (bad group : Bool) → None ≡ first_of (broken_if bad BadNode ∷ None ∷ None ∷ broken_if group BadGroup ∷ []) → group ≡ false
group_passed true group e = absurd cc
group_passed false true e = absurd cc
group_passed false false e = refl

-- the nodes of a row without a fault come in no row twice
pub apart_from : (nodes : ℕ) (s : Section) (row : List ℤ) (rows : List (List ℤ)) → None ≡ numbers_fault nodes s row rows → names_apart s ≡ true → has_repeated (nodes_named s row ++ flat_map (nodes_named s) rows) ≡ false
apart_from nodes node_coord_section row rows e t = let first = unbroken _ _ _ e in let parts = or_parts _ _ first.0 in parts.1
apart_from nodes demand_section row rows e t = let first = unbroken _ _ _ e in let parts = or_parts _ _ first.0 in parts.1
apart_from nodes backhaul_section row rows e t = let first = unbroken _ _ _ e in let parts = or_parts _ _ first.0 in parts.1
apart_from nodes time_window_section row rows e t = let first = unbroken _ _ _ e in let parts = or_parts _ _ first.0 in parts.1
apart_from nodes service_time_section row rows e t = let first = unbroken _ _ _ e in let parts = or_parts _ _ first.0 in parts.1
apart_from nodes release_time_section row rows e t = let first = unbroken _ _ _ e in let parts = or_parts _ _ first.0 in parts.1
apart_from nodes prize_section row rows e t = let first = unbroken _ _ _ e in let parts = or_parts _ _ first.0 in parts.1
apart_from nodes depot_section row rows e t = let first = unbroken _ _ _ e in let parts = or_parts _ _ first.0 in parts.1
apart_from nodes edge_weight_section row rows e t = absurd cc
apart_from nodes profile_section row rows e t = absurd cc
apart_from nodes vehicle_types_section row rows e t = absurd cc
apart_from nodes group_section row rows e t =
    let parts = or_parts (not (eqb (number_at 0 row) (length rows + 1))) (has_repeated (nodes_named group_section row ++ flat_map (nodes_named group_section) rows))
    (group_passed (has_bad_node nodes group_section row rows) (is_bad_group group_section row rows) e) in
    parts.1

-- the rows with one row more
pub cut_more : (numbers more row : List ℤ) (ends next : List ℕ) → EndInOrder 0 ends (length numbers) → more ≡ numbers ++ row → next ≡ ends ++ (length numbers + length row) ∷ []
    → rows_cut 0 next more ≡ rows_cut 0 ends numbers ++ row ∷ []
cut_more numbers more row ends next o m x = ap (λ ns. rows_cut 0 next ns) m ∙ ap (λ es. rows_cut 0 es (numbers ++ row)) x ∙ rows_cut-append 0 ends numbers row o

-- one row more is kept
pub kept_more : (s : Section) (nodes marks : ℕ) (numbers more row : List ℤ) (ends next owners after named : List ℕ) (number : ℕ)
    → IsKeptAs s nodes numbers ends owners marks → more ≡ numbers ++ row → next ≡ ends ++ (length numbers + length row) ∷ [] → IsRow s nodes row → None ≡ numbers_fault nodes s row (rows_cut 0 ends numbers)
    → named ≡ nodes_named s row → number ≡ length (rows_cut 0 ends numbers) + 1 → length after ≡ length owners
    → ((n : ℕ) → slice_index after n ≡ cond (eqb (slice_index owners n) 0 && contains n named) number (slice_index owners n))
    → IsKeptAs s nodes more next after marks
kept_more s nodes marks numbers more row ends next owners after named number k m x is none name count same each =
    let rows = rows_cut 0 ends numbers in
    let cut : rows_cut 0 next more ≡ rows ++ row ∷ [] = cut_more numbers more row ends next k.ordered m x in
    let total : length more ≡ length numbers + length row = ap length m ∙ length-append numbers row in
    let Ordered : List ℕ → Type 0 = λ es. EndInOrder 0 es (length more) in
    let Each : List (List ℤ) → Type 0 = λ rs. All (IsRow s nodes) rs in
    let Owned : List (List ℤ) → Type 0 = λ rs. AreOwned s nodes rs after in
    let ordered : EndInOrder 0 (ends ++ (length numbers + length row) ∷ []) (length numbers + length row) = ordered_more 0 ends (length numbers) (length numbers + length row) k.ordered (omega arith) in
    let Last : ℕ → Type 0 = λ l. EndInOrder 0 (ends ++ (length numbers + length row) ∷ []) l in
    record {
      limit = k.limit;
      ordered = subst Ordered (sym x) (subst Last (sym total) ordered);
      each = subst Each (sym cut) (All-push (IsRow s nodes) rows row k.each is);
      owners_are = subst Owned (sym cut) (owned_more s nodes rows row owners named after number k.owners_are name count same (apart_from nodes s row rows none) each);
      one_mark_each = k.one_mark_each;
    }

-- one row more is counted
pub count_more : (rows : List (List ℤ)) (k : ℕ) (row : List ℤ) → slice_get rows k ≡ Some row → vehicle_count (take (k + 1) rows) ≡ vehicle_count (take k rows) + number_at 1 row
count_more rows k row e =
    ap vehicle_count (take_more rows k row (slice_get_within rows k row e)) ∙ sum_by-append (number_at 1) (take k rows) (get_or rows k row ∷ [])
    ∙ ap (λ r. vehicle_count (take k rows) + (0 + number_at 1 r)) (get_or_from_slice_get rows k row row e) ∙ ap (λ n. vehicle_count (take k rows) + n) (omega arith)

-- a row that is kept is one of its section
pub row_of_kept : (l : Listed) (s : Section) (nodes k : ℕ) (rows : List (List ℤ)) (row : List ℤ) → record { section = s; nodes = nodes; rows = rows } ≡ l → All (IsRow s nodes) rows → slice_get rows k ≡ Some row
    → IsRow l.section l.nodes row
row_of_kept l s nodes k rows row v each e =
    let P : Listed → Type 0 = λ m. IsRow m.section m.nodes row in
    let Q : List ℤ → Type 0 = λ r. IsRow s nodes r in
    subst P v (subst Q (get_or_from_slice_get rows k row row e) (each k row (slice_get_within rows k row e)))

-- what is known of a next row once its tokens are read
pub record IsRead (mode : Rounding) (next : NextRow) (tokens : List (List ℕ)) (weights : ℕ) (l : Listed) (fault : Option Rule) (row : List ℤ) : Type 0 where
  pub section_is : next.section ≡ l.section
  pub follows : Follows next l.rows
  pub shaped : None ≡ shape_fault l.section tokens l.nodes weights l.rows
  pub token : (rows : List (List ℤ)) → Follows next rows → fault ≡ token_fault mode next.section tokens rows
  pub numbers : fault ≡ None → (rows : List (List ℤ)) → Follows next rows → row ≡ row_numbers mode next.section rows tokens

pub token_stage : (mode : Rounding) (next : NextRow) (tokens : List (List ℕ)) (weights : ℕ) (l : Listed) (fault : Option Rule) (row : List ℤ) (rule : Rule) → IsRead mode next tokens weights l fault row → fault ≡ Some rule
    → Some rule ≡ fault_of_row mode l.section tokens l.nodes weights l.rows
token_stage mode next tokens weights l fault row rule r e =
    by_token mode l.section tokens l.nodes weights l.rows rule r.shaped (sym e ∙ r.token l.rows r.follows ∙ ap (λ s. token_fault mode s tokens l.rows) r.section_is)

pub numbers_stage : (mode : Rounding) (next : NextRow) (tokens : List (List ℕ)) (weights nodes : ℕ) (l : Listed) (fault found : Option Rule) (row judged : List ℤ) (owners : List ℕ)
    → IsRead mode next tokens weights l fault row → fault ≡ None → judged ≡ row → nodes ≡ l.nodes → AreOwned l.section l.nodes l.rows owners
    → ((rows : List (List ℤ)) → Follows next rows → AreOwned next.section nodes rows owners → found ≡ numbers_fault nodes next.section judged rows)
    → (found ≡ numbers_fault l.nodes l.section judged l.rows) × (found ≡ fault_of_row mode l.section tokens l.nodes weights l.rows)
numbers_stage mode next tokens weights nodes l fault found row judged owners r e j n o answer =
    let Owned : Section → Type 0 = λ s. AreOwned s l.nodes l.rows owners in
    let OwnedOf : ℕ → Type 0 = λ m. AreOwned next.section m l.rows owners in
    let there : found ≡ numbers_fault l.nodes l.section judged l.rows =
    answer l.rows r.follows (subst OwnedOf (sym n) (subst Owned (sym r.section_is) o)) ∙ ap (λ m. numbers_fault m next.section judged l.rows) n ∙ ap (λ s. numbers_fault l.nodes s judged l.rows) r.section_is in (
      there,
      by_numbers mode l.section tokens l.nodes weights l.rows judged found r.shaped (sym e ∙ r.token l.rows r.follows ∙ ap (λ s. token_fault mode s tokens l.rows) r.section_is)
          (j ∙ r.numbers e l.rows r.follows ∙ ap (λ s. row_numbers mode s l.rows tokens) r.section_is) there,
    )

none_is : (o : Option Rule) → is_some o ≡ false → o ≡ None
none_is None e = refl
none_is (Some rule) e = cc

-- a faultless row is a row of its section
pub faultless_row : (mode : Rounding) (next : NextRow) (tokens : List (List ℕ)) (weights nodes : ℕ) (l : Listed) (fault found : Option Rule) (row judged : List ℤ) (owners : List ℕ)
    → IsRead mode next tokens weights l fault row → fault ≡ None → judged ≡ row → nodes ≡ l.nodes → AreOwned l.section l.nodes l.rows owners
    → ((rows : List (List ℤ)) → Follows next rows → AreOwned next.section nodes rows owners → found ≡ numbers_fault nodes next.section judged rows) → is_some found ≡ false
    → IsRow l.section l.nodes row × (None ≡ numbers_fault l.nodes l.section row l.rows) × (None ≡ fault_of_row mode l.section tokens l.nodes weights l.rows) × (row ≡ row_numbers mode l.section l.rows tokens)
faultless_row mode next tokens weights nodes l fault found row judged owners r e j n o answer passed =
    let stage = numbers_stage mode next tokens weights nodes l fault found row judged owners r e j n o answer in
    let none = sym (none_is found passed) in
    let is : row ≡ row_numbers mode l.section l.rows tokens = r.numbers e l.rows r.follows ∙ ap (λ s. row_numbers mode s l.rows tokens) r.section_is in
    let Is : List ℤ → Type 0 = λ ns. IsRow l.section l.nodes ns in
    (subst Is (sym is) (row-is mode l.section tokens l.nodes weights l.rows (sym (none ∙ stage.1))), none ∙ stage.0 ∙ ap (λ ns. numbers_fault l.nodes l.section ns l.rows) j, none ∙ stage.1, is)
