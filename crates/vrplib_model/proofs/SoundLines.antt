-- The rows of faultless lines are sound, and sections that need a row have one.
use Rattle.std.proofs.Common.{◌≡◌, ℕ, ◌≤◌, ◌⊎◌, inl, inr, Bool, true, false, List, [], ◌∷◌, ◌++◌, length, refl, sym, ◌∙◌, ap, subst, arith, ℤ, Option, Some, None}
use Rattle.std.specs.Prelude.{◌&&◌, if◌then◌else◌, is_some, unwrap_or, option_and_then, bytes_eq}
use Rattle.std.proofs.lemmas.Bool.{ltb-false, true≢false, not-false, or_cases, false_from_ne_true}
use Rattle.std.proofs.lemmas.List.{length_push}
use Rattle.std.proofs.lemmas.Slice.Eq.{bytes_eq-Decides}
use Rattle.vrp_num.specs.declared.rounding.Rounding.{Rounding}
use Rattle.vrplib_model.specs.declared.rule.Rule.{Rule}
use Rattle.vrplib_model.specs.declared.rule.Rule.TheVariants.{NotText, NoKeyword, Repeated, RowCount, Unsupported}
use Rattle.vrplib_model.specs.Keywords.{keyword_name, keyword_of, dimension}
use Rattle.vrplib_model.specs.Sections.{Section, section_name, section_of, same_section, node_coord_section, demand_section, backhaul_section, time_window_section, service_time_section, release_time_section, prize_section, edge_weight_section, depot_section, group_section, profile_section, vehicle_types_section}
use Rattle.vrplib_model.specs.LineKinds.{Line, empty, end_of_file, section_line, keyword_line, word_line, row, line_of, is_end, ends_section}
use Rattle.vrplib_model.specs.Numbers.{between}
use Rattle.vrplib_model.specs.Values.{has_keyword, node_count, token_number, value_tokens}
use Rattle.vrplib_model.specs.Rows.{Position, outside, passed_over, within, opened, after_row, next_position, is_within, row_numbers, rows_of, has_section}
use Rattle.vrplib_model.specs.RowFaults.{fault_of_row}
use Rattle.vrplib_model.specs.Checks.{broken_if}
use Rattle.vrplib_model.specs.WordFaults.{weight_count, is_section_short, is_position_short, is_short, is_stray, is_repeated, repeats_keyword, section_lacks, lacks, is_unsupported, keyword_fault}
use Rattle.vrplib_model.specs.Faults.{has_zero, fault_within, fault_of}
use Rattle.vrplib_model.specs.declared.refusal.Refusal.{Refusal}
use Rattle.vrplib_model.specs.Reading.{refusal_if, or_later, lines_onto, first_fault}
use Rattle.vrplib_model.proofs.RowBounds.{first_of-cons, broken_if-none}
use Rattle.vrplib_model.proofs.SoundRows.{AreSound, sound-none, sound-more}

-- a line that fails no check
pub record IsGoodLine (mode : Rounding) (before : List Line) (line : Line) : Type 0 where
  pub complete : (ends_section line && is_short mode before) ≡ false
  pub new : is_repeated line before ≡ false
  pub lacking : lacks line before ≡ None
  pub good_row : fault_within mode line (next_position before) before ≡ None

pub good-line : (mode : Rounding) (before : List Line) (text : List ℕ) → fault_of mode before text ≡ None → IsGoodLine mode before (line_of text)
unfolding fault_of
good-line mode before text e =
    let line = line_of text in
    let position = next_position before in
    let on_row : List (Option Rule) = fault_within mode line position before ∷ [] in
    let on_value : List (Option Rule) = keyword_fault mode line ∷ on_row in
    let on_support : List (Option Rule) = broken_if (is_unsupported line before) Unsupported ∷ on_value in
    let on_lack : List (Option Rule) = lacks line before ∷ on_support in
    let on_repeat : List (Option Rule) = broken_if (is_repeated line before) Repeated ∷ on_lack in
    let on_place : List (Option Rule) = broken_if (is_stray line position) NoKeyword ∷ on_repeat in
    let on_end : List (Option Rule) = broken_if (ends_section line && is_short mode before) RowCount ∷ on_place in
    let zero = first_of-cons (broken_if (has_zero text) NotText) on_end e in
    let ended = first_of-cons (broken_if (ends_section line && is_short mode before) RowCount) on_place zero.1 in
    let placed = first_of-cons (broken_if (is_stray line position) NoKeyword) on_repeat ended.1 in
    let once = first_of-cons (broken_if (is_repeated line before) Repeated) on_lack placed.1 in
    let lacking = first_of-cons (lacks line before) on_support once.1 in
    let supported = first_of-cons (broken_if (is_unsupported line before) Unsupported) on_value lacking.1 in
    let valued = first_of-cons (keyword_fault mode line) on_row supported.1 in
    let good = first_of-cons (fault_within mode line position before) [] valued.1 in
    record {
      complete = broken_if-none (ends_section line && is_short mode before) RowCount ended.0;
      new = broken_if-none (is_repeated line before) Repeated once.0;
      lacking = lacking.0;
      good_row = good.0;
    }

-- sections that are the same
same-section : (s t : Section) → same_section s t ≡ true → s ≡ t
same-section node_coord_section node_coord_section e = refl
same-section demand_section demand_section e = refl
same-section backhaul_section backhaul_section e = refl
same-section time_window_section time_window_section e = refl
same-section service_time_section service_time_section e = refl
same-section release_time_section release_time_section e = refl
same-section prize_section prize_section e = refl
same-section edge_weight_section edge_weight_section e = refl
same-section depot_section depot_section e = refl
same-section group_section group_section e = refl
same-section profile_section profile_section e = refl
same-section vehicle_types_section vehicle_types_section e = refl
same-section s t e = absurd (true≢false (sym e))

-- the section has a row, where it needs one, once it isn't open
abbrev pub IsFilled : Rounding → Section → List Line → Type 0
IsFilled mode s before = has_section s before ≡ true → (is_within s (next_position before) ≡ true) ⊎ (1 ≤ length (rows_of mode s before))

-- what faultless lines give
pub record AreGood (mode : Rounding) (before : List Line) : Type 0 where
  pub rows : (s : Section) → AreSound s (node_count mode before) (rows_of mode s before)
  -- sections stand below the number of nodes
  pub below : (s : Section) → is_within s (next_position before) ≡ true → has_keyword dimension before ≡ true
  pub none : has_keyword dimension before ≡ false → (s : Section) → rows_of mode s before ≡ []
  pub types : IsFilled mode vehicle_types_section before
  pub profiles : IsFilled mode profile_section before

pub good-start : (mode : Rounding) → AreGood mode []
unfolding rows_of
good-start mode = record {
  rows = λ s. sound-none s (node_count mode []);
  below = λ s e. absurd (true≢false (sym e));
  none = λ e s. refl;
  types = λ e. absurd (true≢false (sym e));
  profiles = λ e. absurd (true≢false (sym e));
}

-- what a section lacks above it
lacks-dimension : (found : Option Section) (before : List Line) → section_lacks found before ≡ None → (found ≡ None) ⊎ (has_keyword dimension before ≡ true)
lacks-dimension None before e = inl refl
lacks-dimension (Some edge_weight_section) before e = inr (not-false _ (broken_if-none _ _ (first_of-cons _ _ e).0))
lacks-dimension (Some node_coord_section) before e = inr (not-false _ (broken_if-none _ _ e))
lacks-dimension (Some demand_section) before e = inr (not-false _ (broken_if-none _ _ e))
lacks-dimension (Some backhaul_section) before e = inr (not-false _ (broken_if-none _ _ e))
lacks-dimension (Some time_window_section) before e = inr (not-false _ (broken_if-none _ _ e))
lacks-dimension (Some service_time_section) before e = inr (not-false _ (broken_if-none _ _ e))
lacks-dimension (Some release_time_section) before e = inr (not-false _ (broken_if-none _ _ e))
lacks-dimension (Some prize_section) before e = inr (not-false _ (broken_if-none _ _ e))
lacks-dimension (Some depot_section) before e = inr (not-false _ (broken_if-none _ _ e))
lacks-dimension (Some group_section) before e = inr (not-false _ (broken_if-none _ _ e))
lacks-dimension (Some profile_section) before e = inr (not-false _ (broken_if-none _ _ e))
lacks-dimension (Some vehicle_types_section) before e = inr (not-false _ (broken_if-none _ _ e))

-- a row doesn't open a section
closed-after : (s : Section) (closes : Bool) → is_within s (if closes then outside else within depot_section) ≡ true → is_within s (within depot_section) ≡ true
closed-after s true e = absurd (true≢false (sym e))
closed-after s false e = e

within-before : (s : Section) (tokens : List (List ℕ)) (p : Position) → is_within s (after_row tokens p) ≡ true → is_within s p ≡ true
within-before s tokens outside e = e
within-before s tokens passed_over e = e
within-before s tokens (within node_coord_section) e = e
within-before s tokens (within demand_section) e = e
within-before s tokens (within backhaul_section) e = e
within-before s tokens (within time_window_section) e = e
within-before s tokens (within service_time_section) e = e
within-before s tokens (within release_time_section) e = e
within-before s tokens (within prize_section) e = e
within-before s tokens (within edge_weight_section) e = e
within-before s tokens (within depot_section) e = closed-after s _ e
within-before s tokens (within group_section) e = e
within-before s tokens (within profile_section) e = e
within-before s tokens (within vehicle_types_section) e = e

-- a row is one more of its section
section-sound : (mode : Rounding) (s t : Section) (tokens : List (List ℕ)) (before : List Line) (here : Bool) → (here ≡ true → s ≡ t)
    → fault_of_row mode t tokens (node_count mode before) (weight_count mode before) (rows_of mode t before) ≡ None → AreSound s (node_count mode before) (rows_of mode s before)
    → AreSound s (node_count mode before) (if here then rows_of mode s before ++ row_numbers mode s (rows_of mode s before) tokens ∷ [] else rows_of mode s before)
section-sound mode s t tokens before true same e sound =
    let fault = λ (u : Section). fault_of_row mode u tokens (node_count mode before) (weight_count mode before) (rows_of mode u before) in
    sound-more mode s tokens (node_count mode before) (weight_count mode before) (rows_of mode s before) (ap fault (same refl) ∙ e) sound
section-sound mode s t tokens before false same e sound = sound

row-sound : (mode : Rounding) (s : Section) (tokens : List (List ℕ)) (before : List Line) (p : Position) → fault_within mode (row tokens) p before ≡ None
    → AreSound s (node_count mode before) (rows_of mode s before)
    → AreSound s (node_count mode before) (if is_within s p then rows_of mode s before ++ row_numbers mode s (rows_of mode s before) tokens ∷ [] else rows_of mode s before)
row-sound mode s tokens before outside e sound = sound
row-sound mode s tokens before passed_over e sound = sound
row-sound mode s tokens before (within t) e sound = section-sound mode s t tokens before (same_section s t) (same-section s t) e sound

-- the number of nodes is given once
count_if : Rounding → Bool → List (List ℕ) → List Line → ℕ
count_if mode given value before = unwrap_or (option_and_then (token_number mode (between 2 2048)) (if given then Some value else value_tokens dimension before)) 0

keyword-sound : (mode : Rounding) (s : Section) (value : List (List ℕ)) (before : List Line) (given : Bool) → (given ≡ true → has_keyword dimension before ≡ false)
    → AreGood mode before → AreSound s (count_if mode given value before) (rows_of mode s before)
unfolding count_if
keyword-sound mode s value before true first good =
    subst (AreSound s (count_if mode true value before)) (sym (good.none (first refl) s)) (sound-none s (count_if mode true value before))
keyword-sound mode s value before false first good = good.rows s

keyword-dimension : (key : List ℕ) → bytes_eq (keyword_name dimension) key ≡ true → keyword_of key ≡ Some dimension
unfolding keyword_of
keyword-dimension key e = rw e

first-dimension : (key : List ℕ) (before : List Line) → repeats_keyword (keyword_of key) before ≡ false → bytes_eq (keyword_name dimension) key ≡ true → has_keyword dimension before ≡ false
first-dimension key before e given = rw (keyword-dimension key given) at e

rows-step : (mode : Rounding) (before : List Line) (line : Line) → AreGood mode before → IsGoodLine mode before line → (s : Section) → AreSound s (node_count mode (line ∷ before)) (rows_of mode s (line ∷ before))
unfolding rows_of count_if
rows-step mode before empty good h s = good.rows s
rows-step mode before end_of_file good h s = good.rows s
rows-step mode before word_line good h s = good.rows s
rows-step mode before (section_line key) good h s = good.rows s
rows-step mode before (keyword_line key value) good h s =
    keyword-sound mode s value before (bytes_eq (keyword_name dimension) key) (first-dimension key before h.new) good
rows-step mode before (row tokens) good h s = row-sound mode s tokens before (next_position before) h.good_row (good.rows s)

-- each open section stands below the dimension
below-opened : (s : Section) (found : Option Section) (before : List Line) → section_lacks found before ≡ None → is_within s (opened found before) ≡ true → has_keyword dimension before ≡ true
below-opened s found before lacking e = elim (lacks-dimension found before lacking) [
  | inl none ↦ absurd (true≢false (sym e ∙ ap (λ o. is_within s (opened o before)) none))
  | inr given ↦ given
]

below-step : (mode : Rounding) (before : List Line) (line : Line) → AreGood mode before → IsGoodLine mode before line → (s : Section)
    → is_within s (next_position (line ∷ before)) ≡ true → has_keyword dimension (line ∷ before) ≡ true
below-step mode before empty good h s e = good.below s e
below-step mode before end_of_file good h s e = absurd (true≢false (sym e))
below-step mode before word_line good h s e = good.below s e
below-step mode before (section_line key) good h s e = below-opened s (section_of key) before h.lacking e
below-step mode before (keyword_line key value) good h s e = absurd (true≢false (sym e))
below-step mode before (row tokens) good h s e = good.below s (within-before s tokens (next_position before) e)

-- no row stands above the dimension
not-given : (given : Bool) (value : List (List ℕ)) (before : List Line) → is_some (if given then Some value else value_tokens dimension before) ≡ false → has_keyword dimension before ≡ false
not-given true value before e = absurd (true≢false e)
not-given false value before e = e

none-step : (mode : Rounding) (before : List Line) (line : Line) → AreGood mode before → has_keyword dimension (line ∷ before) ≡ false → (s : Section) → rows_of mode s (line ∷ before) ≡ []
unfolding rows_of
none-step mode before empty good e s = good.none e s
none-step mode before end_of_file good e s = good.none e s
none-step mode before word_line good e s = good.none e s
none-step mode before (section_line key) good e s = good.none e s
none-step mode before (keyword_line key value) good e s = good.none (not-given (bytes_eq (keyword_name dimension) key) value before e) s
none-step mode before (row tokens) good e s =
    let away : is_within s (next_position before) ≡ false = false_from_ne_true _ (λ here. true≢false (sym (good.below s here) ∙ e)) in
    rw away (good.none e s)

-- a section that needs a row has one once it isn't open
closed-long : (mode : Rounding) (s : Section) (before : List Line) (p : Position) → (is_section_short mode s before ≡ false → 1 ≤ length (rows_of mode s before))
    → is_within s p ≡ true → is_position_short mode p before ≡ false → 1 ≤ length (rows_of mode s before)
closed-long mode s before outside needs here e = absurd (true≢false (sym here))
closed-long mode s before passed_over needs here e = absurd (true≢false (sym here))
closed-long mode s before (within t) needs here e =
    let short = λ (u : Section). is_section_short mode u before in
    needs (ap short (same-section s t here) ∙ e)

closed-filled : (mode : Rounding) (s : Section) (before : List Line) → (is_section_short mode s before ≡ false → 1 ≤ length (rows_of mode s before))
    → is_short mode before ≡ false → IsFilled mode s before → has_section s before ≡ true → 1 ≤ length (rows_of mode s before)
closed-filled mode s before needs e filled found = elim (filled found) [
  | inl here ↦ closed-long mode s before (next_position before) needs here e
  | inr long ↦ long
]

one_more-long : (here : Bool) (rows : List (List ℤ)) (numbers : List ℤ) → (here ≡ true) ⊎ (1 ≤ length rows) → 1 ≤ length (if here then rows ++ numbers ∷ [] else rows)
one_more-long true rows numbers long = omega (arith, length_push rows numbers)
one_more-long false rows numbers (inl e) = absurd (true≢false (sym e))
one_more-long false rows numbers (inr long) = long

filled-step : (mode : Rounding) (s : Section) (before : List Line) (line : Line) → (is_section_short mode s before ≡ false → 1 ≤ length (rows_of mode s before))
    → ((key : List ℕ) → bytes_eq (section_name s) key ≡ true → is_within s (opened (section_of key) before) ≡ true)
    → IsGoodLine mode before line → IsFilled mode s before → IsFilled mode s (line ∷ before)
unfolding rows_of
filled-step mode s before empty needs opening h filled found = filled found
filled-step mode s before end_of_file needs opening h filled found = inr (closed-filled mode s before needs h.complete filled found)
filled-step mode s before word_line needs opening h filled found = filled found
filled-step mode s before (section_line key) needs opening h filled found = elim (or_cases (bytes_eq (section_name s) key) (has_section s before) found) [
  | inl here ↦ inl (opening key here)
  | inr earlier ↦ inr (closed-filled mode s before needs h.complete filled earlier)
]
filled-step mode s before (keyword_line key value) needs opening h filled found = inr (closed-filled mode s before needs h.complete filled found)
filled-step mode s before (row tokens) needs opening h filled found =
    inr (one_more-long (is_within s (next_position before)) (rows_of mode s before) (row_numbers mode s (rows_of mode s before) tokens) (filled found))

types-opening : (before : List Line) (key : List ℕ) → bytes_eq (section_name vehicle_types_section) key ≡ true → is_within vehicle_types_section (opened (section_of key) before) ≡ true
unfolding section_of
types-opening before key e =
    subst (λ (k : List ℕ). is_within vehicle_types_section (opened (section_of k) before) ≡ true) ((bytes_eq-Decides (section_name vehicle_types_section) key).0 e) refl

profiles-opening : (before : List Line) (key : List ℕ) → bytes_eq (section_name profile_section) key ≡ true → is_within profile_section (opened (section_of key) before) ≡ true
unfolding section_of
profiles-opening before key e =
    subst (λ (k : List ℕ). is_within profile_section (opened (section_of k) before) ≡ true) ((bytes_eq-Decides (section_name profile_section) key).0 e) refl

pub good-step : (mode : Rounding) (before : List Line) (line : Line) → AreGood mode before → IsGoodLine mode before line → AreGood mode (line ∷ before)
good-step mode before line good h = record {
  rows = rows-step mode before line good h;
  below = below-step mode before line good h;
  none = none-step mode before line good;
  types = filled-step mode vehicle_types_section before line (ltb-false _ _) (types-opening before) h good.types;
  profiles = filled-step mode profile_section before line (ltb-false _ _) (profiles-opening before) h good.profiles;
}

-- what the lines of a text give whose lines are faultless
pub record AreRead (mode : Rounding) (all : List Line) : Type 0 where
  pub rows : (s : Section) → AreSound s (node_count mode all) (rows_of mode s all)
  pub some_type : has_section vehicle_types_section all ≡ true → 1 ≤ length (rows_of mode vehicle_types_section all)
  pub some_profile : has_section profile_section all ≡ true → 1 ≤ length (rows_of mode profile_section all)

good-end : (mode : Rounding) (all : List Line) → AreGood mode all → is_short mode all ≡ false → AreRead mode all
good-end mode all good e = record {
  rows = good.rows;
  some_type = closed-filled mode vehicle_types_section all (ltb-false _ _) e good.types;
  some_profile = closed-filled mode profile_section all (ltb-false _ _) e good.profiles;
}

no-refusal : (before : List Line) (rule : Option Rule) → refusal_if before rule ≡ None → rule ≡ None
no-refusal before None e = refl
no-refusal before (Some rule) e = absurd (cc)

or_later-none : (first later : Option Refusal) → or_later first later ≡ None → (first ≡ None) × (later ≡ None)
or_later-none None later e = (refl, e)
or_later-none (Some refusal) later e = absurd (cc)

at-end : (line : Line) → is_end line ≡ true → ends_section line ≡ true
at-end end_of_file e = refl
at-end line e = absurd (true≢false (sym e))

read-line : (mode : Rounding) (before : List Line) (line : Line) (rest : List (List ℕ)) (ended : Bool) → is_end line ≡ ended → AreGood mode before → IsGoodLine mode before line
    → (if ended then None else first_fault mode (line ∷ before) rest) ≡ None
    → (AreGood mode (line ∷ before) → first_fault mode (line ∷ before) rest ≡ None → AreRead mode (lines_onto (line ∷ before) rest))
    → AreRead mode (if ended then before else lines_onto (line ∷ before) rest)
read-line mode before line rest true is good h e later =
    good-end mode before good (subst (λ (b : Bool). (b && is_short mode before) ≡ false) (at-end line is) h.complete)
read-line mode before line rest false is good h e later = later (good-step mode before line good h) e

pub lines-read : (mode : Rounding) (texts : List (List ℕ)) (before : List Line) → AreGood mode before → first_fault mode before texts ≡ None → AreRead mode (lines_onto before texts)
unfolding first_fault
lines-read mode [] before good e = good-end mode before good (broken_if-none _ _ (no-refusal before _ e))
lines-read mode (text ∷ rest) before good e =
    let parts = or_later-none (refusal_if before (fault_of mode before text)) (if is_end (line_of text) then None else first_fault mode (line_of text ∷ before) rest) e in
    let h = good-line mode before text (no-refusal before (fault_of mode before text) parts.0) in
    read-line mode before (line_of text) rest (is_end (line_of text)) refl good h parts.1 (lines-read mode rest (line_of text ∷ before))
