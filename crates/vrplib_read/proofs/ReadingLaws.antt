-- What the reader keeps of the lines, and what it says of them.
use Rattle.std.proofs.Common.{◌≡◌, ℕ, Bool, true, false, List, [], ◌∷◌, ◌++◌, length, refl, sym, ◌∙◌, ap, subst, Option, Some, None, Bor}
use Rattle.std.specs.Prelude.{flat_map, unwrap_or, is_some, bytes_eq, ◌||◌, if◌then◌else◌, option_map}
use Rattle.std.specs.Option.{ForSome, option_copied, option_map_or}
use Rattle.std.specs.List.{list_any}
use Rattle.indexmap.specs.IndexMap.{get}
use Rattle.vrp_num.specs.declared.rounding.Rounding.{Rounding}
use Rattle.vrplib_model.specs.declared.rule.Rule.{Rule}
use Rattle.vrplib_model.specs.declared.rule.Rule.TheVariants.{NotText, NoKeyword, Repeated, RowCount, Unsupported}
use Rattle.vrplib_read.specs.declared.reading.Reading.{Reading}
use Rattle.vrplib_model.specs.Checks.{broken_if, first_of}
use Rattle.vrplib_model.specs.Faults.{fault_of, has_zero, fault_within}
use Rattle.vrplib_model.specs.Keywords.{is_of_vehicles}
use Rattle.vrplib_model.specs.LineKinds.{Line, empty, end_of_file, section_line, keyword_line, word_line, row, line_of}
use Rattle.vrplib_model.specs.Numbers.{is_minus_one_token}
use Rattle.vrplib_model.specs.RowFaults.{fault_of_row, row_fault}
use Rattle.vrplib_model.specs.declared.position.Position.{Position}
use Rattle.vrplib_model.specs.declared.position.Position.TheVariants.{Outside as outside, PassedOver as passed_over, Within as within}
use Rattle.vrplib_model.specs.Rows.{next_position, after_row, opened, row_numbers, rows_of, numbers_of, has_section}
use Rattle.vrplib_model.specs.declared.section.Section.{Section}
use Rattle.vrplib_model.specs.declared.section.Section.TheVariants.{NodeCoord as node_coord_section, Demand as demand_section, Backhaul as backhaul_section, TimeWindow as time_window_section, ServiceTime as service_time_section, ReleaseTime as release_time_section, Prize as prize_section, EdgeWeight as edge_weight_section, Depot as depot_section, Group as group_section, Profile as profile_section, VehicleTypes as vehicle_types_section}
use Rattle.vrplib_model.specs.Sections.{section_name, section_of, sections, same_section}
use Rattle.vrplib_model.specs.Values.{node_count}
use Rattle.vrplib_model.specs.WordFaults.{is_short, weight_count, is_stray, repeats_section, section_lacks, is_unsupported_section}
use Rattle.vrplib_rows.specs.KeptRows.{Listed}
use Rattle.vrplib_read.specs.inside.Stands.{KnowsSection, Stands}
use Rattle.vrplib_rows.specs.KnownKeywords.{KnowsKeywords, keyword_line_fault}
use Rattle.vrplib_read.specs.inside.Steps.{Judges, JudgesText, behind, fault_of_line, opened_rows, with_row}
use Rattle.vrplib_model.proofs.RowBounds.{first_of-cons, broken_if-none}
use Rattle.vrplib_rows.proofs.KeywordLaws.{knows-same, find-passes, find-none, same_bytes}

pub row_count-known : (mode : Rounding) (before : List Line) (s : Section) (found : Option Listed) → KnowsSection mode before s found
    → option_map_or (λ l. length l.rows) found 0 ≡ length (rows_of mode s before)
row_count-known mode before s None h = ap length (sym h.1)
row_count-known mode before s (Some listed) h = ap (λ l. length l.rows) h.1

pub number_count-known : (mode : Rounding) (before : List Line) (s : Section) (found : Option Listed) → KnowsSection mode before s found
    → option_map_or (λ l. length (flat_map (λ row. row) l.rows)) found 0 ≡ length (numbers_of mode s before)
number_count-known mode before s None h = ap (λ rows. length (flat_map (λ row. row) rows)) (sym h.1)
number_count-known mode before s (Some listed) h = ap (λ l. length (flat_map (λ row. row) l.rows)) h.1

pub has_section-known : (mode : Rounding) (before : List Line) (s : Section) (found : Option Listed) → KnowsSection mode before s found
    → is_some found ≡ has_section s before
has_section-known mode before s None h = sym h.0
has_section-known mode before s (Some listed) h = sym h.0

pub is_some-copied : {X : Type 0} (found : Option (Bor X)) → is_some (option_copied found) ≡ is_some found
is_some-copied None = refl
is_some-copied (Some x) = refl

pub for-some : {X P : Type 0} (found : Option X) → is_some found ≡ true → ForSome found (λ _. P) → P
for-some None some h = absurd (cc)
for-some (Some x) some h = h x refl

-- the checks of each kind of line
drop-nones : (a b c d : Option Rule) → first_of (a ∷ None ∷ b ∷ c ∷ d ∷ None ∷ None ∷ []) ≡ first_of (a ∷ b ∷ c ∷ d ∷ [])
drop-nones (Some r) b c d = refl
drop-nones None (Some r) c d = refl
drop-nones None None (Some r) d = refl
drop-nones None None None (Some r) = refl
drop-nones None None None None = refl

pub section-checks : (mode : Rounding) (key : List ℕ) (section : Option Section) (before : List Line) (short repeated : Bool) (lacking : Option Rule) (foul : Bool)
    → section ≡ section_of key → is_short mode before ≡ short → repeats_section section before ≡ repeated → section_lacks section before ≡ lacking
    → (is_of_vehicles key || is_unsupported_section section before) ≡ foul
    → fault_of_line mode (section_line key) before ≡ first_of (broken_if short RowCount ∷ broken_if repeated Repeated ∷ lacking ∷ broken_if foul Unsupported ∷ [])
unfolding fault_of_line
section-checks mode key section before short repeated lacking foul same e1 e2 e3 e4 =
    drop-nones (broken_if (is_short mode before) RowCount) (broken_if (repeats_section (section_of key) before) Repeated) (section_lacks (section_of key) before)
    (broken_if (is_of_vehicles key || is_unsupported_section (section_of key) before) Unsupported)
    ∙ rw (sym same) (rw (e1, e2, e3, e4) refl)

last-check : (b : Option Rule) → first_of (None ∷ None ∷ None ∷ b ∷ []) ≡ b
last-check None = refl
last-check (Some r) = refl

pub section-supported : (mode : Rounding) (key : List ℕ) (section : Option Section) (before : List Line) (fault : Option Rule)
    → section ≡ section_of key → is_short mode before ≡ false → repeats_section section before ≡ false → section_lacks section before ≡ None
    → fault ≡ broken_if (is_of_vehicles key || is_unsupported_section section before) Unsupported → fault ≡ fault_of_line mode (section_line key) before
section-supported mode key section before fault same e1 e2 e3 e4 =
    e4 ∙ sym (section-checks mode key section before false false None (is_of_vehicles key || is_unsupported_section section before) same e1 e2 e3 refl
    ∙ last-check (broken_if (is_of_vehicles key || is_unsupported_section section before) Unsupported))

pub section-fresh : (mode : Rounding) (key : List ℕ) (section : Option Section) (before : List Line) → section ≡ section_of key
    → None ≡ fault_of_line mode (section_line key) before → repeats_section section before ≡ false
section-fresh mode key section before same e =
    let checks = section-checks mode key section before (is_short mode before) (repeats_section section before) (section_lacks section before)
    (is_of_vehicles key || is_unsupported_section section before) same refl refl refl refl in
    let first = first_of-cons (broken_if (is_short mode before) RowCount) _ (sym (e ∙ checks)) in
    let second = first_of-cons (broken_if (repeats_section section before) Repeated) _ first.1 in
    broken_if-none (repeats_section section before) Repeated second.0

drop-nones-too : (a b c d : Option Rule) → first_of (a ∷ None ∷ b ∷ None ∷ c ∷ d ∷ None ∷ []) ≡ first_of (a ∷ first_of (b ∷ c ∷ d ∷ []) ∷ [])
drop-nones-too (Some r) b c d = refl
drop-nones-too None (Some r) c d = refl
drop-nones-too None None (Some r) d = refl
drop-nones-too None None None (Some r) = refl
drop-nones-too None None None None = refl

alone : (a : Option Rule) → first_of (a ∷ []) ≡ a
alone None = refl
alone (Some r) = refl

pub keyword-checks : (mode : Rounding) (key : List ℕ) (value : List (List ℕ)) (before : List Line) (short : Bool) (fault : Option Rule)
    → is_short mode before ≡ short → fault ≡ keyword_line_fault mode key value before
    → fault_of_line mode (keyword_line key value) before ≡ first_of (broken_if short RowCount ∷ fault ∷ [])
unfolding fault_of_line
keyword-checks mode key value before short fault e1 e2 =
    drop-nones-too (broken_if (is_short mode before) RowCount) _ _ _ ∙ rw (e1, e2) refl

pub keyword-passed : (mode : Rounding) (key : List ℕ) (value : List (List ℕ)) (before : List Line) (fault : Option Rule)
    → is_short mode before ≡ false → fault ≡ keyword_line_fault mode key value before → fault ≡ fault_of_line mode (keyword_line key value) before
keyword-passed mode key value before fault e1 e2 = sym (keyword-checks mode key value before false fault e1 e2 ∙ alone fault)

end-alone : (a : Option Rule) → first_of (a ∷ None ∷ None ∷ None ∷ None ∷ None ∷ None ∷ []) ≡ a
end-alone None = refl
end-alone (Some r) = refl

pub end-checks : (mode : Rounding) (before : List Line) → fault_of_line mode end_of_file before ≡ broken_if (is_short mode before) RowCount
unfolding fault_of_line
end-checks mode before = end-alone (broken_if (is_short mode before) RowCount)

pub empty-checks : (mode : Rounding) (before : List Line) → fault_of_line mode empty before ≡ None
unfolding fault_of_line
empty-checks mode before = refl

word-alone : (a : Option Rule) → first_of (a ∷ None ∷ None ∷ None ∷ None ∷ None ∷ []) ≡ a
word-alone None = refl
word-alone (Some r) = refl

pub word-checks : (mode : Rounding) (before : List Line) (position : Position) → next_position before ≡ position
    → fault_of_line mode word_line before ≡ broken_if (is_stray word_line position) NoKeyword
unfolding fault_of_line
word-checks mode before position e = rw e (word-alone (broken_if (is_stray word_line position) NoKeyword))

row-alone : (a b : Option Rule) → first_of (None ∷ a ∷ None ∷ None ∷ None ∷ None ∷ b ∷ []) ≡ first_of (a ∷ b ∷ [])
row-alone None None = refl
row-alone None (Some r) = refl
row-alone (Some r) b = refl

pub row-checks : (mode : Rounding) (tokens : List (List ℕ)) (before : List Line) (position : Position) → next_position before ≡ position
    → fault_of_line mode (row tokens) before ≡ first_of (broken_if (is_stray (row tokens) position) NoKeyword ∷ fault_within mode (row tokens) position before ∷ [])
unfolding fault_of_line
row-checks mode tokens before position e = rw e (row-alone (broken_if (is_stray (row tokens) position) NoKeyword) (fault_within mode (row tokens) position before))

pub text-checks : (mode : Rounding) (before : List Line) (text : List ℕ) (zero : Bool) → has_zero text ≡ zero
    → fault_of mode before text ≡ (if zero then Some NotText else fault_of_line mode (line_of text) before)
unfolding fault_of fault_of_line
text-checks mode before text true e = rw e refl
text-checks mode before text false e = rw e refl

-- sections are the same or not
pub same_section-sym : (s t : Section) → same_section s t ≡ same_section t s
same_section-sym node_coord_section node_coord_section = refl
same_section-sym demand_section demand_section = refl
same_section-sym backhaul_section backhaul_section = refl
same_section-sym time_window_section time_window_section = refl
same_section-sym service_time_section service_time_section = refl
same_section-sym release_time_section release_time_section = refl
same_section-sym prize_section prize_section = refl
same_section-sym edge_weight_section edge_weight_section = refl
same_section-sym depot_section depot_section = refl
same_section-sym group_section group_section = refl
same_section-sym profile_section profile_section = refl
same_section-sym vehicle_types_section vehicle_types_section = refl
same_section-sym _ _ = refl

pub same_section-refl : (s : Section) → same_section s s ≡ true
same_section-refl node_coord_section = refl
same_section-refl demand_section = refl
same_section-refl backhaul_section = refl
same_section-refl time_window_section = refl
same_section-refl service_time_section = refl
same_section-refl release_time_section = refl
same_section-refl prize_section = refl
same_section-refl edge_weight_section = refl
same_section-refl depot_section = refl
same_section-refl group_section = refl
same_section-refl profile_section = refl
same_section-refl vehicle_types_section = refl

pub same_section-true : (s t : Section) → same_section s t ≡ true → s ≡ t
same_section-true node_coord_section node_coord_section e = refl
same_section-true demand_section demand_section e = refl
same_section-true backhaul_section backhaul_section e = refl
same_section-true time_window_section time_window_section e = refl
same_section-true service_time_section service_time_section e = refl
same_section-true release_time_section release_time_section e = refl
same_section-true prize_section prize_section e = refl
same_section-true edge_weight_section edge_weight_section e = refl
same_section-true depot_section depot_section e = refl
same_section-true group_section group_section e = refl
same_section-true profile_section profile_section e = refl
same_section-true vehicle_types_section vehicle_types_section e = refl
same_section-true _ _ e = absurd (cc)

same_name : (s t : Section) → bytes_eq (section_name s) (section_name t) ≡ same_section s t
same_name node_coord_section node_coord_section = refl
same_name demand_section demand_section = refl
same_name backhaul_section backhaul_section = refl
same_name time_window_section time_window_section = refl
same_name service_time_section service_time_section = refl
same_name release_time_section release_time_section = refl
same_name prize_section prize_section = refl
same_name edge_weight_section edge_weight_section = refl
same_name depot_section depot_section = refl
same_name group_section group_section = refl
same_name profile_section profile_section = refl
same_name vehicle_types_section vehicle_types_section = refl
same_name _ _ = refl

-- a section line's key is the name of its section, if it is a known one
abbrev is_section : Option Section → Section → Bool
is_section None s = false
is_section (Some t) s = same_section s t

opens-unknown : (key : List ℕ) (s : Section) → section_of key ≡ None → bytes_eq (section_name s) key ≡ false
unfolding section_of
opens-unknown key s e =
    let none = find-none (λ s. bytes_eq (section_name s) key) sections e in
    elim s as (λ s. bytes_eq (section_name s) key ≡ false) [
      | node_coord_section ↦ none.0
      | demand_section ↦ none.1.0
      | backhaul_section ↦ none.1.1.0
      | time_window_section ↦ none.1.1.1.0
      | service_time_section ↦ none.1.1.1.1.0
      | release_time_section ↦ none.1.1.1.1.1.0
      | prize_section ↦ none.1.1.1.1.1.1.0
      | edge_weight_section ↦ none.1.1.1.1.1.1.1.0
      | depot_section ↦ none.1.1.1.1.1.1.1.1.0
      | group_section ↦ none.1.1.1.1.1.1.1.1.1.0
      | profile_section ↦ none.1.1.1.1.1.1.1.1.1.1.0
      | vehicle_types_section ↦ none.1.1.1.1.1.1.1.1.1.1.1.0
    ]

opens-known : (key : List ℕ) (s t : Section) → section_of key ≡ Some t → bytes_eq (section_name s) key ≡ same_section s t
unfolding section_of
opens-known key s t e =
    let name : section_name t ≡ key = same_bytes (section_name t) key (find-passes (λ s. bytes_eq (section_name s) key) sections t e) in
    rw (← name) (same_name s t)

-- a section has been opened behind a line exactly where the line or an earlier one opened it
pub opened-unknown : (key : List ℕ) (before : List Line) (s : Section) → section_of key ≡ None → has_section s (section_line key ∷ before) ≡ has_section s before
opened-unknown key before s e = rw (opens-unknown key s e) refl

pub opened-known : (key : List ℕ) (before : List Line) (s t : Section) → section_of key ≡ Some t → has_section s (section_line key ∷ before) ≡ (same_section s t || has_section s before)
opened-known key before s t e = rw (opens-known key s t e) refl

-- what is known of a section stays where the line doesn't change it
pub section-kept : (mode : Rounding) (before after : List Line) (s : Section) (found : Option Listed)
    → (is_some found ≡ true → node_count mode after ≡ node_count mode before) → has_section s after ≡ has_section s before → rows_of mode s after ≡ rows_of mode s before
    → KnowsSection mode before s found → KnowsSection mode after s found
section-kept mode before after s None nodes opened rows h = (opened ∙ h.0, rows ∙ h.1)
section-kept mode before after s (Some listed) nodes opened rows h =
    (opened ∙ h.0, rw (nodes refl, rows) h.1)

-- a line between that isn't read
pub stands-empty : (mode : Rounding) (before : List Line) (r : Reading) → Stands mode before r → Stands mode (empty ∷ before) r
unfolding rows_of
stands-empty mode before r h = record {
  same_mode = h.same_mode;
  position = h.position;
  keywords = knows-same mode before (empty ∷ before) r.keywords (λ k. refl) h.keywords;
  sections = λ s. section-kept mode before (empty ∷ before) s _ (λ _. refl) refl refl (h.sections s);
}

pub stands-word : (mode : Rounding) (before : List Line) (r : Reading) → Stands mode before r → Stands mode (word_line ∷ before) r
unfolding rows_of
stands-word mode before r h = record {
  same_mode = h.same_mode;
  position = h.position;
  keywords = knows-same mode before (word_line ∷ before) r.keywords (λ k. refl) h.keywords;
  sections = λ s. section-kept mode before (word_line ∷ before) s _ (λ _. refl) refl refl (h.sections s);
}

-- a keyword's line
pub stands-keyword : (mode : Rounding) (key : List ℕ) (value : List (List ℕ)) (before : List Line) (r new : Reading) → Stands mode before r → new.mode ≡ r.mode
    → new.position ≡ outside → KnowsKeywords mode (keyword_line key value ∷ before) new.keywords → new.sections ≡ r.sections
    → ((s : Section) → is_some (get same_section r.sections s) ≡ true → new.keywords.dimension ≡ r.keywords.dimension)
    → Stands mode (keyword_line key value ∷ before) new
unfolding rows_of
stands-keyword mode key value before r new h m p w e same = record {
  same_mode = m ∙ h.same_mode;
  position = p;
  keywords = w;
  sections = λ s. rw e (section-kept mode before (keyword_line key value ∷ before) s _ (λ some. ap (λ n. unwrap_or n 0) (w.dimension ∙ (same s some ∙ sym h.keywords.dimension))) refl refl (h.sections s));
}

-- a section's line
pub stands-section-unknown : (mode : Rounding) (key : List ℕ) (before : List Line) (r new : Reading) → Stands mode before r → section_of key ≡ None → new.mode ≡ r.mode
    → new.position ≡ opened None before → new.keywords ≡ r.keywords → ((s : Section) → get same_section new.sections s ≡ get same_section r.sections s)
    → Stands mode (section_line key ∷ before) new
unfolding rows_of
stands-section-unknown mode key before r new h none m p w e = record {
  same_mode = m ∙ h.same_mode;
  position = p ∙ ap (λ section. opened section before) (sym none);
  keywords = rw w (knows-same mode before (section_line key ∷ before) r.keywords (λ k. refl) h.keywords);
  sections = λ s. rw (e s) (section-kept mode before (section_line key ∷ before) s _ (λ _. refl) (opened-unknown key before s none) refl (h.sections s));
}

-- the section that is added, and the others
abbrev added : Section → ℕ → Section → Option Listed → Option Listed
added t nodes s found = if same_section t s then Some (record { section = t; nodes = nodes; rows = [] }) else found

section-added : (mode : Rounding) (key : List ℕ) (before : List Line) (s t : Section) (nodes : ℕ) (found : Option Listed) → section_of key ≡ Some t
    → has_section t before ≡ false → nodes ≡ node_count mode before → rows_of mode t before ≡ [] → KnowsSection mode before s found
    → KnowsSection mode (section_line key ∷ before) s (added t nodes s found)
unfolding rows_of
section-added mode key before s t nodes found known fresh count none h =
    let added_at : Section → Listed = λ x. record { section = x; nodes = nodes; rows = [] } in
    let listed_at : Section → Listed = λ x. record { section = x; nodes = node_count mode before; rows = rows_of mode x before } in
    elim (same_section t s) as (λ v. same_section t s ≡ v
    → KnowsSection mode (section_line key ∷ before) s (if v then Some (record { section = t; nodes = nodes; rows = [] }) else found)) [
      | true ↦ λ e. let same : t ≡ s = same_section-true t s e in
          (opened-known key before s t known ∙ rw (same_section-sym s t ∙ e) refl, subst (λ x. added_at t ≡ listed_at x) same (rw (count, none) refl))
      | false ↦ λ e.
          section-kept mode before (section_line key ∷ before) s found (λ _. refl) (opened-known key before s t known ∙ rw (same_section-sym s t ∙ e) refl) refl h
    ] refl

fresh-rows : (mode : Rounding) (before : List Line) (s : Section) (found : Option Listed) → has_section s before ≡ false → KnowsSection mode before s found
    → rows_of mode s before ≡ []
fresh-rows mode before s None fresh h = h.1
fresh-rows mode before s (Some listed) fresh h = absurd (cc)

pub stands-section-known : (mode : Rounding) (key : List ℕ) (before : List Line) (t : Section) (r new : Reading) → Stands mode before r → section_of key ≡ Some t
    → has_section t before ≡ false → new.mode ≡ r.mode → new.position ≡ opened (Some t) before → new.keywords ≡ r.keywords
    → ((s : Section) → get same_section new.sections s ≡ added t (unwrap_or r.keywords.dimension 0) s (get same_section r.sections s))
    → Stands mode (section_line key ∷ before) new
stands-section-known mode key before t r new h known fresh m p w e = record {
  same_mode = m ∙ h.same_mode;
  position = p ∙ ap (λ section. opened section before) (sym known);
  keywords = rw w (knows-same mode before (section_line key ∷ before) r.keywords (λ k. refl) h.keywords);
  sections = λ s. rw (e s) (section-added mode key before s t (unwrap_or r.keywords.dimension 0) (get same_section r.sections s) known fresh
      (ap (λ n. unwrap_or n 0) (sym h.keywords.dimension)) (fresh-rows mode before t (get same_section r.sections t) fresh (h.sections t)) (h.sections s));
}

pub stands-section : (mode : Rounding) (key : List ℕ) (before : List Line) (section : Option Section) (r new : Reading) → Stands mode before r → section ≡ section_of key
    → repeats_section section before ≡ false → new.mode ≡ r.mode → new.position ≡ opened section before → new.keywords ≡ r.keywords
    → ((s : Section) → get same_section new.sections s ≡ opened_rows section (unwrap_or r.keywords.dimension 0) s (get same_section r.sections s))
    → Stands mode (section_line key ∷ before) new
stands-section mode key before None r new h same fresh m p w e = stands-section-unknown mode key before r new h (sym same) m p w e
stands-section mode key before (Some t) r new h same fresh m p w e = stands-section-known mode key before t r new h (sym same) fresh m p w e

pub opened-there : (section : Option Section) (nodes : ℕ) (s : Section) (found : Option Listed) → section ≡ Some s → is_some (opened_rows section nodes s found) ≡ true
opened-there section nodes s found e = rw (e, same_section-refl s) refl

-- a row in a section that is passed over
passed-rows : (mode : Rounding) (tokens : List (List ℕ)) (before : List Line) (s : Section) → next_position before ≡ passed_over
    → rows_of mode s (row tokens ∷ before) ≡ rows_of mode s before
unfolding rows_of
passed-rows mode tokens before s e = rw e refl

pub stands-row-passed : (mode : Rounding) (tokens : List (List ℕ)) (before : List Line) (r : Reading) → Stands mode before r → next_position before ≡ passed_over
    → Stands mode (row tokens ∷ before) r
stands-row-passed mode tokens before r h e = record {
  same_mode = h.same_mode;
  position = h.position ∙ (e ∙ ap (after_row tokens) (sym e));
  keywords = knows-same mode before (row tokens ∷ before) r.keywords (λ k. refl) h.keywords;
  sections = λ s. section-kept mode before (row tokens ∷ before) s _ (λ _. refl) refl (passed-rows mode tokens before s e) (h.sections s);
}

-- a row of a section
rows-within : (mode : Rounding) (tokens : List (List ℕ)) (before : List Line) (s : Section) → next_position before ≡ within s
    → rows_of mode s (row tokens ∷ before) ≡ rows_of mode s before ++ row_numbers mode s (rows_of mode s before) tokens ∷ []
unfolding rows_of
rows-within mode tokens before s e = rw (e, same_section-refl s) refl

rows-beside : (mode : Rounding) (tokens : List (List ℕ)) (before : List Line) (s t : Section) → next_position before ≡ within s → same_section s t ≡ false
    → rows_of mode t (row tokens ∷ before) ≡ rows_of mode t before
unfolding rows_of
rows-beside mode tokens before s t e other = rw (e, same_section-sym t s ∙ other) refl

row-added : (mode : Rounding) (tokens : List (List ℕ)) (before : List Line) (s : Section) (found : Option Listed) → next_position before ≡ within s
    → is_some found ≡ true → KnowsSection mode before s found → KnowsSection mode (row tokens ∷ before) s (option_map (with_row mode tokens) found)
row-added mode tokens before s None e some h = absurd (cc)
row-added mode tokens before s (Some listed) e some h =
    (h.0, ap (with_row mode tokens) h.1 ∙ rw (rows-within mode tokens before s e) refl)

-- the rows of a section behind one row more of this one
abbrev rows_behind : Rounding → List (List ℕ) → Section → Section → Option Listed → Option Listed → Option Listed
rows_behind mode tokens s t found other = if same_section s t then option_map (with_row mode tokens) found else other

sections-behind : (mode : Rounding) (tokens : List (List ℕ)) (before : List Line) (s t : Section) (found other : Option Listed) → next_position before ≡ within s
    → is_some found ≡ true → KnowsSection mode before s found → KnowsSection mode before t other
    → KnowsSection mode (row tokens ∷ before) t (rows_behind mode tokens s t found other)
sections-behind mode tokens before s t found other e some h beside =
    elim (same_section s t) as (λ v. same_section s t ≡ v
    → KnowsSection mode (row tokens ∷ before) t (if v then option_map (with_row mode tokens) found else other)) [
      | true ↦ λ same. subst (λ x. KnowsSection mode (row tokens ∷ before) x (option_map (with_row mode tokens) found)) (same_section-true s t same)
          (row-added mode tokens before s found e some h)
      | false ↦ λ differs. section-kept mode before (row tokens ∷ before) t other (λ _. refl) refl (rows-beside mode tokens before s t e differs) beside
    ] refl

pub stands-row-within : (mode : Rounding) (tokens : List (List ℕ)) (before : List Line) (s : Section) (r new : Reading) → Stands mode before r → r.position ≡ within s
    → new.mode ≡ r.mode → new.position ≡ after_row tokens (within s) → new.keywords ≡ r.keywords → is_some (get same_section r.sections s) ≡ true
    → ((t : Section) → get same_section new.sections t ≡ rows_behind mode tokens s t (get same_section r.sections s) (get same_section r.sections t))
    → Stands mode (row tokens ∷ before) new
stands-row-within mode tokens before s r new h at m p w some e = record {
  same_mode = m ∙ h.same_mode;
  position = p ∙ ap (after_row tokens) (sym at ∙ h.position);
  keywords = rw w (knows-same mode before (row tokens ∷ before) r.keywords (λ k. refl) h.keywords);
  sections = λ t. rw (e t) (sections-behind mode tokens before s t (get same_section r.sections s) (get same_section r.sections t) (sym h.position ∙ at) some
      (h.sections s) (h.sections t));
}

pub row_fault-known : (mode : Rounding) (before : List Line) (s : Section) (tokens : List (List ℕ)) (weights : ℕ) (listed : Listed) → KnowsSection mode before s (Some listed)
    → weights ≡ weight_count mode before → fault_of_row mode listed.section tokens listed.nodes weights listed.rows ≡ row_fault mode s tokens before
row_fault-known mode before s tokens weights listed h e = rw (h.1, e) refl

pub row_fault-found : (mode : Rounding) (before : List Line) (s : Section) (tokens : List (List ℕ)) (weights : ℕ) (fault : Option Rule) (found : Option Listed)
    → is_some found ≡ true → KnowsSection mode before s found → weights ≡ weight_count mode before
    → ForSome found (λ l. fault ≡ fault_of_row mode l.section tokens l.nodes weights l.rows) → fault ≡ row_fault mode s tokens before
row_fault-found mode before s tokens weights fault None some h e is = absurd (cc)
row_fault-found mode before s tokens weights fault (Some listed) some h e is = is listed refl ∙ row_fault-known mode before s tokens weights listed h e

-- the checks of a row, by where it stands
pub row-within : (mode : Rounding) (tokens : List (List ℕ)) (before : List Line) (s : Section) (fault : Option Rule) → next_position before ≡ within s
    → fault ≡ row_fault mode s tokens before → fault ≡ fault_of_line mode (row tokens) before
row-within mode tokens before s fault at e =
    e ∙ sym (row-checks mode tokens before (within s) at ∙ alone (row_fault mode s tokens before))

pub row-passed : (mode : Rounding) (tokens : List (List ℕ)) (before : List Line) → next_position before ≡ passed_over → None ≡ fault_of_line mode (row tokens) before
row-passed mode tokens before at = sym (row-checks mode tokens before passed_over at)

pub row-stray : (mode : Rounding) (tokens : List (List ℕ)) (before : List Line) → next_position before ≡ outside → Some NoKeyword ≡ fault_of_line mode (row tokens) before
row-stray mode tokens before at = sym (row-checks mode tokens before outside at)

-- a section that isn't closed is the same one
pub after_row-same : (tokens : List (List ℕ)) (s t : Section) → after_row tokens (within s) ≡ within t → s ≡ t
after_row-same tokens depot_section t e =
    elim (list_any is_minus_one_token tokens) as (λ v. (if v then outside else within depot_section) ≡ within t → depot_section ≡ t) [
      | true ↦ λ closed. absurd (cc)
      | false ↦ λ stays. cc
    ] e
after_row-same tokens s t e = cc

-- a line of the text without a zero byte is judged as its kind is
pub text-judged : (old new : Reading) (text : List ℕ) (line : Line) (fault : Option Rule) (before : List Line) → has_zero text ≡ false → line ≡ line_of text
    → Judges old line fault new before → JudgesText old text fault new before
text-judged old new text line fault before ink e h = record {
  judged = h.judged ∙ (ap (λ line. fault_of_line old.mode line before) e ∙ sym (text-checks old.mode before text false ink));
  kept = λ none. subst (λ line. Stands old.mode (behind line before) new) e (h.kept none);
}

pub empty-judged : (r : Reading) (line : Line) (before : List Line) → line ≡ empty → Stands r.mode before r → Judges r line None r before
empty-judged r line before e h = subst (λ line. Judges r line None r before) (sym e) (record {
  judged = sym (empty-checks r.mode before);
  kept = λ _. stands-empty r.mode before r h;
})

pub end-judged : (r : Reading) (line : Line) (fault : Option Rule) (before : List Line) → line ≡ end_of_file → fault ≡ broken_if (is_short r.mode before) RowCount
    → Stands r.mode before r → Judges r line fault r before
end-judged r line fault before e f h = subst (λ line. Judges r line fault r before) (sym e) (record {
  judged = f ∙ sym (end-checks r.mode before);
  kept = λ _. h;
})
