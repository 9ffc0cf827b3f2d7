-- The profiles over base legs, and whether a leg of theirs is too long.
use Rattle.std.proofs.Common.{◌≡◌, ℕ, ◌+◌, ◌*◌, ◌/◌, ◌^◌, ◌≤◌, Bool, true, false, cond, ◌<◌, List, [], ◌∷◌, length, map, take, get_or, refl, sym, ◌∙◌, ap, subst, Option, Some, None, ℤ, arith}
use Rattle.std.specs.List.{All, list_any, slice_get}
use Rattle.indexmap.specs.IndexMap.{get}
use Rattle.std.proofs.lemmas.Bool.Decides.{nat_tests}
use Rattle.std.proofs.lemmas.List.{map-append}
use Rattle.std.proofs.lemmas.Simd.{map-map}
use Rattle.std.proofs.lemmas.List.Elements.{All-head, All-tail}
use Rattle.std.proofs.lemmas.List.Folds.{list_any-append, list_any_at}
use Rattle.std.proofs.lemmas.Option.{slice_get_within, get_or_from_slice_get}
use Rattle.vrp_num.specs.declared.rounding.Rounding.{Rounding}
use Rattle.vrplib_read.specs.declared.reading.Reading.{Reading}
use Rattle.vrplib_model.specs.declared.section.Section.{Section}
use Rattle.vrplib_model.specs.declared.section.Section.TheVariants.{Profile as profile_section}
use Rattle.vrplib_model.specs.Sections.{same_section}
use Rattle.vrplib_model.specs.LineKinds.{Line}
use Rattle.vrplib_model.specs.Numbers.{number_at}
use Rattle.vrplib_model.specs.Values.{node_count}
use Rattle.vrplib_model.specs.Entries.{nodes}
use Rattle.vrplib_rows.specs.KeptRows.{Listed}
use Rattle.vrplib_model.specs.inside.FaultlessRows.{IsRow, IsProfileRow}
use Rattle.vrplib_model.specs.Legs.{base_leg, profile_of_row, profiles}
use Rattle.vrplib_read.specs.inside.Stands.{Stands}
use Rattle.vrplib_read.specs.inside.OfText.{known_nodes, is_long, scaled, scaled_profile}
use Rattle.vrplib_model.specs.WholeText.{has_long_leg}
use Rattle.vrplib_read.proofs.RowLaws.{any_mapped, map_taken}
use Rattle.vrplib_model.proofs.WholeFacts.{length-counted}
use Rattle.vrplib_read.proofs.LegLaws.{map_same}
use Rattle.vrplib_model.proofs.LegTables.{rows_by}
use Rattle.vrplib_read.proofs.Standing.{nodes_stand, rows_stand, section_stands}

-- an element that passes, among mapped ones
pub any_got : {X Y : Type 0} (p : Y → Bool) (f : X → Y) (xs : List X) (k : ℕ) (x : X) → slice_get xs k ≡ Some x → p (f x) ≡ true → list_any p (map f xs) ≡ true
any_got p f xs k x e passes =
    any_mapped p f xs ∙ list_any_at (λ x. p (f x)) xs k x (slice_get_within xs k x e) (ap (λ y. p (f y)) (get_or_from_slice_get xs k x x e) ∙ passes)

pub none_taken : {X Y : Type 0} (p : Y → Bool) (f : X → Y) (xs : List X) (k : ℕ) (x : X) → slice_get xs k ≡ Some x →
    list_any p (map f (take k xs)) ≡ false → p (f x) ≡ false → list_any p (map f (take (k + 1) xs)) ≡ false
none_taken p f xs k x e before here =
    ap (list_any p) (map_taken f xs k x e) ∙ list_any-append p (map f (take k xs)) (f x ∷ []) ∙ rw (before, here) refl

-- legs within the largest
short_leg : (leg : ℕ) → leg ≤ 4 * 10 ^ 9 → is_long leg ≡ false
short_leg leg h = grind (arith, nat_tests)

pub short_legs : (legs : List ℕ) → All (λ leg. leg ≤ 4 * 10 ^ 9) legs → list_any is_long legs ≡ false
short_legs [] each = refl
short_legs (leg ∷ legs) each =
    rw (short_leg leg (All-head (λ leg. leg ≤ 4 * 10 ^ 9) leg legs each), short_legs legs (All-tail (λ leg. leg ≤ 4 * 10 ^ 9) leg legs each)) refl

-- mapped tables
map_rows : {X Y : Type 0} (g : ℕ → ℕ) (f : X → Y → ℕ) (xs : List X) (ys : List Y) → map g (rows_by f xs ys) ≡ rows_by (λ x y. g (f x y)) xs ys
map_rows g f [] ys = refl
map_rows g f (x ∷ xs) ys = map-append g (map (f x) ys) (rows_by f xs ys) ∙ rw (map-map g (f x) ys, map_rows g f xs ys) refl

pub size_stands : (r : Reading) (all : List Line) → Stands r.mode all r → length (nodes r.mode all) ≡ known_nodes r
size_stands r all st = length-counted 1 (node_count r.mode all) ∙ nodes_stand r all st

profile_is : (mode : Rounding) (all : List Line) (size : ℕ) (base : List ℕ) (numbers : List ℤ) → size ≡ length (nodes mode all) →
    base ≡ rows_by (base_leg mode all) (nodes mode all) (nodes mode all) → profile_of_row mode all numbers ≡ scaled_profile size base numbers
profile_is mode all size base numbers hs hb =
    rw (
      hs,
      hb,
      map_rows (λ leg. leg * number_at 1 numbers / 1000) (base_leg mode all) (nodes mode all) (nodes mode all),
      map_rows (λ leg. leg * number_at 2 numbers / 1000) (base_leg mode all) (nodes mode all) (nodes mode all),
    ) refl

-- the profiles of the rows that are known
pub profiles_known : (r : Reading) (all : List Line) → Stands r.mode all r → (size : ℕ) (base : List ℕ) (listed : Listed) →
    get same_section r.sections profile_section ≡ Some listed → size ≡ known_nodes r →
    base ≡ rows_by (base_leg r.mode all) (nodes r.mode all) (nodes r.mode all) → profiles r.mode all ≡ map (scaled_profile size base) listed.rows
profiles_known r all st size base listed found hs hb =
    rw (section_stands r all st profile_section, rows_stand r all st profile_section, found)
    (map_same (profile_of_row r.mode all) (scaled_profile size base) (λ numbers. profile_is r.mode all size base numbers (hs ∙ sym (size_stands r all st)) hb) listed.rows)

pub only_known : (r : Reading) (all : List Line) → Stands r.mode all r → (size : ℕ) (base : List ℕ) →
    get same_section r.sections profile_section ≡ None → size ≡ known_nodes r →
    base ≡ rows_by (base_leg r.mode all) (nodes r.mode all) (nodes r.mode all) →
    profiles r.mode all ≡ record { distances = record { size = size; entries = base }; durations = record { size = size; entries = base } } ∷ []
only_known r all st size base missing hs hb =
    rw (section_stands r all st profile_section, missing, hs ∙ sym (size_stands r all st), hb) refl

-- what the row of a profile is
pub profile_row : (s : Section) (n : ℕ) (row : List ℤ) → s ≡ profile_section → IsRow s n row → IsProfileRow row
profile_row s n row is b = let P : Section → Type 0 = λ s. IsRow s n row in subst P is b

none_means : (b : Bool) (v : ℕ) → cond b None (Some v) ≡ None → b ≡ true
none_means true v e = refl
none_means false v e = cc

-- a leg that is too long
pub long_leg : (factor : ℕ) (base : List ℕ) (k : ℕ) (made : Option ℕ) → k < length base →
    made ≡ cond (is_long (get_or base k 0 * factor / 1000)) None (Some (get_or base k 0 * factor / 1000)) → made ≡ None → list_any is_long (scaled factor base) ≡ true
long_leg factor base k made within is none =
    any_mapped is_long (λ leg. leg * factor / 1000) base
    ∙ list_any_at (λ leg. is_long (leg * factor / 1000)) base k 0 within (none_means (is_long (get_or base k 0 * factor / 1000)) (get_or base k 0 * factor / 1000) (sym is ∙ none))

-- the one profile has no long leg
pub only_short : (size : ℕ) (base : List ℕ) → All (λ leg. leg ≤ 4 * 10 ^ 9) base →
    list_any has_long_leg (record { distances = record { size = size; entries = base }; durations = record { size = size; entries = base } } ∷ []) ≡ false
only_short size base each = rw (short_legs base each) refl
