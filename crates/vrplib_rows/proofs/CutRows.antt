-- Rows that are kept one after the other.
use Rattle.std.proofs.Common.{◌≡◌, ◌+◌, ◌-◌, ◌<◌, ◌≤◌, ℕ, zero, suc, List, [], ◌∷◌, ◌++◌, length, get_or, take, drop, refl, sym, ◌∙◌, ap, arith, ℤ, Some}
use Rattle.std.specs.Prelude.{flat_map, slice_get, slice_range}
use Rattle.std.proofs.lemmas.List.{drop-drop, drop_all, drop-append-le, drop_at, length-drop, take-append-drop, take-append-le, take_all}
use Rattle.vrplib_rows.specs.inside.RowTables.{EndInOrder, rows_cut}

-- where the k-th row begins
abbrev pub start_of : ℕ → List ℕ → ℕ → ℕ
start_of start ends k = get_or (start ∷ ends) k 0

pub length-rows_cut : (start : ℕ) (ends : List ℕ) (numbers : List ℤ) → length (rows_cut start ends numbers) ≡ length ends
length-rows_cut start [] numbers = refl
length-rows_cut start (end ∷ ends) numbers = ap suc (length-rows_cut end ends numbers)

last_above : (start : ℕ) (ends : List ℕ) (last : ℕ) → EndInOrder start ends last → start ≤ last
last_above start [] last o = omega arith
last_above start (end ∷ ends) last o = omega (arith, o.0, last_above end ends last o.1)

-- a row lies among the numbers
pub ends_below : (start : ℕ) (ends : List ℕ) (last k : ℕ) → EndInOrder start ends last → k < length ends → (start_of start ends k ≤ get_or ends k 0) × (get_or ends k 0 ≤ last)
ends_below start [] last k o h = absurd (omega arith)
ends_below start (end ∷ ends) last zero o h = (o.0, last_above end ends last o.1)
ends_below start (end ∷ ends) last (suc k) o h = ends_below end ends last k o.1 (omega arith)

-- the k-th row
pub slice_get-rows_cut : (start : ℕ) (ends : List ℕ) (numbers : List ℤ) (k : ℕ) → k < length ends → slice_get (rows_cut start ends numbers) k ≡ Some (slice_range numbers (start_of start ends k) (get_or ends k 0))
slice_get-rows_cut start [] numbers k h = absurd (omega arith)
slice_get-rows_cut start (end ∷ ends) numbers zero h = refl
slice_get-rows_cut start (end ∷ ends) numbers (suc k) h = slice_get-rows_cut end ends numbers k (omega arith)

-- the rows together are the numbers
flat_map-rows_cut : (start : ℕ) (ends : List ℕ) (numbers : List ℤ) → EndInOrder start ends (length numbers) → flat_map (λ row. row) (rows_cut start ends numbers) ≡ drop start numbers
flat_map-rows_cut start [] numbers o = sym (drop_all start numbers (omega arith))
flat_map-rows_cut start (end ∷ ends) numbers o =
    let there : start + (end - start) ≡ end = omega (arith, o.0) in
    ap (λ ns. take (end - start) (drop start numbers) ++ ns) (flat_map-rows_cut end ends numbers o.1 ∙ ap (λ m. drop m numbers) (sym there) ∙ sym (drop-drop (end - start) start numbers))
    ∙ take-append-drop (end - start) (drop start numbers)

pub numbers_of_rows : (ends : List ℕ) (numbers : List ℤ) → EndInOrder 0 ends (length numbers) → numbers ≡ flat_map (λ row. row) (rows_cut 0 ends numbers)
numbers_of_rows ends numbers o = sym (flat_map-rows_cut 0 ends numbers o)

-- one row more
pub ordered_more : (start : ℕ) (ends : List ℕ) (last next : ℕ) → EndInOrder start ends last → last ≤ next → EndInOrder start (ends ++ next ∷ []) next
ordered_more start [] last next o h = (omega arith, refl)
ordered_more start (end ∷ ends) last next o h = (o.0, ordered_more end ends last next o.1 h)

range_before : (numbers row : List ℤ) (a b : ℕ) → a ≤ b → b ≤ length numbers → slice_range (numbers ++ row) a b ≡ slice_range numbers a b
range_before numbers row a b h l =
    ap (take (b - a)) (drop-append-le a numbers row (omega arith)) ∙ take-append-le (b - a) (drop a numbers) row (omega (arith, length-drop a numbers))

pub rows_cut-append : (start : ℕ) (ends : List ℕ) (numbers row : List ℤ) → EndInOrder start ends (length numbers)
    → rows_cut start (ends ++ (length numbers + length row) ∷ []) (numbers ++ row) ≡ rows_cut start ends numbers ++ row ∷ []
rows_cut-append start [] numbers row o =
    let all : (length numbers + length row) - start ≡ length row = omega arith in
    ap (λ r. r ∷ []) (ap (λ m. take m (drop start (numbers ++ row))) all ∙ ap (take (length row)) (drop_at numbers row start (sym o)) ∙ take_all (length row) row (omega arith))
rows_cut-append start (end ∷ ends) numbers row o =
    ap (λ r. r ∷ rows_cut end (ends ++ (length numbers + length row) ∷ []) (numbers ++ row)) (range_before numbers row start end o.0 (last_above end ends (length numbers) o.1))
    ∙ ap (λ rs. slice_range numbers start end ∷ rs) (rows_cut-append end ends numbers row o.1)
