-- What `{:<width}` and `{:>width}` write of a text is the text in a column.
use Rattle.std.proofs.Common.{◌≡◌, ℕ, ◌-◌, ◌^◌, ◌<◌, List, [], ◌∷◌, ◌++◌, length, codes, refl, ap, ◌∙◌, arith, lit<}
use Rattle.std.specs.Fmt.{char_count, take_chars, padded, format_spec}
use Rattle.std.specs.List.{concat}
use Rattle.std.proofs.Padding.{repeat_ascii, take_chars_all}
use Rattle.std.proofs.lemmas.List.{append-nil}
use Rattle.vrp_texts.specs.Tables.{left, right, table_line}

-- what the two write
abbrev pub padded_left : ℕ → List ℕ → List ℕ
padded_left width text = padded (format_spec 32 1 0 width (2 ^ 64 - 1)) text

abbrev pub padded_right : ℕ → List ℕ → List ℕ
padded_right width text = padded (format_spec 32 3 0 width (2 ^ 64 - 1)) text

-- a precision of `usize::MAX` is none: no text is cut
uncut : (text : List ℕ) → length text < 2 ^ 64 → take_chars (2 ^ 64 - 1) text ≡ text
uncut text short = take_chars_all (2 ^ 64 - 1) text (omega arith)

-- to the left
pub padded_left-is : (width : ℕ) (text : List ℕ) → length text < 2 ^ 64 → padded_left width text ≡ left width text
unfolding padded
padded_left-is width text short =
    let all : width - char_count text - 0 ≡ width - char_count text = omega arith in
    rw (uncut text short, all, repeat_ascii (width - char_count text) 32 (lit< tt)) refl

-- to the right
pub padded_right-is : (width : ℕ) (text : List ℕ) → length text < 2 ^ 64 → padded_right width text ≡ right width text
unfolding padded
padded_right-is width text short =
    let padding = width - char_count text in
    let none : padding - padding ≡ 0 = omega arith in
    rw (uncut text short, none, repeat_ascii padding 32 (lit< tt), append-nil text) refl

-- a line of four texts
abbrev line_of : List ℕ → List ℕ → List ℕ → List ℕ → List ℕ
line_of a b c d = concat (a ∷ codes " " ∷ b ∷ codes " " ∷ c ∷ codes " " ∷ d ∷ codes "\n" ∷ [])

-- what `{:<24} {:<2} {:>20} {:>10}` and a line feed write
abbrev pub formatted_line : List ℕ → List ℕ → List ℕ → List ℕ → List ℕ
formatted_line name ok cost iterations = line_of (padded_left 24 name) (padded_left 2 ok) (padded_right 20 cost) (padded_right 10 iterations)

-- it is a line of the table
pub formatted_line-is : (name ok cost iterations : List ℕ) → length name < 2 ^ 64 → length ok < 2 ^ 64 → length cost < 2 ^ 64 → length iterations < 2 ^ 64
    → formatted_line name ok cost iterations ≡ table_line name ok cost iterations
formatted_line-is name ok cost iterations h i j k =
    ap (λ t. line_of t (padded_left 2 ok) (padded_right 20 cost) (padded_right 10 iterations)) (padded_left-is 24 name h)
    ∙ ap (λ t. line_of (left 24 name) t (padded_right 20 cost) (padded_right 10 iterations)) (padded_left-is 2 ok i)
    ∙ ap (λ t. line_of (left 24 name) (left 2 ok) t (padded_right 10 iterations)) (padded_right-is 20 cost j)
    ∙ ap (λ t. line_of (left 24 name) (left 2 ok) (right 20 cost) t) (padded_right-is 10 iterations k)
