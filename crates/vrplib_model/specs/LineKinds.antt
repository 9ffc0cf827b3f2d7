-- What a line is. A line whose first byte is a letter is a word line, and any other line is a row of numbers.
use Rattle.std.specs.Prelude.{ℕ, Bool, true, false, ◌==◌, List, [], ◌∷◌, if◌then◌else◌, codes, bytes_eq}
use Rattle.std.specs.List.{list_any, before_first, after_first}
use Rattle.std.specs.Char.{is_ascii_alphabetic}
use Rattle.vrplib_model.specs.Lines.{trimmed, tokens}
use Rattle.vrplib_model.specs.Sections.{is_section_key}

-- the kinds of lines
pub data Line : Type 0 where
  -- an empty line
  empty : Line
  -- the line `EOF`
  end_of_file : Line
  -- a word line whose key ends in `_SECTION`, by its key
  section_line : List ℕ → Line
  -- any other word line with a colon, by its key and the tokens of its value
  keyword_line : List ℕ → List (List ℕ) → Line
  -- any other word line
  word_line : Line
  -- a line of numbers, by its tokens
  row : List (List ℕ) → Line

-- `:`
abbrev pub is_colon : ℕ → Bool
is_colon b = b == 58

-- what stands before the first colon, or the whole line, without blanks at its ends
unfoldable pub key_of : List ℕ → List ℕ
key_of line = trimmed (before_first is_colon line)

-- the tokens behind the first colon
unfoldable pub value_of : List ℕ → List (List ℕ)
value_of line = tokens (after_first is_colon line)

-- what a word line is
unfoldable pub word_line_of : List ℕ → Line
word_line_of line =
    if is_section_key (key_of line) then section_line (key_of line)
    else (if list_any is_colon line then keyword_line (key_of line) (value_of line)
    else (if bytes_eq line (codes "EOF") then end_of_file else word_line))

-- what a line without blanks at its ends is
unfoldable pub trimmed_line_of : List ℕ → Line
trimmed_line_of [] = empty
trimmed_line_of (b ∷ line) = if is_ascii_alphabetic b then word_line_of (b ∷ line) else row (tokens (b ∷ line))

-- what a line of the text is
abbrev pub line_of : List ℕ → Line
line_of text = trimmed_line_of (trimmed text)

-- the line is `EOF`, which ends the reading
abbrev pub is_end : Line → Bool
is_end end_of_file = true
is_end _ = false

-- the line ends the section that was open
abbrev pub ends_section : Line → Bool
ends_section (section_line _) = true
ends_section (keyword_line _ _) = true
ends_section end_of_file = true
ends_section _ = false
