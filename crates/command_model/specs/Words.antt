-- The words of the command: `--seed S --max_iterations N NAME`, these five in this order and no others.
use Rattle.std.specs.Prelude.{ℕ, ◌-◌, ◌^◌, ◌&&◌, ◌==◌, nat_lt, nat_le, Bool, if◌then◌else◌, List, [], length, take, slice_index, slice_index_or, Option, Some, None, option_and_then, option_map, codes, nat_eq}
use Rattle.std.specs.List.{after_last, ends_with}
use Rattle.std.specs.Str.{all_ascii_digits, bytes_eq}
use Rattle.std.specs.Str.Parse.{digits_value, without_leading_plus}

-- what the words ask for: the generator's seed, the number of iterations, and the path of the instance
pub record Asked : Type 0 where
  pub seed : ℕ
  pub iterations : ℕ
  pub path : List ℕ

-- the greatest seed
abbrev pub largest_seed : ℕ
largest_seed = 2 ^ 32 - 1

-- the greatest number of iterations
abbrev pub most_iterations : ℕ
most_iterations = 1000000000

-- one digit or more
abbrev pub is_numeral : List ℕ → Bool
is_numeral text = all_ascii_digits text && nat_lt 0 (length text)

-- the number that a text spells in decimal digits, a plus before them or not, where it is at most `most`
abbrev pub number_up_to : ℕ → List ℕ → Option ℕ
number_up_to most text = let digits = without_leading_plus text in
    if is_numeral digits && nat_le (digits_value 10 digits) most then Some (digits_value 10 digits) else None

-- whether a word begins as options do
abbrev pub is_option_like : List ℕ → Bool
is_option_like word = slice_index word 0 == 45

-- a seed, a number of iterations and a path, where they are right
abbrev pub asked_by : List ℕ → List ℕ → List ℕ → Option Asked
asked_by seed iterations path =
    if is_option_like path then None
    else option_and_then (λ s. option_map (λ n. record { seed = s; iterations = n; path = path }) (number_up_to most_iterations iterations)) (number_up_to largest_seed seed)

-- whether two words are the names of the two options
abbrev pub are_option_names : List ℕ → List ℕ → Bool
are_option_names first second = bytes_eq first (codes "--seed") && bytes_eq second (codes "--max_iterations")

-- the k-th word, from 0, or an empty one
abbrev pub word_at : List (List ℕ) → ℕ → List ℕ
word_at words k = slice_index_or words k []

-- what five words ask for
abbrev pub asked_of_five : List (List ℕ) → Option Asked
asked_of_five words =
    if are_option_names (word_at words 0) (word_at words 2) then asked_by (word_at words 1) (word_at words 3) (word_at words 4) else None

-- what the words ask for, or none where they are wrong
abbrev pub asked : List (List ℕ) → Option Asked
asked words = if length words == 5 then asked_of_five words else None

-- a path without `.vrp` at its end
abbrev pub without_ending : List ℕ → List ℕ
without_ending name = if ends_with nat_eq name (codes ".vrp") then take (length name - 4) name else name

-- the name of an instance: what stands after the last `/`, without that ending
abbrev pub base_name : List ℕ → List ℕ
base_name path = without_ending (after_last (λ b. b == 47) path)
