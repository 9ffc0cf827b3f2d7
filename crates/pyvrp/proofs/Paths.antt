-- The parts of a path.
use Rattle.std.proofs.Common.{◌≡◌, ◌≢◌, ℕ, ◌+◌, ◌-◌, ◌<◌, ◌≤◌, Bool, true, false, List, ◌++◌, length, get_or, take, drop, refl, ◌∙◌, ap, arith, length-drop}
use Rattle.std.specs.Prelude.{not, ◌==◌, nat_eq, if◌then◌else◌, codes}
use Rattle.std.specs.List.{after_last, suffix_len, ends_with}
use Rattle.std.specs.Str.{NoCharPasses, IsCharBoundary}
use Rattle.std.specs.Str.Pattern.{RFindsChar, HasCharAt, SplitsAroundMatch, StripsSuffix, FindsTextSuffix}
use Rattle.std.proofs.lemmas.Bool.Decides.{nat_tests}
use Rattle.std.proofs.lemmas.List.{get_or-drop}
use Rattle.std.proofs.lemmas.List.Sums.{suffix_len_is}
use Rattle.std.proofs.lemmas.Str.Pattern.{NoCharPasses-char, ends_text}
use Rattle.command_model.specs.Words.{without_ending}

isn't : (m n : ℕ) → m ≢ n → not (m == n) ≡ true
isn't m n h = grind (arith, nat_tests)

is_one : (m n : ℕ) → m ≡ n → not (m == n) ≡ false
is_one m n h = grind (arith, nat_tests)

-- what is behind the last of a byte, where it ends before j and none comes from j on
behind_last : (c : ℕ) (s : List ℕ) (j : ℕ) → j ≤ length s → ((k : ℕ) → j ≤ k → k < length s → get_or s k 0 ≢ c) → (0 < j → get_or s (j - 1) 0 ≡ c)
    → drop j s ≡ after_last (λ b. b == c) s
behind_last c s j within none last =
    let tail : suffix_len (λ x. not (x == c)) s ≡ length s - j =
    suffix_len_is (λ x. not (x == c)) s j 0 within (λ k from below. isn't _ c (none k from below)) (λ some. is_one _ c (last some)) in
    let start : j ≡ length s - suffix_len (λ x. not (x == c)) s = rw tail (omega arith) in
    ap (λ n. drop n s) start

pub behind_slash : (s front back : List ℕ) → SplitsAroundMatch (RFindsChar 47) s front back → back ≡ after_last (λ b. b == 47) s
behind_slash s front back split =
    let i : ℕ = split.0 in
    let j : ℕ = split.1 in
    let at : HasCharAt 47 s i j = split.2.1 in
    let ends : j ≡ i + 1 = at.ends in
    let none : (k : ℕ) → j ≤ k → k < length s → get_or s k 0 ≢ 47 = λ k from below.
    let behind : get_or (drop j s) (k - j) 0 ≢ 47 = NoCharPasses-char 47 (drop j s) (k - j) split.2.0 (omega arith) (rw length-drop (omega arith)) in
    let same : get_or (drop j s) (k - j) 0 ≡ get_or s (j + (k - j)) 0 = get_or-drop j s (k - j) 0 in
    let place : j + (k - j) ≡ k = omega arith in
    λ slash. behind (same ∙ ap (λ n. get_or s n 0) place ∙ slash) in
    let last : 0 < j → get_or s (j - 1) 0 ≡ 47 = λ some. let place : j - 1 ≡ i = omega arith in rw place (at.byte (omega arith)) in
    split.4 ∙ behind_last 47 s j (omega (arith, split.7)) none last

pub without_slash : (s : List ℕ) → NoCharPasses (λ d. d == 47) s → s ≡ after_last (λ b. b == 47) s
without_slash s none =
    behind_last 47 s 0 (omega arith) (λ k from below. NoCharPasses-char 47 s k none (omega arith) below) (λ some. absurd (omega arith))

either : (b : Bool) (s t : List ℕ) → true ≡ b → t ≡ (if b then t else s)
either true s t h = refl
either false s t h = cc

neither : (b : Bool) (s t : List ℕ) → false ≡ b → s ≡ (if b then t else s)
neither true s t h = cc
neither false s t h = refl

-- a path that ends in `.vrp`, without that ending
pub ending_taken : (s rest : List ℕ) → StripsSuffix (FindsTextSuffix (codes ".vrp")) s rest → rest ≡ without_ending s
ending_taken s rest h =
    let n : ℕ = h.0 in
    let four : n ≡ 4 = h.1.0 in
    let cut : rest ≡ take (length s - n) s = h.2 in
    let boundary : IsCharBoundary s (length s - n) = rw four h.1.2 in
    let ends : true ≡ ends_with nat_eq s (codes ".vrp") = ends_text true (codes ".vrp") s (n, h.1, omega (arith, h.3), boundary) in
    cut ∙ ap (λ k. take (length s - k) s) four ∙ either (ends_with nat_eq s (codes ".vrp")) s (take (length s - 4) s) ends

-- any other path as it is
pub no_ending : (s : List ℕ) → ((front : List ℕ) → s ≢ front ++ codes ".vrp") → s ≡ without_ending s
no_ending s h = neither (ends_with nat_eq s (codes ".vrp")) s (take (length s - 4) s) (ends_text false (codes ".vrp") s h)
