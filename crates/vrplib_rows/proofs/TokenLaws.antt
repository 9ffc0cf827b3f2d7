-- The tokens of a text, one after the other.
use Rattle.std.proofs.Common.{◌≡◌, ℕ, suc, ◌<◌, ◌≤◌, true, false, cond, List, [], ◌∷◌, length, take, drop, refl, sym, ◌∙◌, ap, subst, arith, lt-ltb}
use Rattle.std.specs.Prelude.{filter, nat_lt, not}
use Rattle.std.specs.List.{slice_split, onto_first, position_or_len}
use Rattle.std.proofs.lemmas.List.{length-take, nil_from_length}
use Rattle.std.proofs.lemmas.List.Sums.{prefix_len-le-length}
use Rattle.vrplib_model.specs.Lines.{is_blank, tokens, without_indent}

-- a blank ends no token
tokens-blank : (b : ℕ) (text : List ℕ) → is_blank b ≡ true → tokens (b ∷ text) ≡ tokens text
tokens-blank b text h = rw h refl

pub tokens-without_indent : (text : List ℕ) → tokens (without_indent text) ≡ tokens text
tokens-without_indent [] = refl
tokens-without_indent (b ∷ text) =
    elim (is_blank b) as (λ v. is_blank b ≡ v → tokens (cond v (without_indent text) (b ∷ text)) ≡ tokens (b ∷ text)) [
      | true ↦ λ e. tokens-without_indent text ∙ sym (tokens-blank b text e)
      | false ↦ λ e. refl
    ] refl

-- how many bytes stand before the first blank
abbrev ink_length : List ℕ → ℕ
ink_length text = position_or_len is_blank text

ink_length-more : (b : ℕ) (text : List ℕ) → is_blank b ≡ false → ink_length (b ∷ text) ≡ suc (ink_length text)
ink_length-more b text h = rw h (omega arith)

ink_length-none : (b : ℕ) (text : List ℕ) → is_blank b ≡ true → ink_length (b ∷ text) ≡ 0
ink_length-none b text h = rw h refl

pub ink_length-within : (text : List ℕ) → ink_length text ≤ length text
ink_length-within text = prefix_len-le-length (λ b. not (is_blank b)) text

-- the first part between blanks, and the parts behind it
record Parts (text : List ℕ) : Type 0 where
  pub more : List (List ℕ)
  pub split : slice_split is_blank text ≡ take (ink_length text) text ∷ more
  pub behind : filter (λ part. nat_lt 0 (length part)) more ≡ tokens (drop (ink_length text) text)

parts : (text : List ℕ) → Parts text
parts [] = record { more = []; split = refl; behind = refl }
parts (b ∷ text) =
    elim (is_blank b) as (λ v. is_blank b ≡ v → Parts (b ∷ text)) [
      | true ↦ λ e. record {
        more = slice_split is_blank text;
        split = rw (ink_length-none b text e, e) refl;
        behind = rw (ink_length-none b text e) (sym (tokens-blank b text e));
      }
      | false ↦ λ e. let p = parts text in record {
        more = p.more;
        split = rw (ink_length-more b text e, e) (ap (onto_first b) p.split);
        behind = rw (ink_length-more b text e) p.behind;
      }
    ] refl

-- ink that stands first is a token
some_ink : (text : List ℕ) → 0 < length (without_indent text) → 0 < ink_length (without_indent text)
some_ink [] h = h
some_ink (b ∷ text) h =
    elim (is_blank b) as (λ v. is_blank b ≡ v → 0 < length (cond v (without_indent text) (b ∷ text)) → 0 < ink_length (cond v (without_indent text) (b ∷ text))) [
      | true ↦ λ e some. some_ink text some
      | false ↦ λ e some. rw (ink_length-more b text e) (omega arith)
    ] refl h

first_part : (part : List ℕ) (more : List (List ℕ)) → 0 < length part
    → filter (λ part. nat_lt 0 (length part)) (part ∷ more) ≡ part ∷ filter (λ part. nat_lt 0 (length part)) more
first_part part more some = rw (lt-ltb 0 (length part) some) refl

tokens-ink : (text : List ℕ) → 0 < ink_length text → tokens text ≡ take (ink_length text) text ∷ tokens (drop (ink_length text) text)
tokens-ink text some =
    let p = parts text in
    let long : 0 < length (take (ink_length text) text) = simp length-take (omega (arith, ink_length-within text)) in
    ap (filter (λ part. nat_lt 0 (length part))) p.split ∙ (first_part (take (ink_length text) text) p.more long ∙ ap (λ parts. take (ink_length text) text ∷ parts) p.behind)

-- the first token of a text and those behind it, where what follows the first blanks is cut
pub tokens-first : (text rest before behind : List ℕ) (n : ℕ) → rest ≡ without_indent text → 0 < length rest → n ≡ ink_length rest → before ≡ take n rest → behind ≡ drop n rest
    → tokens text ≡ before ∷ tokens behind
tokens-first text rest before behind n e some at front back =
    let ink : 0 < ink_length rest = subst (λ r. 0 < ink_length r) (sym e) (some_ink text (subst (λ r. 0 < length r) e some)) in
    sym (tokens-without_indent text) ∙ (ap tokens (sym e) ∙ (tokens-ink rest ink ∙ cc))

pub tokens-none : (text rest : List ℕ) → rest ≡ without_indent text → length rest ≡ 0 → tokens text ≡ []
tokens-none text rest e none = sym (tokens-without_indent text) ∙ (ap tokens (sym e) ∙ ap tokens (nil_from_length rest none))
