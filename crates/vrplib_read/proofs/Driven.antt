-- How far the lines of a text have been read, and what is left.
use Rattle.std.proofs.Common.{◌≡◌, ℕ, ◌+◌, true, false, List, [], ◌∷◌, length, refl, sym, ◌∙◌, ap, subst, Option, Some, None, arith}
use Rattle.std.specs.Prelude.{if◌then◌else◌, option_map}
use Rattle.vrp_num.specs.declared.rounding.Rounding.{Rounding}
use Rattle.vrplib_read.specs.declared.reading.Reading.{Reading}
use Rattle.vrplib_model.specs.declared.rule.Rule.{Rule}
use Rattle.vrplib_model.specs.declared.rule.Rule.TheVariants.{RowCount}
use Rattle.vrplib_model.specs.Checks.{broken_if}
use Rattle.vrplib_model.specs.Faults.{fault_of}
use Rattle.vrplib_model.specs.LineKinds.{Line, line_of, is_end}
use Rattle.vrplib_model.specs.Reading.{first_fault, lines_onto, refusal_if}
use Rattle.vrplib_read.specs.inside.Stands.{Stands}
use Rattle.vrplib_read.specs.inside.Steps.{JudgesText}
use Rattle.vrplib_model.specs.WordFaults.{is_short}

-- some lines have been read without a fault, and these are left; the next one has this number
pub record Reads (mode : Rounding) (all rest : List (List ℕ)) (number : ℕ) (r : Reading) : Type 0 where
  pub before : List Line
  pub stands : Stands mode before r
  pub counted : number ≡ length before + 1
  pub same_fault : first_fault mode [] all ≡ first_fault mode before rest
  pub same_lines : lines_onto [] all ≡ lines_onto before rest

-- the first line that is left is faulty
fault-here : (mode : Rounding) (before : List Line) (text : List ℕ) (rest : List (List ℕ)) (rule : Rule) → Some rule ≡ fault_of mode before text
    → first_fault mode before (text ∷ rest) ≡ Some (record { line = length before + 1; rule = rule })
unfolding first_fault
fault-here mode before text rest rule e = rw (sym e) refl

-- it is faultless, and ends the reading or not
fault-end : (mode : Rounding) (before : List Line) (text : List ℕ) (rest : List (List ℕ)) → None ≡ fault_of mode before text → is_end (line_of text) ≡ true
    → first_fault mode before (text ∷ rest) ≡ None
unfolding first_fault
fault-end mode before text rest e last = rw (sym e, last) refl

fault-later : (mode : Rounding) (before : List Line) (text : List ℕ) (rest : List (List ℕ)) → None ≡ fault_of mode before text → is_end (line_of text) ≡ false
    → first_fault mode before (text ∷ rest) ≡ first_fault mode (line_of text ∷ before) rest
unfolding first_fault
fault-later mode before text rest e more = rw (sym e, more) refl

lines-end : (before : List Line) (text : List ℕ) (rest : List (List ℕ)) → is_end (line_of text) ≡ true → lines_onto before (text ∷ rest) ≡ before
lines-end before text rest last = rw last refl

lines-later : (before : List Line) (text : List ℕ) (rest : List (List ℕ)) → is_end (line_of text) ≡ false
    → lines_onto before (text ∷ rest) ≡ lines_onto (line_of text ∷ before) rest
lines-later before text rest more = rw more refl

-- what one line more does
abbrev JudgesAll : Reading → List ℕ → Option Rule → Reading → Type 0
JudgesAll r text fault new = (before : List Line) → Stands r.mode before r → JudgesText r text fault new before

pub reads-fault : (mode : Rounding) (all rest left : List (List ℕ)) (number : ℕ) (r new : Reading) (text : List ℕ) (rule : Rule) → Reads mode all rest number r → r.mode ≡ mode
    → rest ≡ text ∷ left → JudgesAll r text (Some rule) new → Some (record { line = number; rule = rule }) ≡ first_fault mode [] all
reads-fault mode all rest left number r new text rule h m e judged =
    let here = (judged h.before (subst (λ mode. Stands mode h.before r) (sym m) h.stands)).judged in
    let fault : Some rule ≡ fault_of mode h.before text = here ∙ ap (λ mode. fault_of mode h.before text) m in
    sym (h.same_fault ∙ (ap (first_fault mode h.before) e ∙ (fault-here mode h.before text left rule fault ∙ rw (sym h.counted) refl)))

pub reads-end : (mode : Rounding) (all rest left : List (List ℕ)) (number : ℕ) (r new : Reading) (text : List ℕ) → Reads mode all rest number r → r.mode ≡ mode
    → rest ≡ text ∷ left → JudgesAll r text None new → is_end (line_of text) ≡ true → (None ≡ first_fault mode [] all) × Stands mode (lines_onto [] all) new
reads-end mode all rest left number r new text h m e judged last =
    let judge = judged h.before (subst (λ mode. Stands mode h.before r) (sym m) h.stands) in
    let fault : None ≡ fault_of mode h.before text = judge.judged ∙ ap (λ mode. fault_of mode h.before text) m in
    let stands : Stands r.mode h.before new = subst (λ last. Stands r.mode (if last then h.before else line_of text ∷ h.before) new) last (judge.kept refl) in (
      sym (h.same_fault ∙ (ap (first_fault mode h.before) e ∙ fault-end mode h.before text left fault last)),
      subst (λ mode. Stands mode (lines_onto [] all) new) m
          (subst (λ lines. Stands r.mode lines new) (sym (h.same_lines ∙ (ap (lines_onto h.before) e ∙ lines-end h.before text left last))) stands),
    )

pub reads-more : (mode : Rounding) (all rest left : List (List ℕ)) (number : ℕ) (r new : Reading) (text : List ℕ) → Reads mode all rest number r → r.mode ≡ mode
    → rest ≡ text ∷ left → JudgesAll r text None new → is_end (line_of text) ≡ false → Reads mode all left (number + 1) new
reads-more mode all rest left number r new text h m e judged more =
    let judge = judged h.before (subst (λ mode. Stands mode h.before r) (sym m) h.stands) in
    let fault : None ≡ fault_of mode h.before text = judge.judged ∙ ap (λ mode. fault_of mode h.before text) m in
    let stands : Stands r.mode (line_of text ∷ h.before) new = subst (λ last. Stands r.mode (if last then h.before else line_of text ∷ h.before) new) more (judge.kept refl) in
    record {
      before = line_of text ∷ h.before;
      stands = subst (λ mode. Stands mode (line_of text ∷ h.before) new) m stands;
      counted = omega (arith, h.counted);
      same_fault = h.same_fault ∙ (ap (first_fault mode h.before) e ∙ fault-later mode h.before text left fault more);
      same_lines = h.same_lines ∙ (ap (lines_onto h.before) e ∙ lines-later h.before text left more);
    }

-- no line is left
at-end : (mode : Rounding) (before : List Line) → first_fault mode before [] ≡ refusal_if before (broken_if (is_short mode before) RowCount)
unfolding first_fault
at-end mode before = refl

-- the fault at the end
abbrev EndsAll : Reading → Option Rule → Type 0
EndsAll r fault = (before : List Line) → Stands r.mode before r → fault ≡ broken_if (is_short r.mode before) RowCount

pub reads-all : (mode : Rounding) (all rest : List (List ℕ)) (number : ℕ) (r : Reading) (fault : Option Rule) → Reads mode all rest number r → r.mode ≡ mode
    → rest ≡ [] → EndsAll r fault → option_map (λ rule. record { line = number; rule = rule }) fault ≡ first_fault mode [] all
reads-all mode all rest number r fault h m e ends =
    let short : fault ≡ broken_if (is_short mode h.before) RowCount =
    ends h.before (subst (λ mode. Stands mode h.before r) (sym m) h.stands) ∙ ap (λ mode. broken_if (is_short mode h.before) RowCount) m in
    sym (h.same_fault ∙ (ap (first_fault mode h.before) e ∙ (at-end mode h.before ∙ (ap (refusal_if h.before) (sym short)
    ∙ ap (λ n. option_map (λ rule. record { line = n; rule = rule }) fault) (sym h.counted)))))

pub reads-mode : (mode : Rounding) (all rest : List (List ℕ)) (number : ℕ) (r : Reading) → Reads mode all rest number r → r.mode ≡ mode
reads-mode mode all rest number r h = h.stands.same_mode

is-none : {X : Type 0} (o : Option X) → ((x : X) → o ≡ Some x → ⊥) → o ≡ None
is-none None h = refl
is-none (Some x) h = absurd (h x refl)

pub faultless : (r new : Reading) (text : List ℕ) (fault : Option Rule) → ((rule : Rule) → fault ≡ Some rule → ⊥) → JudgesAll r text fault new → JudgesAll r text None new
faultless r new text fault none h = subst (λ fault. JudgesAll r text fault new) (is-none fault none) h

pub faulty : (r new : Reading) (text : List ℕ) (fault : Option Rule) (rule : Rule) → fault ≡ Some rule → JudgesAll r text fault new → JudgesAll r text (Some rule) new
faulty r new text fault rule e h = subst (λ fault. JudgesAll r text fault new) e h
