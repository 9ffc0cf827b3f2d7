use Rattle.std.proofs.Common.{◌≡◌, ℕ, List, [], refl, sym, ◌∙◌, ap, subst, Option, Some, None, Result, Ok, Err, MatchResult}
use Rattle.std.specs.Str.Lines.{lines}
use Rattle.problem_data.specs.declared.problem.Problem.{Problem}
use Rattle.vrp_num.specs.declared.rounding.Rounding.{Rounding}
use Rattle.vrplib_read.specs.declared.reading.Reading.{Reading}
use Rattle.vrplib_model.specs.declared.refusal.Refusal.{Refusal}
use Rattle.vrplib_model.specs.declared.rule.Rule.{Rule}
use Rattle.vrplib_model.specs.LineKinds.{Line}
use Rattle.vrplib_model.specs.Meaning.{problem_of}
use Rattle.vrplib_read.specs.inside.OfText.{OfText}
use Rattle.vrplib_read.specs.Outcomes.{IsReading}
use Rattle.vrplib_model.specs.Reading.{first_fault, lines_onto, read}
use Rattle.vrplib_read.specs.inside.Stands.{Stands}
use Rattle.vrplib_model.specs.WholeText.{whole_fault}
use Rattle.vrplib_model.proofs.Accepted.{accepted-valid}
use Rattle.vrplib_read.proofs.reader.read_instance.Goals as goal

-- the lines that are read of a text
abbrev lines_read : List ℕ → List Line
lines_read text = lines_onto [] (lines text)

line-refused : (mode : Rounding) (text : List ℕ) (refusal : Refusal) → Some refusal ≡ first_fault mode [] (lines text) → read mode text ≡ Err refusal
unfolding read
line-refused mode text refusal e = rw (sym e) refl

whole-refused : (mode : Rounding) (text : List ℕ) (rule : Rule) → None ≡ first_fault mode [] (lines text) → whole_fault mode (lines_read text) ≡ Some rule
    → read mode text ≡ Err (record { line = 0; rule = rule })
unfolding read
whole-refused mode text rule e f = rw (sym e, f) refl

accepted : (mode : Rounding) (text : List ℕ) → None ≡ first_fault mode [] (lines text) → whole_fault mode (lines_read text) ≡ None
    → read mode text ≡ Ok (problem_of mode (lines_read text))
unfolding read
accepted mode text e f = rw (sym e, f) refl

reading-accepted : (mode : Rounding) (text : List ℕ) (problem : Problem) → None ≡ first_fault mode [] (lines text) → whole_fault mode (lines_read text) ≡ None
    → problem ≡ problem_of mode (lines_read text) → IsReading mode text problem
reading-accepted mode text problem e f same =
    let is : read mode text ≡ Ok problem = accepted mode text e f ∙ ap Ok (sym same) in
    record { accepted = is; valid = accepted-valid mode text problem is }

-- the refusal of a line
refused-at : (m mode : Rounding) (text : List ℕ) (found : Option Refusal) (refusal : Refusal) → m ≡ mode → found ≡ Some refusal
    → found ≡ first_fault m [] (lines text) → read mode text ≡ Err refusal
refused-at m mode text found refusal same is fault =
    line-refused mode text refusal (sym is ∙ (fault ∙ ap (λ mode. first_fault mode [] (lines text)) same))

-- what comes of the whole text
abbrev WholeOf : Reading → Result Problem Rule → Type 0
WholeOf r answer = OfText r (λ all. MatchResult answer (λ problem. (whole_fault r.mode all ≡ None) × (problem ≡ problem_of r.mode all)) (λ rule. whole_fault r.mode all ≡ Some rule))

abbrev ReadOf : Rounding → List ℕ → Result Problem Rule → Type 0
ReadOf mode text answer = MatchResult answer (IsReading mode text) (λ rule. read mode text ≡ Err (record { line = 0; rule = rule }))

answered : (mode : Rounding) (text : List ℕ) (answer : Result Problem Rule) → None ≡ first_fault mode [] (lines text)
    → MatchResult answer (λ problem. (whole_fault mode (lines_read text) ≡ None) × (problem ≡ problem_of mode (lines_read text)))
    (λ rule. whole_fault mode (lines_read text) ≡ Some rule)
    → ReadOf mode text answer
answered mode text (Ok problem) none h = reading-accepted mode text problem none h.0 h.1
answered mode text (Err rule) none h = whole-refused mode text rule none h

answered-whole : (m mode : Rounding) (text : List ℕ) (found : Option Refusal) (r : Reading) (answer : Result Problem Rule) → m ≡ mode → found ≡ None
    → found ≡ first_fault m [] (lines text) → Stands m (lines_read text) r → WholeOf r answer → ReadOf mode text answer
answered-whole m mode text found r answer same is fault stands h =
    let none : None ≡ first_fault mode [] (lines text) = sym is ∙ (fault ∙ ap (λ mode. first_fault mode [] (lines text)) same) in
    let now : r.mode ≡ mode = stands.same_mode ∙ same in
    let whole = h (lines_read text) (subst (λ mode. Stands mode (lines_read text) r) (sym stands.same_mode) stands) in
    answered mode text answer none (subst (λ mode. MatchResult answer (λ problem. (whole_fault mode (lines_read text) ≡ None) × (problem ≡ problem_of mode (lines_read text)))
    (λ rule. whole_fault mode (lines_read text) ≡ Some rule)) now whole)

pub returns-in-Some-clause-refused : goal.returns-in-Some-clause-refused
returns-in-Some-clause-refused c =
    refused-at c.new-reading.result.mode c.args.mode c.args.bytes.now _ c.in-Some.refusal c.new-reading.ensures.same_mode c.in-Some.is c.in_ok-refusal.ensures.fault

pub returns-in-Ok-clause-accepted : goal.returns-in-Ok-clause-accepted
returns-in-Ok-clause-accepted c = subst (ReadOf c.args.mode c.args.bytes.now) c.in-Ok.is
    (answered-whole c.new-reading.result.mode c.args.mode c.args.bytes.now _ c.read_lines.new.reading _ c.new-reading.ensures.same_mode c.in-None.is c.in_ok-refusal.ensures.fault
    (c.read_lines.ensures.kept (c.in_ok-refusal.was ∙ ap Ok c.in-None.is)) c.in_ok-problem-in-None.ensures)

pub returns-clause-refused : goal.returns-clause-refused
returns-clause-refused c = subst (ReadOf c.args.mode c.args.bytes.now) c.in-Err.is
    (answered-whole c.new-reading.result.mode c.args.mode c.args.bytes.now _ c.read_lines.new.reading _ c.new-reading.ensures.same_mode c.in-None.is c.in_ok-refusal.ensures.fault
    (c.read_lines.ensures.kept (c.in_ok-refusal.was ∙ ap Ok c.in-None.is)) c.in_ok-problem-in-None.ensures)
