-- What comes of a text that is read and searched.
use Rattle.std.proofs.Common.{◌≡◌, ℕ, ◌≤◌, List, [], ◌∷◌, length, map, get_or, take, slice_set, refl, sym, ◌∙◌, ap, subst, arith}
use Rattle.std.specs.Prelude.{Result, Ok, Err, slice_index_or}
use Rattle.problem_data.specs.declared.problem.Problem.{Problem}
use Rattle.vrplib_model.specs.declared.refusal.Refusal.{Refusal}
use Rattle.vrplib_model.specs.Reading.{read}
use Rattle.move_core.specs.declared.tally.Tally.{Tally}
use Rattle.genetic_model.proofs.FeasibleRun.{run-sound}
use Rattle.command_model.specs.declared.options.Options.{Options}
use Rattle.command_model.specs.Outcomes as model
use Rattle.command_model.specs.Outcomes.{outcome_of_reading}
use Rattle.command_model.specs.PlainSearch.{plain_search}
use Rattle.pyvrp.specs.declared.outcome.Answer.{Answer}
use Rattle.pyvrp.specs.declared.outcome.Instance.TheVariants as shown
use Rattle.pyvrp.specs.declared.outcome.Outcome.TheVariants.{Solved}
use Rattle.pyvrp.specs.inside.Options.{run_params}
use Rattle.pyvrp.specs.inside.Texts.{ComesOfBytes}
use Rattle.pyvrp.specs.Solving.{IsOutcome, RoseInRun, Tells}

-- a text of which a search came is read as a problem
solved-reading : {K : Type 0} (Solves : Problem → Answer → K → Type 0) (reading : Result Problem Refusal) (answer : Answer) (kit : K)
    → IsOutcome reading Solves (Solved answer kit) → (problem : Problem) × (reading ≡ Ok problem) × Solves problem answer kit
solved-reading Solves (Ok problem) answer kit h = (problem, refl, h)
solved-reading Solves (Err refusal) answer kit h = absurd h

-- the counts of the first kit
first-tallies : {K : Type 0} (tallies : K → List Tally) (kits : List K) (kit other : K) → 1 ≤ length kits → kit ≡ get_or kits 0 other
    → tallies kit ≡ slice_index_or (map tallies kits) 0 []
first-tallies tallies [] kit other some is = absurd (omega (arith, some))
first-tallies tallies (k ∷ kits) kit other some is = ap tallies is

-- the first kit alone, where it was put back
first-alone : {K : Type 0} (kits : List K) (empty used : K) → 1 ≤ length kits → used ∷ [] ≡ take 1 (slice_set (slice_set kits 0 empty) 0 used)
first-alone [] empty used some = absurd (omega (arith, some))
first-alone (k ∷ kits) empty used some = refl

comes-solved : (options : Options) (text : List ℕ) (problem : Problem) (answer : Answer) (before after : List (List Tally)) (used : List Tally)
    → read options.mode text ≡ Ok problem → Tells problem (plain_search options problem) answer
    → RoseInRun options problem (slice_index_or before 0 []) used → used ∷ [] ≡ after → ComesOfBytes options text before after (shown.Solved answer)
comes-solved options text problem answer before after used accepted told rises same =
    subst (λ (kits : List (List Tally)). ComesOfBytes options text before kits (shown.Solved answer)) same
    (let comes : ComesOfBytes options text before (used ∷ []) (shown.Solved answer) = record {
      outcome = model.solved problem (plain_search options problem);
      comes = sym (ap (outcome_of_reading (plain_search options)) accepted);
      feasible = run-sound problem (run_params options problem) options.seed;
      stands = told;
      kits = (rises, tt);
    } in comes)

-- a text that is read and searched by the first kit, which alone is handed back
pub comes-of-first : {K : Type 0} (tallies : K → List Tally) (IsKit : K → Type 0) (options : Options) (text : List ℕ) (answer : Answer) (kits after : List K)
    (kit other empty used : K) → 1 ≤ length kits → kit ≡ get_or kits 0 other
    → IsOutcome (read options.mode text) (λ problem a k. Tells problem (plain_search options problem) a × IsKit k × RoseInRun options problem (tallies kit) (tallies k)) (Solved answer used)
    → after ≡ take 1 (slice_set (slice_set kits 0 empty) 0 used) → ComesOfBytes options text (map tallies kits) (map tallies after) (shown.Solved answer)
comes-of-first tallies IsKit options text answer kits after kit other empty used some is outcome left =
    let found = solved-reading (λ problem a k. Tells problem (plain_search options problem) a × IsKit k × RoseInRun options problem (tallies kit) (tallies k))
    (read options.mode text) answer used outcome in
    comes-solved options text found.0 answer (map tallies kits) (map tallies after) (tallies used) found.1 found.2.0
    (subst (λ (before : List Tally). RoseInRun options found.0 before (tallies used)) (first-tallies tallies kits kit other some is) found.2.2)
    (ap (map tallies) (first-alone kits empty used some ∙ sym left))
