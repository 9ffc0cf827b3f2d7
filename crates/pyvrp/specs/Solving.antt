-- What comes of an instance's bytes, and of the kit that searches it.
use Rattle.std.specs.Prelude.{◌≡◌, ⊤, ℕ, ℤ, ◌≤◌, List, [], Option, option_map, unwrap_or, IfSome, Result, Ok, Err, pos}
use Rattle.problem_data.specs.declared.problem.Problem.{Problem}
use Rattle.vrplib_model.specs.declared.refusal.Refusal.{Refusal}
use Rattle.routing_model.specs.Best.{Best, Found}
use Rattle.move_core.specs.declared.tally.Tally.{Tally}
use Rattle.random_descents.specs.Rises.{RoseOver}
use Rattle.genetic_model.specs.Ranges.{IsInRange}
use Rattle.command_model.specs.declared.options.Options.{Options}
use Rattle.command_model.specs.Outcomes.{text_of_best}
use Rattle.command_model.specs.PlainSearch.{run_of}
use Rattle.pyvrp.specs.declared.outcome.Answer.{Answer}
use Rattle.pyvrp.specs.declared.outcome.Outcome.{Outcome}
use Rattle.pyvrp.specs.declared.outcome.Outcome.TheVariants.{NoMemory, Refused, Solved}

-- the most iterations that may be asked for
abbrev pub iteration_limit : ℕ
iteration_limit = 1000000000

-- the options are within their ranges
pub record AreOptions (options : Options) : Type 0 where
  pub tables : IsInRange options.params
  pub iterations : options.params.max_iterations ≤ iteration_limit
  pub no_improvement : IfSome options.params.no_improvement (λ limit. limit ≤ iteration_limit)

-- the cost of the best plan, if any
abbrev pub cost_of_best : Option Best → Option ℤ
cost_of_best best = option_map (λ (b : Best). pos b.cost) best

-- the cost, the text and the iterations of what was found for a problem
pub record Tells (problem : Problem) (found : Found) (answer : Answer) : Type 0 where
  pub cost : answer.cost ≡ cost_of_best found.best
  pub text : answer.text ≡ unwrap_or (text_of_best problem found.best) []
  pub iterations : answer.iterations ≡ found.iterations

-- the counts of a kit's operators rose over the descents of a problem's run
abbrev pub RoseInRun : Options → Problem → List Tally → List Tally → Type 0
RoseInRun options problem before after = RoseOver problem options.params.neighbourhood (run_of options problem).descents before after

-- What a text is read as, and what is made of it: it was searched, with an answer and a kit of which that holds, or it is refused. Want
-- of memory may come of every text.
abbrev pub IsOutcome : {K : Type 0} → Result Problem Refusal → (Problem → Answer → K → Type 0) → Outcome K → Type 0
IsOutcome (Ok problem) Solves (Solved answer kit) = Solves problem answer kit
IsOutcome (Err refusal) Solves (Refused shown) = shown ≡ refusal
IsOutcome _ Solves NoMemory = ⊤
IsOutcome _ Solves _ = ⊥
