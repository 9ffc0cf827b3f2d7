-- What operators may read, and that they fit some lists.
use Rattle.std.specs.Prelude.{◌≡◌, ℕ, ◌-◌, length}
use Rattle.problem_data.specs.declared.problem.Problem.{Problem}
use Rattle.problem_data.specs.Places.{vehicle_count}
use Rattle.routing_model.specs.declared.weights.Weights.{Weights}
use Rattle.routing_model.specs.Routes.{Routes}
use Rattle.search_model.specs.declared.candidate.Candidate.{Candidate}
use Rattle.search_model.specs.declared.candidate.Candidate.TheVariants.{Node, Solo, Routes as Pair}
use Rattle.gain_model.specs.MoveReads.{evaluate_reads}
use Rattle.gain_model.specs.Operators.{Fits}

-- what a look at a client and its neighbour may read, which the operators of both share
abbrev pub look_reads : ℕ
look_reads = 24

-- How many legs an operator may read to evaluate a candidate. Of a client and a target it leaves room for a shared look.
abbrev pub operator_reads : Problem → Routes → Candidate → ℕ
operator_reads p routes (Node kind u target) = evaluate_reads p routes (Node kind u target) - look_reads
operator_reads p routes (Solo kind u) = evaluate_reads p routes (Solo kind u)
operator_reads p routes (Pair kind i j) = evaluate_reads p routes (Pair kind i j)

-- some lists, one for each vehicle, that an operator's memory fits
pub record FitsSome (fits : Fits) (p : Problem) (w : Weights) : Type 0 where
  pub lists : Routes
  pub one_list_each : length lists ≡ vehicle_count p
  pub fit : fits p lists w
