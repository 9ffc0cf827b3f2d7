-- The plain search: each candidate is costed by driving.
use Rattle.std.specs.Prelude.{ℕ, false, None}
use Rattle.problem_data.specs.declared.problem.Problem.{Problem}
use Rattle.vrp_num.specs.declared.rounding.Rounding.TheVariants.{Round}
use Rattle.genetic_model.specs.Defaults.{default_params}
use Rattle.genetic_model.specs.Run.{Run, found_by, solved}
use Rattle.command_model.specs.declared.options.Options.{Options}
use Rattle.command_model.specs.Outcomes.{Search}
use Rattle.command_model.specs.Words.{Asked}

-- the run of a problem
abbrev pub run_of : Options → Problem → Run
run_of options problem = solved problem options.per_client options.params options.seed

-- the plain search
abbrev pub plain_search : Options → Search
plain_search options problem = found_by (run_of options problem)

-- how an instance is read and searched for the five words
abbrev pub options_of : Asked → Options
options_of asked = record { seed = asked.seed; mode = Round; per_client = false; params = default_params asked.iterations None }
