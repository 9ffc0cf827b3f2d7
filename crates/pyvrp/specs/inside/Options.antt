-- The parameters of a run.
use Rattle.std.specs.Prelude.{if◌then◌else◌}
use Rattle.problem_data.specs.declared.problem.Problem.{Problem}
use Rattle.genetic_model.specs.declared.params.Params.{Params}
use Rattle.genetic_model.specs.Run.{per_client_params}
use Rattle.command_model.specs.declared.options.Options.{Options}

-- those of a problem's run
abbrev pub run_params : Options → Problem → Params
run_params options problem = if options.per_client then per_client_params problem options.params else options.params
