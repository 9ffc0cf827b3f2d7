use Rattle.std.proofs.Common.{ap, map, refl, ◌∙◌}
use Rattle.std.specs.Prelude.{string_bytes}
use Rattle.command_model.specs.Words.{asked}
use Rattle.pyvrp.specs.inside.Asked.{shown}
use Rattle.pyvrp.proofs.Runs.{never-3, runs-instance, runs-refused}
use Rattle.pyvrp.proofs.run.run_command.Goals as goal

pub returns-in_default-clause-runs : goal.returns-in_default-clause-runs
returns-in_default-clause-runs g c = λ not_three. runs-refused (asked (map string_bytes c.args.words.items)) _ _ _ _ _ c.as_bytes.result.now
    (c.in_default.ensures.asked ∙ ap (λ words. asked (map string_bytes words)) c.as_slice.ensures.value)
    refl refl (record { written = refl; faults = refl }) c.as_bytes.ensures.value c.put_all-taken.ensures.given (ap (map _) c.new.ensures.items)

pub returns-in-Ok-clause-runs : goal.returns-in-Ok-clause-runs
returns-in-Ok-clause-runs g c = λ not_three. runs-instance (asked (map string_bytes c.args.words.items)) (shown c.in-Some.asked) _ _ _ _ _ c.deliver.result c.in-Ok.texts
    (c.in-Some.ensures.asked ∙ ap (λ words. asked (map string_bytes words)) c.as_slice.ensures.value)
    c.in-Ok.ensures.found c.deliver.ensures

pub returns-in-Ok-clause-no_memory : goal.returns-in-Ok-clause-no_memory
returns-in-Ok-clause-no_memory g c = λ three. absurd (never-3 (shown c.in-Some.asked) _ _ _ _ _ c.deliver.result c.in-Ok.texts c.in-Ok.ensures.found c.deliver.ensures three)
