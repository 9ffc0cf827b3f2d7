use Rattle.std.proofs.Common.{refl}
use Rattle.std.specs.Prelude.{string_bytes}
use Rattle.pyvrp.proofs.Runs.{is_effects}
use Rattle.pyvrp.proofs.run.texts_of.Goals as goal

pub returns : goal.returns
returns c = is_effects c.args.path.now c.base_name-name.result.now c.args.instance.now
    (record { out = c.in_ok-output_text.field-0; err = c.into_bytes.result; status = c.status_of.result }) (string_bytes c.in_ok-error_text.field-0)
    c.base_name-name.ensures (rw c.into_bytes.ensures.value refl) c.in_ok-output_text.ensures c.in_ok-error_text.ensures c.status_of.ensures
