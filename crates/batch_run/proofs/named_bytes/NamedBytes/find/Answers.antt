use Rattle.std.proofs.Common.{true, false, sym, ◌∙◌}
use Rattle.batch_run.proofs.Entries.{held_where_absent, held_where_found}
use Rattle.batch_run.proofs.named_bytes.NamedBytes.find.Goals as goal

pub returns-in_err-place-clause-found : goal.returns-in_err-place-clause-found
returns-in_err-place-clause-found c =
    let held = held_where_absent false c.as_slice.result.now c.as_bytes.result.now (sym c.place_of.ensures ∙ c.in_err-place.was) in
    rw c.from_residual.ensures (cc (held, c.as_slice.ensures.value, c.as_bytes.ensures.value, c.self.view_is))

pub returns-in_err-place-clause-opened : goal.returns-in_err-place-clause-opened
returns-in_err-place-clause-opened c =
    let held = held_where_absent true c.as_slice.result.now c.as_bytes.result.now (sym c.place_of.ensures ∙ c.in_err-place.was) in
    rw c.from_residual.ensures (cc (held, c.as_slice.ensures.value, c.as_bytes.ensures.value, c.self.view_is))

pub returns-clause-found : goal.returns-clause-found
returns-clause-found c =
    let held = held_where_found false c.as_slice.result.now c.in_ok-place.place c.index.result.now c.as_bytes.result.now (sym c.place_of.ensures ∙ c.in_ok-place.was) (rw c.as_slice.ensures.value c.index.ensures) in
    cc (held, c.as_slice.ensures.value, c.as_bytes.ensures.value, c.self.view_is, c.items.ensures)

pub returns-clause-opened : goal.returns-clause-opened
returns-clause-opened c =
    let held = held_where_found true c.as_slice.result.now c.in_ok-place.place c.index.result.now c.as_bytes.result.now (sym c.place_of.ensures ∙ c.in_ok-place.was) (rw c.as_slice.ensures.value c.index.ensures) in
    cc (held, c.as_slice.ensures.value, c.as_bytes.ensures.value, c.self.view_is, c.items.ensures)
