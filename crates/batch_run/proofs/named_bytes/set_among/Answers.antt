use Rattle.std.proofs.Common.{◌≡◌, true, false, Some, None, sym, ◌∙◌, rules}
use Rattle.std.specs.List.{position}
use Rattle.batch_run.proofs.Entries.{names, stored_at, stored_at_end}
use Rattle.batch_run.proofs.named_bytes.set_among.Goals as goal

pub returns-in-Some-clause-closed : goal.returns-in-Some-clause-closed
returns-in-Some-clause-closed c =
    let found : position (names c.args.name.now) c.args.entries.now.items ≡ Some c.in-Some.place = rw (← c.as_slice.ensures.value) (sym c.place_of.ensures ∙ c.in-Some.is) in
    stored_at false c.args.entries.now.items c.in-Some.place c.index_mut.result.now c.args.name.now c.args.bytes found c.index_mut.ensures.value

pub returns-in-Some-clause-opened : goal.returns-in-Some-clause-opened
returns-in-Some-clause-opened c =
    let found : position (names c.args.name.now) c.args.entries.now.items ≡ Some c.in-Some.place = rw (← c.as_slice.ensures.value) (sym c.place_of.ensures ∙ c.in-Some.is) in
    stored_at true c.args.entries.now.items c.in-Some.place c.index_mut.result.now c.args.name.now c.args.bytes found c.index_mut.ensures.value

pub returns-in_ok-push-in-None-clause-closed : goal.returns-in_ok-push-in-None-clause-closed
returns-in_ok-push-in-None-clause-closed c =
    let none : position (names c.args.name.now) c.args.entries.now.items ≡ None = rw (← c.as_slice.ensures.value) (sym c.place_of.ensures ∙ c.in-None.is) in
    rw c.in_ok-push-in-None.ensures.items (stored_at_end false c.args.entries.now.items c.in_ok-name-in-None.name c.args.name.now c.args.bytes (search rules) none)

pub returns-in_ok-push-in-None-clause-opened : goal.returns-in_ok-push-in-None-clause-opened
returns-in_ok-push-in-None-clause-opened c =
    let none : position (names c.args.name.now) c.args.entries.now.items ≡ None = rw (← c.as_slice.ensures.value) (sym c.place_of.ensures ∙ c.in-None.is) in
    rw c.in_ok-push-in-None.ensures.items (stored_at_end true c.args.entries.now.items c.in_ok-name-in-None.name c.args.name.now c.args.bytes (search rules) none)
