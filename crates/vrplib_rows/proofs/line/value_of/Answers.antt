use Rattle.std.proofs.Common.{arith, ap, ◌∙◌, ◌<◌, ◌≤◌, length, drop, ◌+◌}
use Rattle.std.specs.List.{position_or_len}
use Rattle.std.proofs.lemmas.List.{take_rest}
use Rattle.vrplib_model.specs.LineKinds.{is_colon}
use Rattle.vrplib_rows.proofs.LineLaws.{list_any-no_place, list_any-place}
use Rattle.vrplib_rows.proofs.line.value_of.Goals as goal

pub returns-then-length-line : goal.returns-then-length-line
returns-then-length-line c =
    let line = c.args.line.now in
    let within : position_or_len is_colon line < length line = omega (arith, c.key_length-length.ensures) in
    (list_any-place is_colon line within, take_rest line _ ∙ ap (λ k. drop (k + 1) line) c.key_length-length.ensures)

pub returns-else-length-line : goal.returns-else-length-line
returns-else-length-line c =
    let line = c.args.line.now in
    let past : length line ≤ position_or_len is_colon line = omega (arith, c.key_length-length.ensures) in
    list_any-no_place is_colon line past
