use Rattle.std.proofs.Common.{length, get_or, sym, ◌∙◌, ap, arith, Some}
use Rattle.std.specs.Prelude.{slice_range}
use Rattle.vrplib_rows.proofs.CutRows.{ends_below, slice_get-rows_cut}
use Rattle.vrplib_rows.proofs.rows.cut.Goals as goal

pub part-requires : goal.part-requires
part-requires c =
    let below = ends_below 0 c.args.ends.now (length c.args.numbers.now) c.args.k c.requires.ordered c.requires.within in
    record { order = omega (arith, below.0); within = omega (arith, below.1) }

pub returns : goal.returns
returns c =
    slice_get-rows_cut 0 c.args.ends.now c.args.numbers.now c.args.k c.requires.within
    ∙ ap (λ a. Some (slice_range c.args.numbers.now a (get_or c.args.ends.now c.args.k 0))) (sym c.start_of.ensures) ∙ ap Some (sym c.part.ensures)
