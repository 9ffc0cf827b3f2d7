use Rattle.std.proofs.Common.{◌+◌, ◌∙◌, sym, arith}
use Rattle.vrplib_model.specs.WholeText.{is_client_like}
use Rattle.vrplib_read.proofs.RowLaws.{any_counted, none_counted}
use Rattle.vrplib_read.proofs.depots.has_client_like.Goals as goal

pub returns-then-is_client_like : goal.returns-then-is_client_like
returns-then-is_client_like c = λ all st.
    let mode = c.args.reading.now.mode in
    sym (any_counted (is_client_like mode all) 1 c.args.depots c.loop-before.before (c.loop-before.before + 1) (omega arith) (omega arith)
    (sym (c.is_client_like.ensures all st) ∙ c.if-is_client_like.true))

pub loop-before-preserved : goal.loop-before-preserved
loop-before-preserved c = λ all st.
    let mode = c.args.reading.now.mode in
    none_counted (is_client_like mode all) 1 c.loop-before.before (c.loop-before.before + 1) (omega arith) (c.loop-before.invariant all st)
    (sym (c.is_client_like.ensures all st) ∙ c.if-is_client_like.false)
