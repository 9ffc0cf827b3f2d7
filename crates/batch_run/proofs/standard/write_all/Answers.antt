use Rattle.std.proofs.Common.{arith, length-drop}
use Rattle.std.proofs.Math.Seq.{take-add}
use Rattle.std.proofs.KnownBytes.{Appends-trans}
use Rattle.std.proofs.lemmas.List.{take_rest}
use Rattle.batch_run.proofs.standard.write_all.Goals as goal

pub loop-preserved : goal.loop-preserved
loop-preserved g c =
    let taken = rw (take_rest c.args.bytes.now c.loop.done) at c.in_ok-done.ensures.bytes in
    record {
      within = omega (arith, length-drop c.loop.done c.args.bytes.now, c.in_ok-done.ensures.within);
      written = rw (take-add c.loop.done c.in_ok-done.field-0 c.args.bytes.now) (Appends-trans _ _ _ _ _ c.loop.invariant.written taken);
    }
