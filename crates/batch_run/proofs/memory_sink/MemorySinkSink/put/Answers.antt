use Rattle.std.proofs.Common.{◌≡◌, ℕ, ◌-◌, List, length, Some, ap, arith, rules}
use Rattle.std.proofs.lemmas.Grind.{common_steps}
use Rattle.batch_run.specs.InMemory.{SinkInMemory}
use Rattle.batch_run.proofs.memory_sink.MemorySinkSink.put.Goals as goal

pub returns-clause-part : goal.returns-clause-part
returns-clause-part c =
    let room : c.self.inside.room ≡ c.args.self.now.room = ap (λ (sink : SinkInMemory). sink.room) c.self.view_is in
    let held : c.self.inside.bytes.items ≡ c.args.self.now.written = ap (λ (sink : SinkInMemory). sink.written) c.self.view_is in
    (c.args.self.now.room - length c.args.self.now.written, omega (arith, room, ap length held), ap (λ (bytes : List ℕ). Some bytes) (first_of (search rules, grind (arith, common_steps))))
