use Rattle.std.specs.Prelude.{◌≡◌, ◌++◌, List, ℕ, length, take}
use Rattle.routing_model.specs.Routes.{clients_of}
use Rattle.exchange_children.specs.inside.Clashing.{AreGroupMarks}
use Rattle.exchange_children.proofs.groups.mark_groups.Given as goal

abbrev pub invariant-loop-visit : goal.invariant-loop-visit
invariant-loop-visit l = (length l.marks ≡ length l.initial.marks)
    × ((clients : List ℕ) → AreGroupMarks l.given l.initial.marks clients → AreGroupMarks l.given l.marks (clients ++ clients_of (take l.visit-index l.visits)))
