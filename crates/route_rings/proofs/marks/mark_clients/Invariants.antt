use Rattle.std.specs.Prelude.{◌≡◌, ◌++◌, List, ℕ, length, take}
use Rattle.routing_model.specs.Routes.{clients_of}
use Rattle.route_rings.specs.Marks.{AreMarks}
use Rattle.route_rings.proofs.marks.mark_clients.Given as goal

abbrev pub invariant-loop-visit : goal.invariant-loop-visit
invariant-loop-visit l = (length l.marks ≡ length l.initial.marks) × ((clients : List ℕ) → AreMarks l.initial.marks clients → AreMarks l.marks (clients ++ clients_of (take l.visit-index l.visits)))
