use Rattle.std.proofs.Common.{◌≡◌, ℕ, List, map}
use Rattle.std.specs.List.{range_with_len}
use Rattle.routing_model.specs.Tidy.{tidied}
use Rattle.genetic_model.specs.RouteChildren.{child_list, giver_of}
use Rattle.exchange_children.specs.Exchanges.{exchange_of}
use Rattle.exchange_children.specs.inside.Clashing.{AreClashes}
use Rattle.exchange_children.proofs.exchanged.Exchanged.child.Given as goal

abbrev pub invariant-loop-vehicle : goal.invariant-loop-vehicle
invariant-loop-vehicle l = (kept put : List ℕ) → AreClashes l.given l.kept_loses kept → AreClashes l.given l.put_loses put →
    l.lists.items ≡ map (λ v. tidied (child_list l.given l.self.parent.now l.self.other.now kept put v (giver_of (exchange_of l.self) v))) (range_with_len 0 l.vehicle)
