use Rattle.std.proofs.Common.{◌≡◌, map, take}
use Rattle.penalty_cost.specs.Proposals.{part_of}
use Rattle.penalty_cost.proofs.proposed_side.ProposedSide.parts.Given as goal

abbrev pub invariant-loop-view : goal.invariant-loop-view
invariant-loop-view l = l.parts ≡ record { vehicle = l.self.vehicle; parts = map part_of (take l.view-index l.view-items) }
