use Rattle.std.proofs.Common.{◌≡◌, take}
use Rattle.std.specs.Prelude.{flat_map}
use Rattle.gain_model.specs.Gains.{part_visits}
use Rattle.plan_tables.specs.Routes.{lists_of}
use Rattle.plan_tables.proofs.route_lists.joined.Given as goal

abbrev pub invariant-loop-part : goal.invariant-loop-part
invariant-loop-part l = l.list.items ≡ flat_map (part_visits (lists_of l.routes)) (take l.part-index l.parts)
