use Rattle.std.proofs.Common.{◌∙◌, ap, map}
use Rattle.std.specs.Prelude.{nat_abs}
use Rattle.std.proofs.lemmas.List.{take_all}
use Rattle.vrplib_model.specs.Entries.{place_of}
use Rattle.vrplib_read.proofs.GroupLaws.{places_are}
use Rattle.vrplib_read.proofs.groups.places_of.Goals as goal

pub returns : goal.returns
returns c =
    c.loop-node.invariant ∙ ap (map (λ z. place_of (nat_abs z))) (take_all c.loop-node.node-index c.args.nodes.now c.loop-node-test.false)
    ∙ places_are 2048 c.args.nodes.now c.requires
