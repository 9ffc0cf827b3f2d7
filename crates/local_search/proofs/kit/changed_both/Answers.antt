use Rattle.std.proofs.Common.{◌∙◌}
use Rattle.std.proofs.lemmas.List.{length-set}
use Rattle.routing_model.specs.Routes.{list_at}
use Rattle.local_search.specs.inside.Kits.{with_present_list}
use Rattle.local_search.proofs.kit.changed_both.Goals as goal

pub changed_all-requires-in-Some-clause-some : goal.changed_all-requires-in-Some-clause-some
changed_all-requires-in-Some-clause-some g c = (
  with_present_list c.args.search.now.routes c.args.first c.requires.some.0,
  (
    length-set c.requires.some.0 c.args.first (list_at c.args.search.now.routes c.args.first) ∙ c.requires.some.1.0,
    c.changed_all.ensures.fits c.requires.some.0 c.requires.some.1.1,
  ),
)
