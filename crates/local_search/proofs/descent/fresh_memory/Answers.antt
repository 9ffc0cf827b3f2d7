use Rattle.std.proofs.Common.{◌∙◌, ap}
use Rattle.std.proofs.lemmas.Result.{IfOk-weaker}
use Rattle.problem_data.specs.Places.{place_count, vehicle_count}
use Rattle.local_search.proofs.Beginning.{fresh_made}
use Rattle.local_search.proofs.descent.fresh_memory.Goals as goal

pub returns : goal.returns
returns c =
    IfOk-weaker c.new.result _ _
    (λ memory made. fresh_made c.args.search.now.problem c.args.search.now.routes c.client_places-places.result.end c.vehicles.result c.in_ok-unused.unused.items memory
    (c.client_places-places.ensures.end ∙ ap place_count c.data-given.ensures.problem) (c.vehicles.ensures.count ∙ ap vehicle_count c.data-given.ensures.problem) c.in_ok-unused.ensures made)
    c.new.ensures
