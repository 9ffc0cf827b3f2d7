use Rattle.std.proofs.Common.{◌∙◌, ap, ℕ, ◌+◌, ◌-◌, ◌++◌, List, length, map, arith, Vec, Global}
use Rattle.std.specs.List.{range_with_len}
use Rattle.problem_data.specs.Places.{depot_count}
use Rattle.search_model.specs.Neighbours.{neighbours, neighbours_of}
use Rattle.granular.proofs.NeighbourLists.{items_of, lists-more, lists-none, lists-start}
use Rattle.granular.proofs.near_clients.lists_of.Goals as goal

pub loop-index-init : goal.loop-index-init
loop-index-init c =
    lists-start c.args.given.now c.args.count c.args.weights.wait c.args.weights.warp c.client_places-clients.result.start c.in_ok-lists.lists.items c.client_places-clients.ensures.start c.in_ok-lists.ensures

pub loop-index-preserved : goal.loop-index-preserved
loop-index-preserved c =
    let p = c.args.given.now in
    let index : ℕ = c.loop-index.index in
    let f = neighbours_of p c.args.count c.args.weights.wait c.args.weights.warp in
    ap (λ (lists : List (Vec ℕ Global)). items_of lists ++ map f (range_with_len (depot_count p + (index + 1)) (length p.clients - (index + 1)))) c.in_ok-push.ensures.items
    ∙ lists-more f (depot_count p) index (length p.clients) c.loop-index.lists.items c.in_ok-nearest.field-0 (neighbours p c.args.count c.args.weights.wait c.args.weights.warp)
    (omega (arith, c.client_places-clients.ensures.start, c.client_places-clients.ensures.end, c.loop-index-test.true)) c.in_ok-nearest.ensures c.loop-index.invariant

pub returns : goal.returns
returns c =
    let p = c.args.given.now in
    lists-none (neighbours_of p c.args.count c.args.weights.wait c.args.weights.warp) (depot_count p) c.loop-index.index (length p.clients) c.loop-index.lists.items
    (neighbours p c.args.count c.args.weights.wait c.args.weights.warp) (omega (arith, c.client_places-clients.ensures.start, c.client_places-clients.ensures.end)) c.loop-index.invariant
