use Rattle.std.proofs.Common.{◌≡◌, ◌*◌, ◌-◌, ◌∙◌, length, map, ap, arith}
use Rattle.std.specs.List.{range_with_len}
use Rattle.std.proofs.lemmas.Slice.Zip.{AllZip-map}
use Rattle.std.proofs.Crossing.{crosses}
use denote.Param.Send.{sendable}
use Rattle.granular.specs.Pairs.{pair_near}
use Rattle.granular.proofs.PairRange.{below-end}
use Rattle.granular.proofs.nears.all_nears.Goals as goal

pub collect-requires-clause-ready : goal.collect-requires-clause-ready
collect-requires-clause-ready g c κs within =
    let pairs = length c.items-clients.result.now * length c.items-clients.result.now in
    let count : length c.items-clients.result.now ≡ length c.args.given.now.clients = ap length c.items-clients.ensures ∙ ap (λ p. length p.clients) c.problem.ensures.same in
    rw (c.map.ensures.base, c.map.ensures.f, c.into_par_iter.ensures.0, c.into_par_iter.ensures.1)
    (λ k d lt. ((rw (← count) (below-end pairs k d lt), (c.requires, search (sendable, crosses) depth 40)), λ y e. tt))

pub returns : goal.returns
returns g c =
    let pairs = length c.items-clients.result.now * length c.items-clients.result.now in
    let count : length c.items-clients.result.now ≡ length c.args.given.now.clients = ap length c.items-clients.ensures ∙ ap (λ p. length p.clients) c.problem.ensures.same in
    let all : pairs - 0 ≡ length c.args.given.now.clients * length c.args.given.now.clients = rw (count) (omega arith) in
    let made = c.in_ok-made.ensures in
    let chain = rw (c.map.ensures.base, c.map.ensures.f, c.into_par_iter.ensures.0, c.into_par_iter.ensures.1) at made.1 in
    made.2 ∙ AllZip-map (pair_near c.args.given.now c.args.weights) chain.0 made.0 chain.2
    ∙ ap (map (pair_near c.args.given.now c.args.weights)) (chain.1 ∙ ap (range_with_len 0) all)
