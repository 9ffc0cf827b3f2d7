use Rattle.std.proofs.Common.{◌≡◌, ℕ, List, ◌++◌, length, ◌∙◌, ap, ap₂, arith, slice_range}
use Rattle.problem_data.specs.declared.visit.Visit.{Visit}
use Rattle.routing_model.specs.Routes.{list_at}
use Rattle.gain_model.specs.Gains.{part_visits}
use Rattle.route_cache.specs.Marks.{reloads_in}
use Rattle.route_cache.proofs.Counting.{reloads-append}
use Rattle.reload_puts.proofs.reloads.reloads_of.Goals as goal

pub returns : goal.returns
returns c =
    let routes = c.args.search.now.routes in
    let list = c.args.list in
    let own : List Visit = list_at routes list.vehicle in
    let last : List Visit = slice_range own list.right (length own) in
    let one : List Visit = part_visits routes list.one in
    let two : List Visit = part_visits routes list.two in
    let three : List Visit = part_visits routes list.three in
    let visits = c.route-route.ensures.visits in
    let in_first : c.reloads_between.result ≡ reloads_in (slice_range own 0 list.left) = c.reloads_between.ensures.reloads ∙ ap (λ (xs : List Visit). reloads_in (slice_range xs 0 list.left)) visits in
    let in_last : c.reloads_between-2.result ≡ reloads_in last =
    c.reloads_between-2.ensures.reloads ∙ ap₂ (λ (xs : List Visit) (n : ℕ). reloads_in (slice_range xs list.right n)) visits (ap length (c.visits.ensures.visits ∙ visits)) in
    let in_one = c.part_reloads.ensures.reloads in
    let in_two = c.part_reloads-2.ensures.reloads in
    let in_three = c.part_reloads-3.ensures.reloads in
    let sum = reloads-append (slice_range own 0 list.left) (one ++ (two ++ (three ++ last))) in
    let sum_one = reloads-append one (two ++ (three ++ last)) in
    let sum_two = reloads-append two (three ++ last) in
    let sum_three = reloads-append three last in
    omega (arith, in_first, in_last, in_one, in_two, in_three, sum, sum_one, sum_two, sum_three)
