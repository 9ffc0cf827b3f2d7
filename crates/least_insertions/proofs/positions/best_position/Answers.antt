use Rattle.std.proofs.Common.{◌≡◌, ◌∙◌, ◌++◌, ◌+◌, ◌≤◌, ◌∷◌, [], ℕ, List, ap, append_assoc, arith, get_or, insert, length, map, remove, rules, subst, sym}
use mir.Syntax.{w128}
use Rattle.std.specs.Prelude.{pos}
use mir.Val.{SFits}
use Rattle.std.specs.List.{range_with_len}
use Rattle.std.proofs.lemmas.List.{append-nil, get_or_default}
use Rattle.std.proofs.lemmas.List.FromFn.{map-range_with_len_more}
use Rattle.std.proofs.lemmas.Option.{unwrap_or-slice_get}
use Rattle.problem_data.specs.declared.visit.Visit.{Visit}
use Rattle.problem_data.specs.declared.visit.Visit.TheVariants.{Client}
use Rattle.problem_data.specs.Limits.{most_visits}
use Rattle.problem_data.specs.Places.{client_at}
use Rattle.routing_model.specs.Cost.{route_cost, solution_cost}
use Rattle.routing_model.specs.Listed.{IsListed, type_of_vehicle}
use Rattle.routing_model.specs.Routes.{Routes, list_at}
use Rattle.least_insertions.specs.inside.Places.{IsBestOf, with_client}
use Rattle.least_insertions.proofs.Growths.{growth-is}
use Rattle.least_insertions.proofs.InsertedLists.{inserted-listed, inserted-sound, remove-insert}
use Rattle.least_insertions.proofs.PlaceCosts.{with-client-costs}
use Rattle.least_insertions.proofs.SoundLists.{sound-listed}
use Rattle.least_insertions.proofs.positions.best_position.Goals as goal

pub route_cost-cost-requires-clause-listed : goal.route_cost-cost-requires-clause-listed
route_cost-cost-requires-clause-listed c =
    let p = c.args.given.now in
    let routes = c.args.routes.now in
    let v : ℕ = c.args.vehicle in
    let there = get_or_default routes v c.index-routes-vehicle.result [] c.requires.vehicle in
    let list : c.items-visits.result.now ≡ get_or routes v [] = cc in
    subst (IsListed p) (sym list) (sound-listed p routes c.requires.missing.valid c.requires.missing.sound v [] c.requires.vehicle)

pub overflow_cast-position-end : goal.overflow_cast-position-end
overflow_cast-position-end c =
    let p = c.args.given.now in
    let routes = c.args.routes.now in
    let v : ℕ = c.args.vehicle in
    let there = get_or_default routes v c.index-routes-vehicle.result [] c.requires.vehicle in
    let list : c.items-visits.result.now ≡ get_or routes v [] = cc in
    let few : length c.items-visits.result.now ≤ most_visits =
    subst (λ (xs : List Visit). length xs ≤ most_visits) (sym list) (sound-listed p routes c.requires.missing.valid c.requires.missing.sound v [] c.requires.vehicle).few in
    omega arith

pub overflow_add-position-end : goal.overflow_add-position-end
overflow_add-position-end c =
    let p = c.args.given.now in
    let routes = c.args.routes.now in
    let v : ℕ = c.args.vehicle in
    let there = get_or_default routes v c.index-routes-vehicle.result [] c.requires.vehicle in
    let list : c.items-visits.result.now ≡ get_or routes v [] = cc in
    let few : length c.items-visits.result.now ≤ most_visits =
    subst (λ (xs : List Visit). length xs ≤ most_visits) (sym list) (sound-listed p routes c.requires.missing.valid c.requires.missing.sound v [] c.requires.vehicle).few in
    omega arith

pub loop-position-init : goal.loop-position-init
loop-position-init c =
    let routes = c.args.routes.now in
    let v : ℕ = c.args.vehicle in
    let there = get_or_default routes v c.index-routes-vehicle.result [] c.requires.vehicle in
    let at = unwrap_or-slice_get routes v [] in
    let list : c.items-visits.result.now ≡ list_at routes v = cc in
    record {
      list = c.in_ok-list.ensures.items ∙ list;
      best = λ plans best. subst (IsBestOf c.args.given.now c.args.weights routes c.args.client c.args.before) (sym (append-nil plans)) best;
    }

pub insert-requires : goal.insert-requires
insert-requires c =
    let routes = c.args.routes.now in
    let v : ℕ = c.args.vehicle in
    let there = get_or_default routes v c.index-routes-vehicle.result [] c.requires.vehicle in
    let at = unwrap_or-slice_get routes v [] in
    let list : c.items-visits.result.now ≡ list_at routes v = cc in
    let same = ap length list in
    let kept = ap length c.loop-position.invariant.list in
    let long = c.loop-position.list.ok.0 in
    omega arith

pub route_cost-requires-clause-listed : goal.route_cost-requires-clause-listed
route_cost-requires-clause-listed c =
    let p = c.args.given.now in
    let routes = c.args.routes.now in
    let i : ℕ = c.loop-position.position in
    let list : c.as_slice.result.now ≡ insert (list_at routes c.args.vehicle) i (Client c.args.client) =
    c.as_slice.ensures.value ∙ (c.in_ok-insert.ensures.items ∙ ap (λ (xs : List Visit). insert xs i (Client c.args.client)) c.loop-position.invariant.list) in
    subst (IsListed p) (sym list) (inserted-listed p c.args.weights routes c.args.client c.args.vehicle i c.requires.missing c.requires.vehicle)

pub remove-requires : goal.remove-requires
remove-requires c =
    let routes = c.args.routes.now in
    let v : ℕ = c.args.vehicle in
    let there = get_or_default routes v c.index-routes-vehicle.result [] c.requires.vehicle in
    let at = unwrap_or-slice_get routes v [] in
    let list : c.items-visits.result.now ≡ list_at routes v = cc in
    let same = ap length list in
    let kept = ap length c.loop-position.invariant.list in
    let long = c.loop-position.list.ok.0 in
    let more = c.in_ok-insert.ensures.len in
    omega arith

pub loop-position-preserved : goal.loop-position-preserved
loop-position-preserved c =
    let p = c.args.given.now in
    let w = c.args.weights in
    let routes = c.args.routes.now in
    let client : ℕ = c.args.client in
    let v : ℕ = c.args.vehicle in
    let i : ℕ = c.loop-position.position in
    let there = get_or_default routes v c.index-routes-vehicle.result [] c.requires.vehicle in
    let at = unwrap_or-slice_get routes v [] in
    let list : c.items-visits.result.now ≡ list_at routes v = cc in
    let same = ap length list in
    let kept = ap length c.loop-position.invariant.list in
    let is = c.loop-position.invariant in
    let costs = with-client-costs p w routes client v i c.requires.missing.sound c.requires.vehicle (inserted-sound p w routes client v i c.requires.missing c.requires.vehicle) in
    let new : SFits w128 c.route_cost.result = search rules in
    let old : SFits w128 c.route_cost-cost.result = search rules in
    let with_it : c.as_slice.result.now ≡ insert (list_at routes v) i (Client client) =
    c.as_slice.ensures.value ∙ (c.in_ok-insert.ensures.items ∙ ap (λ (xs : List Visit). insert xs i (Client client)) is.list) in
    let cost_of : List Visit → ℕ = route_cost p w (type_of_vehicle p v) in
    record {
      list = c.remove.ensures.items
          ∙ (ap (λ (xs : List Visit). remove xs i) c.in_ok-insert.ensures.items ∙ (remove-insert c.loop-position.list.items i (Client client) (omega arith) ∙ is.list));
      best = λ plans before.
          subst (IsBestOf p w routes client c.better-best.result)
          (append_assoc plans (map (with_client routes client v) (range_with_len 0 i)) (with_client routes client v i ∷ [])
          ∙ ap (λ (xs : List Routes). plans ++ xs) (sym (map-range_with_len_more (with_client routes client v) 0 i i (omega arith))))
          (c.better-best.ensures p w routes client (plans ++ map (with_client routes client v) (range_with_len 0 i)) (is.best plans before)
          (record {
            vehicle = c.requires.vehicle;
            position = omega arith;
            grown =
                growth-is c.route_cost.result c.route_cost-cost.result (cost_of (insert (list_at routes v) i (Client client))) (cost_of (list_at routes v))
                (solution_cost p w (with_client routes client v i)) (client_at p client).prize (solution_cost p w routes) new old
                (c.route_cost.ensures.cost ∙ ap (λ (xs : List Visit). pos (cost_of xs)) with_it) (c.route_cost-cost.ensures.cost ∙ ap (λ (xs : List Visit). pos (cost_of xs)) list) costs;
          }));
    }

pub returns : goal.returns
returns c = λ plans before.
    let routes = c.args.routes.now in
    let v : ℕ = c.args.vehicle in
    let there = get_or_default routes v c.index-routes-vehicle.result [] c.requires.vehicle in
    let at = unwrap_or-slice_get routes v [] in
    let list : c.items-visits.result.now ≡ list_at routes v = cc in
    let same = ap length list in
    let all : c.loop-position.position ≡ length (list_at routes v) + 1 = omega arith in
    subst (λ (n : ℕ). IsBestOf c.args.given.now c.args.weights routes c.args.client c.loop-position.best (plans ++ map (with_client routes c.args.client v) (range_with_len 0 n))) all
    (c.loop-position.invariant.best plans before)
