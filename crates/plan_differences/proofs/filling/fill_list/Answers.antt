use Rattle.std.proofs.Common.{◌≡◌, ◌∙◌, ◌-◌, ◌+◌, ◌≤◌, List, [], get_or, length, subst, sym, take, true}
use Rattle.std.specs.List.{list_all}
use Rattle.std.proofs.lemmas.List.{get_or_default}
use Rattle.problem_data.specs.declared.visit.Visit.{Visit}
use Rattle.problem_data.specs.declared.visit.Visit.TheVariants.{Client}
use Rattle.routing_model.specs.Lawful.{names_place}
use Rattle.search_model.proofs.ClientPlaces.{list-read}
use Rattle.genetic_model.specs.BrokenPairs.{as_neighbour, back_of, depot}
use Rattle.plan_differences.proofs.FilledEntries.{back-next, begin, end, filled-next, list-named, part-named, visit-named}
use Rattle.plan_differences.proofs.filling.fill_list.Goals as goal

pub loop-at-init : goal.loop-at-init
loop-at-init c =
    let routes = c.args.routes.now in
    let v = c.args.vehicle in
    record {
      list = c.items-visits.ensures ∙ (c.index-routes-vehicle.is ∙ (get_or_default routes v c.index-routes-vehicle.result [] c.requires.vehicle ∙ sym (list-read routes v)));
      filled = begin c.args.given.now routes v c.args.entries.now c.requires.filled;
      on_left = λ i. depot;
    }

pub front_of-right-requires : goal.front_of-right-requires
front_of-right-requires c =
    let all = list-named c.args.given.now c.args.routes.now c.args.vehicle c.requires.lawful c.requires.vehicle in
    let visits = c.items-visits.result.now in
    record {
      named = part-named c.args.given.now visits (length visits - (c.loop-at.at + 1)) (c.loop-at.at + 1)
          (subst (λ (xs : List Visit). list_all (names_place c.args.given.now) xs ≡ true) (sym c.loop-at.invariant.list) all);
    }

pub loop-at-preserved : goal.loop-at-preserved
loop-at-preserved c =
    let p = c.args.given.now in
    let routes = c.args.routes.now in
    let v = c.args.vehicle in
    let k = c.loop-at.at in
    let visits = c.items-visits.result.now in
    let is = c.loop-at.invariant in
    let all = subst (λ (xs : List Visit). list_all (names_place p) xs ≡ true) (sym is.list) (list-named p routes v c.requires.lawful c.requires.vehicle) in
    record {
      list = is.list;
      filled = filled-next p routes v visits k c.loop-at.entries c.put.new.entries c.loop-at.left c.front_of-right.result c.requires.lawful is.list c.loop-at-test.true c.put.ensures
          (visit-named p visits k all c.loop-at-test.true) is.on_left c.front_of-right.ensures is.filled;
      on_left = c.beside-left.ensures
          ∙ subst (λ (xs : List Visit). as_neighbour (get_or visits k (Client 0)) ≡ back_of depot (take (k + 1) xs)) is.list (sym (back-next visits k (Client 0) c.loop-at-test.true));
    }

pub returns : goal.returns
returns c =
    end c.args.given.now c.args.routes.now c.args.vehicle c.loop-at.at c.loop-at.entries c.requires.vehicle
    (subst (λ (xs : List Visit). length xs ≤ c.loop-at.at) c.loop-at.invariant.list c.loop-at-test.false) c.loop-at.invariant.filled
