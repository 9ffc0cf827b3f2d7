use Rattle.std.proofs.Common.{◌≡◌, ◌∙◌, ap, subst, ℕ, List, length, map, IfOk, rules}
use Rattle.std.specs.List.Sorted.{IsPermutation}
use Rattle.std.proofs.lemmas.Fn.{always_returns_same}
use Rattle.route_rings.specs.declared.direction.Direction.{Direction}
use Rattle.route_rings.specs.inside.Directions.{comes_before_by, used_directions}
use Rattle.route_rings.proofs.OrderedDirections.{directions-order, in-order, used-are, used-vehicles}
use Rattle.route_rings.proofs.ordering.route_order.Goals as goal

pub returns : goal.returns
returns c =
    let laws = c.directions_are_ordered.ensures in
    let p = c.args.given.now in
    let routes = c.args.routes.now in
    let ordered = in-order p routes laws.unique (used_directions p routes (length routes)) c.sort_by.new.self.items (used-vehicles p routes (length routes)) (used-are p routes (length routes))
    (subst (λ (ds : List Direction). IsPermutation ds c.sort_by.new.self.items) c.in_ok-directions.ensures c.in_ok-sort_by.ensures.permutation)
    (c.in_ok-sort_by.ensures.sorted comes_before_by (directions-order laws.turns) (always_returns_same _ _ _ (λ a r f called. search rules))) in
    subst (λ (l : List ℕ). IfOk c.vehicles_of.result (λ r. r.items ≡ l)) (ap (map (λ (d : Direction). d.vehicle)) c.as_slice.ensures.value ∙ ordered) c.vehicles_of.ensures
