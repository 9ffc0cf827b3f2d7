use Rattle.std.proofs.Common.{◌≡◌, ◌∙◌, ◌++◌, ◌∷◌, [], ℕ, List, ap, ap₂, arith, length, map, sym}
use Rattle.std.specs.List.{range_with_len}
use Rattle.std.proofs.lemmas.List.FromFn.{map-range_with_len_more}
use Rattle.problem_data.specs.declared.visit.Visit.{Visit}
use Rattle.routing_model.specs.Routes.{Routes}
use Rattle.routing_model.specs.Tidy.{tidied}
use Rattle.genetic_model.specs.RouteChildren.{child_list, giver_of}
use Rattle.exchange_children.specs.Exchanges.{exchange_of}
use Rattle.exchange_children.proofs.exchanged.Exchanged.child.Goals as goal

pub loop-vehicle-preserved : goal.loop-vehicle-preserved
loop-vehicle-preserved c = λ kept put is_kept is_put.
    let p = c.args.given.now in
    let self = c.args.self in
    let k : ℕ = c.loop-vehicle.vehicle in
    let list_of : ℕ → List Visit = λ (v : ℕ). tidied (child_list p self.parent.now self.other.now kept put v (giver_of (exchange_of self) v)) in
    let made : c.from_vec.result ≡ list_of k = c.from_vec.ensures ∙ (c.in_ok-tidy.ensures ∙ ap tidied (c.as_slice.ensures.value ∙ c.in_ok-list.ensures kept put is_kept is_put)) in
    c.in_ok-push.ensures.items
    ∙ (ap₂ (λ (lists : Routes) (xs : List Visit). lists ++ xs ∷ []) (c.loop-vehicle.invariant kept put is_kept is_put) made ∙ sym (map-range_with_len_more list_of 0 k k (omega arith)))

pub returns : goal.returns
returns c = λ kept put is_kept is_put.
    let p = c.args.given.now in
    let self = c.args.self in
    let list_of : ℕ → List Visit = λ (v : ℕ). tidied (child_list p self.parent.now self.other.now kept put v (giver_of (exchange_of self) v)) in
    let all : c.loop-vehicle.vehicle ≡ length self.parent.now = omega arith in
    c.loop-vehicle.invariant kept put is_kept is_put ∙ ap (λ (n : ℕ). map list_of (range_with_len 0 n)) all
