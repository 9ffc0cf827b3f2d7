use Rattle.std.proofs.Common.{◌∙◌, ◌++◌, ◌∷◌, [], sym, ap, ap₂, ℕ, List, length, map, zero-add}
use Rattle.std.proofs.lemmas.List.FromFn.{map-range_with_len_more}
use Rattle.problem_data.specs.declared.visit.Visit.{Visit}
use Rattle.problem_data.specs.declared.visit.Visit.TheVariants.{Client}
use Rattle.random_model.specs.RandomSolution.{share}
use Rattle.random_model.proofs.Dealing.{part}
use Rattle.random_plans.proofs.dealing.dealt.Goals as goal

pub loop-vehicle-preserved : goal.loop-vehicle-preserved
loop-vehicle-preserved c =
    let per : ℕ = share (length c.args.clients.now) c.args.vehicles in
    let more = map-range_with_len_more (λ v. map Client (part per c.args.clients.now v)) 0 c.loop-vehicle.vehicle c.loop-vehicle.vehicle (zero-add c.loop-vehicle.vehicle) in
    c.in_ok-push.ensures.items
    ∙ ap₂ (λ (l : List (List Visit)) (v : List Visit). l ++ v ∷ []) c.loop-vehicle.invariant (c.in_ok-visits.ensures ∙ ap (map Client) c.part_of.ensures)
    ∙ sym more
