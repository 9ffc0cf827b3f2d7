use Rattle.std.proofs.Common.{◌∙◌, ◌++◌, ◌∷◌, List, ℕ, [], ap₂, arith, sym, Option}
use Rattle.std.proofs.lemmas.List.FromFn.{map-range_with_len_more}
use Rattle.search_model.specs.Edits.{unused_vehicle}
use Rattle.local_search.proofs.descent.unused_vehicles.Goals as goal

pub loop-vehicle_type-preserved : goal.loop-vehicle_type-preserved
loop-vehicle_type-preserved c =
    c.in_ok-push.ensures.items
    ∙ ap₂ (λ (vs : List (Option ℕ)) (v : Option ℕ). vs ++ v ∷ []) c.loop-vehicle_type.invariant c.unused.ensures.unused
    ∙ sym (map-range_with_len_more (unused_vehicle c.args.search.now.problem c.args.search.now.routes) 0 c.loop-vehicle_type.vehicle_type c.loop-vehicle_type.vehicle_type (omega arith))
