use Rattle.std.proofs.Common.{◌≡◌, ◌++◌, string_bytes, take}
use Rattle.std.specs.Prelude.{flat_map}
use Rattle.vrp_texts.specs.Printed.{spaced, token}
use Rattle.solution_write.proofs.route.push_visits.Given as goal

-- the first visits are added
abbrev pub invariant-loop-visit : goal.invariant-loop-visit
invariant-loop-visit l =
    string_bytes l.text ≡ string_bytes l.initial.text ++ flat_map (λ visit. spaced (token visit)) (take l.visit-index l.visits)
