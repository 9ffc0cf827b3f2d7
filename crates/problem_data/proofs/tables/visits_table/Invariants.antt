use Rattle.std.proofs.Common.{◌≡◌, map}
use Rattle.std.specs.Prelude.{nat_lt, if◌then◌else◌}
use Rattle.std.specs.List.{range_with_len}
use Rattle.problem_data.specs.declared.visit.Visit.TheVariants.{Client, Reload}
use Rattle.problem_data.proofs.tables.visits_table.Given as goal

-- the places passed so far are in the table
abbrev pub invariant-loop-place : goal.invariant-loop-place
invariant-loop-place l =
    l.table.items ≡ map (λ place. if nat_lt place l.depots then Reload place else Client place) (range_with_len 0 l.place)
