-- Sides at which two entries differ.
use Rattle.std.specs.Prelude.{ℕ, ◌+◌, ◌==◌, if◌then◌else◌}
use Rattle.plan_differences.specs.declared.flanks.Flanks.{Flanks}

-- on how many sides they do
abbrev pub sides_apart : Flanks → Flanks → ℕ
sides_apart here there = (if here.left == there.left then 0 else 1) + (if here.right == there.right then 0 else 1)
