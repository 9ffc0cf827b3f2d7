-- Starts with their difference.
use Rattle.std.specs.Prelude.{◌≡◌, ℕ}
use Rattle.genetic_model.specs.declared.starts.Starts.{Starts}
use Rattle.route_rings.specs.declared.selection.Measured.{Measured}

-- the difference is that of the starts
abbrev pub IsMeasured : (Starts → ℕ) → Measured → Type 0
IsMeasured f m = m.difference ≡ f m.starts
