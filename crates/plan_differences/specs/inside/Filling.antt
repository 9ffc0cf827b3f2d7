-- Entries of the clients that were met so far.
use Rattle.std.specs.Prelude.{◌≡◌, ℕ, ◌≤◌, Bool, true, false, List, length, slice_set}
use Rattle.problem_data.specs.declared.problem.Problem.{Problem}
use Rattle.problem_data.specs.declared.visit.Visit.{Visit}
use Rattle.problem_data.specs.declared.visit.Visit.TheVariants.{Client, Reload}
use Rattle.problem_data.specs.Places.{place_count}
use Rattle.routing_model.specs.Routes.{Routes}
use Rattle.plan_differences.specs.declared.flanks.TheConstants.{NONE}
use Rattle.plan_differences.specs.declared.flanks.Flanks.{Flanks}
use Rattle.plan_differences.specs.Beside.{SaysBeside, flanks_at}

-- with the entry of a visit's client, if it is one
abbrev pub flanked : List Flanks → Visit → Flanks → List Flanks
flanked entries (Client c) flanks = slice_set entries c flanks
flanked entries (Reload d) flanks = entries

-- the entries of the clients that were met say what stands beside them, and all others say that nothing does
pub record AreFilled (p : Problem) (routes : Routes) (met : ℕ → Bool) (entries : List Flanks) : Type 0 where
  pub places : place_count p ≤ length entries
  pub told : (c : ℕ) → met c ≡ true → SaysBeside routes c (flanks_at entries c)
  pub others : (c : ℕ) → met c ≡ false → flanks_at entries c ≡ record { left = NONE; right = NONE }
