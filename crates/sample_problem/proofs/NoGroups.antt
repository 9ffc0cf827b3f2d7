-- Where there are no groups and no client has one, all clients are grouped as listed.
use Rattle.std.proofs.Common.{◌≡◌, ℕ, ◌<◌, List, [], length, ap, arith}
use Rattle.std.specs.Prelude.{Contains, None}
use Rattle.problem_data.specs.declared.problem.Problem.{Problem}
use Rattle.problem_data.specs.Places.{client_at, group_at}
use Rattle.problem_data.specs.Valid.{IsGroupedAsListed}

nothing-contained : (xs : List ℕ) (place : ℕ) → xs ≡ [] → Contains xs place → ⊥
nothing-contained xs place e h = let below : h.0 < length xs = h.1 in let none : length xs ≡ 0 = ap length e in omega arith

pub no_groups : (p : Problem) → ((group : ℕ) → group_at p group ≡ []) → ((place : ℕ) → (client_at p place).group ≡ None) → IsGroupedAsListed p
no_groups p no_members no_group place group h = (
  λ e. let none : (client_at p place).group ≡ None = no_group place in cc,
  λ c. absurd (nothing-contained (group_at p group) place (no_members group) c),
)
