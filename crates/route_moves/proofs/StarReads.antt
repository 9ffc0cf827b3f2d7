-- How many legs the swap of two clients reads.
use Rattle.std.proofs.Common.{◌≡◌, ℕ, ◌+◌, ◌*◌, ◌≤◌, Bool, true, false, nat_lt, cond, length, refl, ap, ap₂, arith, mul_assoc}
use Rattle.std.specs.Prelude.{nat_eq}
use Rattle.routing_model.specs.Routes.{list_at}
use Rattle.gain_model.specs.CandidateVehicles.{vehicles_of}
use Rattle.gain_model.specs.MoveReads.{move_reads, profile_of}
use Rattle.gain_model.proofs.StandsOnce.{same_test}
use Rattle.move_core.specs.Operators.{operator_reads}
use Rattle.move_core.specs.Searches.{SearchState}
use Rattle.new_lists.specs.Reads.{improve_reads, list_reads}
use Rattle.star_pairs.specs.declared.pair.Pair.{Pair}
use Rattle.star_pairs.specs.declared.pair.Turn.{Turn}
use Rattle.route_moves.specs.inside.Stars.{star_candidate, star_lists, turned_by, turned_list}

-- the runs of a turn's new list are the vehicle's own
own-run : (s : SearchState) (vehicle n : ℕ) → cond (nat_eq (profile_of s.problem vehicle) (profile_of s.problem vehicle)) 0 n ≡ 0
own-run s vehicle n = ap (λ (b : Bool). cond b 0 n) (same_test (profile_of s.problem vehicle) (profile_of s.problem vehicle) refl)

turned-reads : (s : SearchState) (vehicle client : ℕ) (turn : Turn) → list_reads s (turned_list vehicle client turn) ≡ 6
turned-reads s vehicle client turn = by (nat_lt turn.place turn.goes)
  where
    by : (b : Bool) → list_reads s (turned_by b vehicle client turn) ≡ 6
    by true = ap₂ (λ (m n : ℕ). 6 + 0 + m + n) (own-run s vehicle _) (own-run s vehicle _)
    by false = ap₂ (λ (m n : ℕ). 6 + m + 0 + n) (own-run s vehicle _) (own-run s vehicle _)

pub star-improves : (s : SearchState) (i j : ℕ) (pair : Pair) → improve_reads s (star_lists i j pair) ≡ 12
star-improves s i j pair = ap₂ (λ (m n : ℕ). m + n) (turned-reads s i pair.v pair.first) (turned-reads s j pair.u pair.second)

-- an operator may read as many
room : (once a b : ℕ) → 100 ≤ once → 20 * (a * b) + 12 ≤ once + 32 * a * b
room once a b some = let same : 32 * a * b ≡ 32 * (a * b) = mul_assoc 32 a b in omega (arith, same, some)

pub star-room : (s : SearchState) (i j : ℕ) → 20 * (length (list_at s.routes i) * length (list_at s.routes j)) + 12 ≤ operator_reads s.problem s.routes (star_candidate i j)
star-room s i j = room (move_reads s.problem s.routes (vehicles_of s.problem s.routes (star_candidate i j))) (length (list_at s.routes i)) (length (list_at s.routes j)) (omega arith)
