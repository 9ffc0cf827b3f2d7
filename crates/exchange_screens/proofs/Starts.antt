-- No exchange goes to the start before a client that doesn't stand first.
use Rattle.std.proofs.Common.{◌≡◌, ℕ, zero, suc, ◌≤◌, ◌-◌, Bool, true, false, refl, arith, Option, Some, None}
use Rattle.search_model.specs.declared.candidate.Target.TheVariants.{StartOf}
use Rattle.search_model.specs.Edits.{position_of}
use Rattle.search_model.proofs.Pieces.{is_piece}
use Rattle.search_model.proofs.PutMoves.{put-none}
use Rattle.routing_model.specs.Routes.{list_at}
use Rattle.move_core.specs.Searches.{IsSound, SearchState}
use Rattle.exchange_screens.specs.declared.trial.Trial.{Trial}
use Rattle.list_changes.specs.Aims.{IsNoAim}
use Rattle.exchange_screens.specs.Trials.{IsAnswer, NoStart, candidate_of}
use Rattle.exchange_screens.proofs.PieceFacts.{no-position, no-run, stands}
use Rattle.exchange_screens.proofs.PutLaws.{no-piece, nothing-made}
use Rattle.exchange_screens.proofs.SwapLaws.{not-behind}

module _ (s : SearchState) (sound : IsSound s) (v : ℕ) where
  abbrev start : ℕ → ℕ → ℕ → Trial
  start n m u = record { n = n; m = m; client = u; target = StartOf v }

  puts : (n u : ℕ) → 1 ≤ n → n ≤ 3 → IsNoAim s (StartOf v) → IsAnswer s (start n 0 u) None
  puts n u some few none = by (position_of s.routes u) refl
    where
      at-place : (a place : ℕ) → position_of s.routes u ≡ Some (a, place) → (b : Bool) → is_piece (list_at s.routes a) (place - 1) n ≡ b → IsAnswer s (start n 0 u) None
      at-place a place at false e = no-piece s sound (start n 0 u) refl some few (no-run s sound u n a place at e)
      at-place a place at true e =
          nothing-made s sound (start n 0 u) refl some few
          (put-none s.problem s.weights s.routes (candidate_of (start n 0 u)) sound.lawful a (place - 1) n u (stands s sound u n a place at) some e (StartOf v) none)

      by : (o : Option (ℕ × ℕ)) → position_of s.routes u ≡ o → IsAnswer s (start n 0 u) None
      by None e = no-piece s sound (start n 0 u) refl some few (no-position s sound u n e)
      by (Some (a, place)) e = at-place a place e (is_piece (list_at s.routes a) (place - 1) n) refl

  swaps : (n m u : ℕ) → 1 ≤ n → n ≤ 3 → suc m ≤ n → IsAnswer s (start n (suc m) u) None
  swaps n m u some few fewer = not-behind s (start n (suc m) u) m refl some few fewer refl

  pub no-start : IsNoAim s (StartOf v) → NoStart s v
  no-start none zero u few = puts 1 u (omega arith) (omega arith) none
  no-start none (suc zero) u few = puts 2 u (omega arith) (omega arith) none
  no-start none (suc (suc zero)) u few = puts 3 u (omega arith) (omega arith) none
  no-start none (suc (suc (suc zero))) u few = swaps 1 0 u (omega arith) (omega arith) (omega arith)
  no-start none (suc (suc (suc (suc zero)))) u few = swaps 2 0 u (omega arith) (omega arith) (omega arith)
  no-start none (suc (suc (suc (suc (suc zero))))) u few = swaps 3 0 u (omega arith) (omega arith) (omega arith)
  no-start none (suc (suc (suc (suc (suc (suc zero)))))) u few = swaps 2 1 u (omega arith) (omega arith) (omega arith)
  no-start none (suc (suc (suc (suc (suc (suc (suc zero))))))) u few = swaps 3 1 u (omega arith) (omega arith) (omega arith)
  no-start none (suc (suc (suc (suc (suc (suc (suc (suc zero)))))))) u few = swaps 3 2 u (omega arith) (omega arith) (omega arith)
  no-start none (suc (suc (suc (suc (suc (suc (suc (suc (suc at))))))))) u few = absurd (omega (arith, few))
