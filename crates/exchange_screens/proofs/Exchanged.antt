-- What the candidates of the nine kinds of exchanges make.
use Rattle.std.proofs.Common.{◌≡◌, ℕ, zero, suc, ◌≤◌, refl, arith}
use Rattle.problem_data.specs.declared.problem.Problem.{Problem}
use Rattle.routing_model.specs.declared.weights.Weights.{Weights}
use Rattle.routing_model.specs.Routes.{Routes}
use Rattle.search_model.specs.declared.candidate.Candidate.TheVariants.{Node}
use Rattle.search_model.specs.declared.candidate.Target.{Target}
use Rattle.search_model.specs.Exchange.{exchanged}
use Rattle.search_model.specs.Moves.{made}
use Rattle.exchange_screens.specs.Exchanges.{IsExchange, exchange_kind}

-- a fact of each of the nine is one of all exchanges
each-exchange : (P : ℕ → ℕ → Type 0) → P 1 0 → P 2 0 → P 3 0 → P 1 1 → P 2 1 → P 3 1 → P 2 2 → P 3 2 → P 3 3 → (n m : ℕ) → IsExchange n m → P n m
each-exchange P p10 p20 p30 p11 p21 p31 p22 p32 p33 zero m is = absurd (omega (arith, is.some))
each-exchange P p10 p20 p30 p11 p21 p31 p22 p32 p33 (suc zero) zero is = p10
each-exchange P p10 p20 p30 p11 p21 p31 p22 p32 p33 (suc zero) (suc zero) is = p11
each-exchange P p10 p20 p30 p11 p21 p31 p22 p32 p33 (suc zero) (suc (suc m)) is = absurd (omega (arith, is.fewer))
each-exchange P p10 p20 p30 p11 p21 p31 p22 p32 p33 (suc (suc zero)) zero is = p20
each-exchange P p10 p20 p30 p11 p21 p31 p22 p32 p33 (suc (suc zero)) (suc zero) is = p21
each-exchange P p10 p20 p30 p11 p21 p31 p22 p32 p33 (suc (suc zero)) (suc (suc zero)) is = p22
each-exchange P p10 p20 p30 p11 p21 p31 p22 p32 p33 (suc (suc zero)) (suc (suc (suc m))) is = absurd (omega (arith, is.fewer))
each-exchange P p10 p20 p30 p11 p21 p31 p22 p32 p33 (suc (suc (suc zero))) zero is = p30
each-exchange P p10 p20 p30 p11 p21 p31 p22 p32 p33 (suc (suc (suc zero))) (suc zero) is = p31
each-exchange P p10 p20 p30 p11 p21 p31 p22 p32 p33 (suc (suc (suc zero))) (suc (suc zero)) is = p32
each-exchange P p10 p20 p30 p11 p21 p31 p22 p32 p33 (suc (suc (suc zero))) (suc (suc (suc zero))) is = p33
each-exchange P p10 p20 p30 p11 p21 p31 p22 p32 p33 (suc (suc (suc zero))) (suc (suc (suc (suc m)))) is = absurd (omega (arith, is.fewer))
each-exchange P p10 p20 p30 p11 p21 p31 p22 p32 p33 (suc (suc (suc (suc n)))) m is = absurd (omega (arith, is.few))

module _ (p : Problem) (w : Weights) (routes : Routes) (n m : ℕ) where
  pub made-exchange : (u : ℕ) (target : Target) → 1 ≤ n → n ≤ 3 → m ≤ n → made p w routes (Node (exchange_kind n m) u target) ≡ exchanged p routes n m u target
  made-exchange u target some few fewer =
      each-exchange (λ k l. made p w routes (Node (exchange_kind k l) u target) ≡ exchanged p routes k l u target) refl refl refl refl refl refl refl refl refl n m
      (record { some = some; few = few; fewer = fewer })
