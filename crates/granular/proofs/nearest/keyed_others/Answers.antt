use Rattle.std.proofs.Common.{◌≡◌, ◌∙◌, sym, ap, ap₂, ℕ, suc, ◌+◌, ◌-◌, ◌*◌, ◌++◌, ◌==◌, true, false, List, [], ◌∷◌, length, arith, Vec, Global}
use Rattle.std.specs.List.{range_with_len}
use Rattle.std.proofs.lemmas.Bool.Decides.{nat_tests}
use Rattle.std.proofs.lemmas.List.FromFn.{length-map-range_with_len}
use Rattle.granular.specs.Pairs.{all_nears, pair_near}
use Rattle.granular.proofs.KeyedPlaces.{keys_by, keys-are, keys-none, keys-skipped, keys-taken}
use Rattle.granular.proofs.PairRange.{pair-below}
use Rattle.granular.proofs.nearest.keyed_others.Goals.{then-other-index+in_ok-push, else-other-index}
use Rattle.granular.proofs.nearest.keyed_others.Goals as goal

pub bounds-nears-index : goal.bounds-nears-index
bounds-nears-index c =
    let n : ℕ = length c.args.given.now.clients in
    let side : c.client_places-clients.result.end - c.client_places-clients.result.start ≡ n = omega (arith, c.client_places-clients.ensures.start, c.client_places-clients.ensures.end) in
    let all : length c.args.nears.now ≡ n * n = ap length c.requires.nears ∙ length-map-range_with_len (pair_near c.args.given.now c.args.weights) 0 (n * n) in
    rw (all, side) (pair-below n c.args.index c.loop-other.other c.requires.index (omega (arith, side, c.loop-other-test.true)))

pub bounds-nears-other : goal.bounds-nears-other
bounds-nears-other c =
    let n : ℕ = length c.args.given.now.clients in
    let side : c.client_places-clients.result.end - c.client_places-clients.result.start ≡ n = omega (arith, c.client_places-clients.ensures.start, c.client_places-clients.ensures.end) in
    let all : length c.args.nears.now ≡ n * n = ap length c.requires.nears ∙ length-map-range_with_len (pair_near c.args.given.now c.args.weights) 0 (n * n) in
    rw (all, side) (pair-below n c.loop-other.other c.args.index (omega (arith, side, c.loop-other-test.true)) c.requires.index)

pub loop-other-preserved : goal.loop-other-preserved
loop-other-preserved c =
    let nears : List ℕ = c.args.nears.now in
    let first : ℕ = c.client_places-clients.result.start in
    let n : ℕ = c.client_places-clients.result.end - first in
    let i : ℕ = c.args.index in
    let other : ℕ = c.loop-other.other in
    let m : ℕ = n - (other + 1) in
    let left : n - other ≡ suc m = omega (arith, c.loop-other-test.true) in
    let all : List (ℕ × ℕ) = keys_by nears n first i (range_with_len 0 n) in
    let rest : List (ℕ × ℕ) = keys_by nears n first i (range_with_len (other + 1) m) in
    let here = sym (ap (λ k. c.loop-other.keys.items ++ keys_by nears n first i (range_with_len other k)) left) ∙ c.loop-other.invariant in
    elim c.if-other-index.branch as (λ _. c.if-other-index.keys.items ++ rest ≡ all) [
      | then-other-index+in_ok-push w ↦
          let another : (other == i) ≡ false = grind (arith, nat_tests) in
          ap (λ (keys : Vec (ℕ × ℕ) Global). keys.items ++ rest) w.keys-is
          ∙ ap (λ (keys : List (ℕ × ℕ)). keys ++ rest) w.in_ok-push.ensures.items
          ∙ ap (λ (number : ℕ). (c.loop-other.keys.items ++ (number, first + other) ∷ []) ++ rest) w.min.ensures
          ∙ keys-taken nears n first i other m c.loop-other.keys.items all another here
      | else-other-index w ↦
          let itself : (other == i) ≡ true = grind (arith, nat_tests) in
          ap (λ (keys : Vec (ℕ × ℕ) Global). keys.items ++ rest) w.keys-is
          ∙ keys-skipped nears n first i other m c.loop-other.keys.items all itself here
    ]

pub returns : goal.returns
returns c =
    let p = c.args.given.now in
    let first : ℕ = c.client_places-clients.result.start in
    let n : ℕ = c.client_places-clients.result.end - first in
    let i : ℕ = c.args.index in
    let side : n ≡ length p.clients = omega (arith, c.client_places-clients.ensures.start, c.client_places-clients.ensures.end) in
    keys-none c.args.nears.now n first i c.loop-other.other (n - c.loop-other.other) c.loop-other.keys.items (keys_by c.args.nears.now n first i (range_with_len 0 n))
    (omega (arith, c.loop-other-test.false)) c.loop-other.invariant
    ∙ ap (λ (nears : List ℕ). keys_by nears n first i (range_with_len 0 n)) c.requires.nears
    ∙ ap₂ (λ (k s : ℕ). keys_by (all_nears p c.args.weights) k s i (range_with_len 0 k)) side c.client_places-clients.ensures.start
    ∙ keys-are p c.args.weights i c.requires.index
