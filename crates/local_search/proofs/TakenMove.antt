-- A move that an operator gave may be applied, and what comes of it.
use Rattle.std.proofs.Common.{◌≡◌, ◌∙◌, ◌⊎◌, inl, inr, ℕ, zero, suc, ◌+◌, ◌<◌, ◌≤◌, Bool, true, false, cond, List, [], ◌∷◌, length, map, Option, Some, refl, sym, ap, arith, subst, ℤ, pos, ◌-ℤ◌, ◌<ℤ◌, get_or-set_same, get_or-set_other}
use Rattle.std.specs.Prelude.{option_map, slice_index, slice_index_or, ◌==◌}
use Rattle.std.proofs.lemmas.Bool.{cases_eq}
use Rattle.std.proofs.lemmas.Bool.Decides.{nat_tests}
use Rattle.std.proofs.lemmas.Int.{ints}
use Rattle.std.proofs.lemmas.List.{length-map}
use Rattle.problem_data.specs.declared.problem.Problem.{Problem}
use Rattle.problem_data.specs.Reads.{OneMore}
use Rattle.routing_model.specs.declared.weights.Weights.{Weights}
use Rattle.routing_model.specs.Cost.{solution_cost}
use Rattle.routing_model.specs.Routes.{Routes}
use Rattle.search_model.specs.declared.candidate.Candidate.{Candidate}
use Rattle.search_model.specs.declared.kind.Kind.{Kind}
use Rattle.search_model.specs.Search.{kind_number, kind_of}
use Rattle.gain_model.specs.Gains.{GainSide, GainState, MayBeApplied, made}
use Rattle.gain_model.specs.Operators.{MakesMove}
use Rattle.search_model.specs.Kinds.{all_kinds}
use Rattle.move_core.specs.Searches.{SearchState}
use Rattle.move_core.specs.declared.tally.Tally.{Tally}
use Rattle.descent_memory.specs.Memories.{IsMemoryOf, MemoryState, last_count}
use Rattle.descent_memory.specs.Touching.{Follows, after_move}
use Rattle.descent_memory.proofs.AfterMoves.{after-clock, after-follows, after-memory, after-moments, after-tried}
use Rattle.local_search.specs.Counts.{RoseBy, RoseTogether, all_applied, all_tried}
use Rattle.local_search.specs.inside.Kits.{OneApplied}
use Rattle.local_search.specs.inside.Stages.{IsStage, TakesMove, Tried, stage_of}
use Rattle.local_search.proofs.BetterPlans.{better}
use Rattle.local_search.proofs.Candidate.{one_of_kind, was_taken}
use Rattle.local_search.proofs.MadePlans.{made-elsewhere, made-length, side_vehicle, vehicle_of_side}
use Rattle.local_search.proofs.Rises.{rose_not, rose_once}

lowers_by : (m n : ℕ) (z : ℤ) → z ≡ pos m -ℤ pos n → m < n → z <ℤ pos 0
lowers_by m n z e h = omega (arith, ints)

-- the move may be applied
pub may_apply : (p : Problem) (w : Weights) (routes : Routes) (c : Candidate) (g : GainState) → MakesMove p w routes c g → MayBeApplied p w routes g
may_apply p w routes c g m = let b = better p w routes c (made g routes) m.makes in record {
  within = m.within;
  lowers = lowers_by (solution_cost p w (made g routes)) (solution_cost p w routes) g.amount m.amount b.less;
  amount = m.amount;
  lawful = b.lawful;
}

-- the kinds are numbered in order
kind_numbered : (k : ℕ) (d : Kind) → k < 18 → kind_number (slice_index_or all_kinds k d) ≡ k + 1
kind_numbered zero d l = refl
kind_numbered (suc zero) d l = refl
kind_numbered (suc (suc zero)) d l = refl
kind_numbered (suc (suc (suc zero))) d l = refl
kind_numbered (suc (suc (suc (suc zero)))) d l = refl
kind_numbered (suc (suc (suc (suc (suc zero))))) d l = refl
kind_numbered (suc (suc (suc (suc (suc (suc zero)))))) d l = refl
kind_numbered (suc (suc (suc (suc (suc (suc (suc zero))))))) d l = refl
kind_numbered (suc (suc (suc (suc (suc (suc (suc (suc zero)))))))) d l = refl
kind_numbered (suc (suc (suc (suc (suc (suc (suc (suc (suc zero))))))))) d l = refl
kind_numbered (suc (suc (suc (suc (suc (suc (suc (suc (suc (suc zero)))))))))) d l = refl
kind_numbered (suc (suc (suc (suc (suc (suc (suc (suc (suc (suc (suc zero))))))))))) d l = refl
kind_numbered (suc (suc (suc (suc (suc (suc (suc (suc (suc (suc (suc (suc zero)))))))))))) d l = refl
kind_numbered (suc (suc (suc (suc (suc (suc (suc (suc (suc (suc (suc (suc (suc zero))))))))))))) d l = refl
kind_numbered (suc (suc (suc (suc (suc (suc (suc (suc (suc (suc (suc (suc (suc (suc zero)))))))))))))) d l = refl
kind_numbered (suc (suc (suc (suc (suc (suc (suc (suc (suc (suc (suc (suc (suc (suc (suc zero))))))))))))))) d l = refl
kind_numbered (suc (suc (suc (suc (suc (suc (suc (suc (suc (suc (suc (suc (suc (suc (suc (suc zero)))))))))))))))) d l = refl
kind_numbered (suc (suc (suc (suc (suc (suc (suc (suc (suc (suc (suc (suc (suc (suc (suc (suc (suc zero))))))))))))))))) d l = refl
kind_numbered (suc (suc (suc (suc (suc (suc (suc (suc (suc (suc (suc (suc (suc (suc (suc (suc (suc (suc k)))))))))))))))))) d l = absurd (omega (arith, l))

-- the applied of each kind, after one operator's rose
applied_each : (at : ℕ) (c : Candidate) (xs ys : List ℕ) → at < 18 → slice_index_or all_kinds at (kind_of c) ≡ kind_of c → length xs ≡ 18 → OneApplied at xs ys →
    (k : ℕ) (d : Kind) → k < 18 → RoseBy (one_of_kind (slice_index_or all_kinds k d) c) (slice_index xs k) (slice_index ys k)
applied_each at c xs ys l e n one k d h = by (cases_eq k at)
  where
    number : kind_number (kind_of c) ≡ at + 1
    number = ap kind_number (sym e) ∙ kind_numbered at (kind_of c) l

    same : (i j m n : ℕ) → m ≡ i + 1 → n ≡ j + 1 → j ≡ i → (m == n) ≡ true
    same i j m n a b c = grind (arith, nat_tests)

    other : (i j m n : ℕ) → m ≡ i + 1 → n ≡ j + 1 → (j ≡ i → ⊥) → (m == n) ≡ false
    other i j m n a b c = grind (arith, nat_tests)

    by : (k ≡ at) ⊎ (k ≡ at → ⊥) → RoseBy (one_of_kind (slice_index_or all_kinds k d) c) (slice_index xs k) (slice_index ys k)
    by (inl z) =
        subst (λ (b : Bool). RoseBy (cond b 1 0) (slice_index xs k) (slice_index ys k)) (sym (same at k (kind_number (kind_of c)) (kind_number (slice_index_or all_kinds k d)) number (kind_numbered k d h) z))
        (subst (λ (i : ℕ). RoseBy 1 (slice_index xs i) (slice_index ys i)) (sym z)
        (subst (λ (m : ℕ). RoseBy 1 (slice_index xs at) m) (sym (ap (λ (zs : List ℕ). slice_index zs at) one.others ∙ get_or-set_same xs at one.count 0 (rw n l)))
        (rose_once (slice_index xs at) one.count one.rose)))
    by (inr z) =
        subst (λ (b : Bool). RoseBy (cond b 1 0) (slice_index xs k) (slice_index ys k)) (sym (other at k (kind_number (kind_of c)) (kind_number (slice_index_or all_kinds k d)) number (kind_numbered k d h) z))
        (subst (λ (m : ℕ). RoseBy 0 (slice_index xs k) m) (sym (ap (λ (zs : List ℕ). slice_index zs k) one.others ∙ get_or-set_other xs at k one.count 0 z)) (rose_not (slice_index xs k)))

-- a candidate whose move was taken
module _ (p : Problem) (w : Weights) (c : Candidate) (g : GainState) (at : ℕ) (s t : SearchState) (m n : MemoryState) (ts us vs : List Tally) (tried clock : ℕ) (stage : IsStage p w (stage_of s m ts)) where
  abbrev base : MemoryState
  base = record m { tried = tried; clock = clock }

  abbrev plan : Routes
  plan = made g s.routes

  abbrev next : MemoryState
  next = after_move p s.routes (made g s.routes) g.first.vehicle (vehicle_of_side g.second) (record m { tried = tried; clock = clock })

  memory : clock ≤ last_count → IsMemoryOf p s.routes (record m { tried = tried; clock = clock })
  memory counted = record { counted = counted; moments = stage.memory.moments; pairs = stage.memory.pairs; clients = stage.memory.clients; types = stage.memory.types; lists = stage.memory.lists; as_many = stage.memory.as_many; unused = stage.memory.unused }

  took_move : at < 18 → slice_index_or all_kinds at (kind_of c) ≡ kind_of c → length (all_applied us) ≡ 18 → clock ≤ last_count →
      OneMore m.tried tried → OneMore m.clock clock → RoseTogether 1 (all_tried ts) (all_tried us) → all_applied us ≡ all_applied ts → MakesMove p w s.routes c g →
      t ≡ record s { routes = made g s.routes } → n ≡ after_move p s.routes (made g s.routes) g.first.vehicle (vehicle_of_side g.second) (record m { tried = tried; clock = clock }) →
      all_tried vs ≡ all_tried us → OneApplied at (all_applied us) (all_applied vs) →
      Tried p w all_kinds true (c ∷ []) (stage_of s m ts) (stage_of t n vs)
  took_move l e count counted one more rose same gives new is_next tries applied =
      let long : length (made g s.routes) ≡ length s.routes = made-length g s.routes in
      let b : Routes = made g s.routes in
      let elsewhere = λ (k : ℕ) (x : k ≡ g.first.vehicle → ⊥) (y : Some k ≡ vehicle_of_side g.second → ⊥). made-elsewhere g s.routes k x y in
      subst (λ (z : MemoryState). Tried p w all_kinds true (c ∷ []) (stage_of s m ts) (stage_of t z vs)) (sym is_next)
      (was_taken p w all_kinds true c s m next ts vs stage (subst (λ (xs : List ℕ). RoseTogether 1 (all_tried ts) xs) (sym tries) rose) (made g s.routes) gives.makes t new
      (subst (λ (k : ℕ). RoseBy 1 m.tried k) (sym (after-tried p s.routes (made g s.routes) g.first.vehicle (vehicle_of_side g.second) base long elsewhere (memory counted) counted)) (rose_once m.tried tried one))
      (subst (λ (k : ℕ). RoseBy 1 m.clock k) (sym (after-clock p s.routes (made g s.routes) g.first.vehicle (vehicle_of_side g.second) base long elsewhere (memory counted) counted)) (rose_once m.clock clock more))
      (subst (λ (k : ℕ). Follows p s.routes (made g s.routes) m.touches (next).touches k) (sym (after-clock p s.routes (made g s.routes) g.first.vehicle (vehicle_of_side g.second) base long elsewhere (memory counted) counted))
      (after-follows p s.routes (made g s.routes) g.first.vehicle (vehicle_of_side g.second) base long elsewhere (memory counted) counted))
      (after-memory p s.routes (made g s.routes) g.first.vehicle (vehicle_of_side g.second) base long elsewhere (memory counted) counted)
      (applied_each at c (all_applied ts) (all_applied vs) l e (sym (ap (λ (xs : List ℕ). length xs) same) ∙ count) (subst (λ (xs : List ℕ). OneApplied at xs (all_applied vs)) same applied)))

  -- and the moments stay
  took_moments : clock ≤ last_count → n ≡ after_move p s.routes (made g s.routes) g.first.vehicle (vehicle_of_side g.second) (record m { tried = tried; clock = clock }) → n.moments ≡ m.moments
  took_moments counted is_next =
      let long : length (made g s.routes) ≡ length s.routes = made-length g s.routes in
      let elsewhere = λ (k : ℕ) (x : k ≡ g.first.vehicle → ⊥) (y : Some k ≡ vehicle_of_side g.second → ⊥). made-elsewhere g s.routes k x y in
      ap (λ (z : MemoryState). z.moments) is_next ∙ after-moments p s.routes (made g s.routes) g.first.vehicle (vehicle_of_side g.second) base long elsewhere (memory counted) counted

-- so many operators as kinds
pub kit_length : {X : Type 0} (F : X → Kind) (G : X → Tally) (xs : List X) → map F xs ≡ all_kinds → length (all_applied (map G xs)) ≡ 18
kit_length F G xs e =
    length-map (map G xs) (λ (t : Tally). t.applied) ∙ length-map xs G ∙ sym (length-map xs F) ∙ ap (λ (ks : List Kind). length ks) e

-- where the memory counted the try first
module _ (p : Problem) (w : Weights) (c : Candidate) (g : GainState) (at : ℕ) (s t : SearchState) (m m1 n : MemoryState) (ts us vs : List Tally) (stage : IsStage p w (stage_of s m ts)) (same1 : m1 ≡ record m { tried = m1.tried })
    (takes : TakesMove p s.routes (made g s.routes) g.first.vehicle (option_map (λ (side : GainSide). side.vehicle) g.second) m1 n) where
  more : OneMore m.clock takes.clock
  more = subst (λ (z : ℕ). OneMore z takes.clock) (ap (λ (z : MemoryState). z.clock) same1) takes.rose

  still_counted : takes.clock ≤ last_count
  still_counted = by stage.memory.counted more
    where
      by : m.clock ≤ last_count → OneMore m.clock takes.clock → takes.clock ≤ last_count
      by a b = omega (arith, b.exact)

  is_next : n ≡ after_move p s.routes (made g s.routes) g.first.vehicle (vehicle_of_side g.second) (record m { tried = m1.tried; clock = takes.clock })
  is_next =
      takes.memory
      ∙ ap (λ (o : Option ℕ). after_move p s.routes (made g s.routes) g.first.vehicle o (record m1 { clock = takes.clock })) (side_vehicle g.second)
      ∙ ap (λ (z : MemoryState). after_move p s.routes (made g s.routes) g.first.vehicle (vehicle_of_side g.second) (record z { clock = takes.clock })) same1

  pub took : at < 18 → slice_index_or all_kinds at (kind_of c) ≡ kind_of c → length (all_applied us) ≡ 18 → OneMore m.tried m1.tried → RoseTogether 1 (all_tried ts) (all_tried us) → all_applied us ≡ all_applied ts →
      MakesMove p w s.routes c g → t ≡ record s { routes = made g s.routes } → all_tried vs ≡ all_tried us → OneApplied at (all_applied us) (all_applied vs) →
      Tried p w all_kinds true (c ∷ []) (stage_of s m ts) (stage_of t n vs)
  took l e count one rose same gives new tries applied =
      took_move p w c g at s t m n ts us vs m1.tried takes.clock stage l e count still_counted one more rose same gives new is_next tries applied

  pub same_moments : n.moments ≡ m.moments
  same_moments = took_moments p w c g at s t m n ts us vs m1.tried takes.clock stage still_counted is_next
