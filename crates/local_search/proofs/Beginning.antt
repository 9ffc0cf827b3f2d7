-- A descent begins: nothing is remembered, so of no candidate is it known that it gives nothing.
use Rattle.std.proofs.Common.{◌≡◌, ◌∙◌, ◌⊎◌, inl, inr, ℕ, ◌<◌, ◌≤◌, List, [], ◌∷◌, length, map, Option, None, refl, sym, ap, arith, subst, replicate, get_or}
use Rattle.std.specs.Prelude.{slice_index_or}
use Rattle.std.specs.List.{AllByRecursion, range_with_len}
use Rattle.std.proofs.lemmas.Bool.{cases_lt}
use Rattle.std.proofs.lemmas.List.{get_or-replicate, get_or_past, length-replicate}
use Rattle.std.proofs.lemmas.List.FromFn.{get_or-map-range_with_len, length-map-range_with_len}
use Rattle.problem_data.specs.declared.problem.Problem.{Problem}
use Rattle.problem_data.specs.Places.{place_count, vehicle_count}
use Rattle.routing_model.specs.declared.weights.Weights.{Weights}
use Rattle.routing_model.specs.Routes.{Routes}
use Rattle.search_model.specs.declared.candidate.Candidate.{Candidate}
use Rattle.search_model.specs.declared.candidate.Candidate.TheVariants.{Node, Solo, Routes as Pair}
use Rattle.search_model.specs.Edits.{unused_vehicle}
use Rattle.gain_model.specs.Operators.{bettered}
use Rattle.move_core.specs.Searches.{IsSound}
use Rattle.descent_memory.specs.Memories.{IsFresh, MemoryState, Touches}
use Rattle.descent_memory.specs.Pairs.{pair_place, pairs_before}
use Rattle.descent_memory.specs.Touching.{IsUntouched}
use Rattle.local_search.specs.inside.Stages.{IsStage, Keeps, KeepsPairs, Stage}
use Rattle.local_search.specs.inside.Turns.{pair_candidates}

none_below : (n : ℕ) → n < 0 → ⊥
none_below n h = omega (arith, h)

-- no candidate is untouched since moment 0
all_touched : (p : Problem) (touches : Touches) (c : Candidate) → IsUntouched p touches 0 c → ⊥
all_touched p touches (Node kind u target) h = none_below _ h.0
all_touched p touches (Solo kind u) h = none_below _ h.0
all_touched p touches (Pair kind i j) h = none_below _ h.0

module _ (p : Problem) (w : Weights) where
  nothing_known : (cs : List Candidate) (s : Stage) → AllByRecursion (λ (c : Candidate). IsUntouched p s.memory.touches 0 c → bettered p w s.search.routes c ≡ None) cs
  nothing_known [] s = tt
  nothing_known (c ∷ cs) s = (λ h. absurd (all_touched p s.memory.touches c h), nothing_known cs s)

  pub keeps_at_first : (turn : ℕ → List Candidate) (s : Stage) → IsFresh p s.search.routes s.memory → Keeps p w turn s
  keeps_at_first turn s fresh client there =
      rw (fresh.clients client) (record { past = omega arith; counted = omega arith; rests = nothing_known (turn client) s })

  pub pairs_at_first : (s : Stage) → IsFresh p s.search.routes s.memory → KeepsPairs p w s
  pairs_at_first s fresh i j order there =
      rw (fresh.pairs (pair_place (vehicle_count p) i j)) (record { past = omega arith; counted = omega arith; rests = nothing_known (pair_candidates i j) s })

pub stage_at_first : (s : Stage) → IsSound s.search → IsFresh s.search.problem s.search.routes s.memory → IsStage s.search.problem s.search.weights s
stage_at_first s sound fresh = record { problem = refl; weights = refl; grouped = sound.valid.grouped; lawful = sound.lawful; memory = fresh.memory_of }

abbrev zeros : ℕ → List ℕ
zeros n = replicate n 0

zero_at : (n i : ℕ) → get_or (zeros n) i 0 ≡ 0
zero_at n i = by (cases_lt i n)
  where
    by : (i < n) ⊎ (n ≤ i) → get_or (zeros n) i 0 ≡ 0
    by (inl l) = get_or-replicate n i 0 0 l
    by (inr l) = get_or_past (zeros n) i 0 (rw length-replicate l)

-- a memory that was made for a plan
pub fresh_made : (p : Problem) (routes : Routes) (places vehicles : ℕ) (unused : List (Option ℕ)) (memory : MemoryState) → places ≡ place_count p → vehicles ≡ vehicle_count p →
    unused ≡ map (unused_vehicle p routes) (range_with_len 0 (length p.types)) →
    memory ≡ record { clock = 0; tried = 0; moments = record { clients = replicate places 0; pairs = replicate (pairs_before vehicles vehicles) 0 }; touches = record { clients = replicate places 0; types = replicate (length unused) 0; lists = replicate vehicles 0 }; unused = unused } →
    IsFresh p routes memory
fresh_made p routes places vehicles unused memory here all is made =
    let types : length unused ≡ length p.types = ap (λ (vs : List (Option ℕ)). length vs) is ∙ length-map-range_with_len (unused_vehicle p routes) 0 (length p.types) in
    subst (λ (m : MemoryState). IsFresh p routes m) (sym made)
    (record {
      memory_of = record {
        counted = omega arith;
        moments = length-replicate places 0 ∙ here;
        pairs = length-replicate (pairs_before vehicles vehicles) 0 ∙ ap (λ n. pairs_before n n) all;
        clients = length-replicate places 0 ∙ here;
        types = length-replicate (length unused) 0 ∙ types;
        lists = length-replicate vehicles 0 ∙ all;
        as_many = types;
        unused = λ type l. ap (λ (vs : List (Option ℕ)). slice_index_or vs type None) is ∙ get_or-map-range_with_len (unused_vehicle p routes) 0 (length p.types) type type None l (omega arith);
      };
      clock = refl;
      tried = refl;
      clients = λ client. zero_at places client;
      pairs = λ place. zero_at (pairs_before vehicles vehicles) place;
    })
