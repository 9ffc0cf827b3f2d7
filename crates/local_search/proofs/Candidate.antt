-- What comes of one candidate that an operator was asked for.
use Rattle.std.proofs.Common.{◌≡◌, ℕ, ◌+◌, ◌<◌, ◌≤◌, Bool, List, [], ◌∷◌, length, Option, Some, None, refl, sym, ap, arith, subst, cond, zero-add}
use Rattle.std.specs.Prelude.{IsTrue, slice_index, slice_index_or, filter, unwrap_or}
use Rattle.problem_data.specs.declared.problem.Problem.{Problem}
use Rattle.routing_model.specs.declared.weights.Weights.{Weights}
use Rattle.routing_model.specs.Lawful.{is_lawful}
use Rattle.routing_model.specs.Routes.{Routes}
use Rattle.search_model.specs.declared.candidate.Candidate.{Candidate}
use Rattle.search_model.specs.declared.kind.Kind.{Kind}
use Rattle.search_model.specs.Descent.{Try, is_taken}
use Rattle.search_model.specs.Search.{is_of_kind, moves_of_kind}
use Rattle.gain_model.specs.Operators.{bettered}
use Rattle.move_core.specs.Searches.{SearchState}
use Rattle.move_core.specs.declared.tally.Tally.{Tally}
use Rattle.descent_memory.specs.Memories.{IsMemoryOf, MemoryState, last_count}
use Rattle.descent_memory.specs.Touching.{Follows, IsUntouched}
use Rattle.local_search.specs.Counts.{RoseBy, RoseTogether, all_applied, all_tried}
use Rattle.local_search.specs.inside.Stages.{IsStage, Tried, moves_of, stage_of}
use Rattle.local_search.proofs.BetterPlans.{better}
use Rattle.local_search.proofs.Rests.{both_all, own_rest, rests_stay}
use Rattle.local_search.proofs.Tries.{no_moves, no_moves_of, rests_with}

-- 1 for a candidate of a kind
abbrev pub one_of_kind : Kind → Candidate → ℕ
one_of_kind kind c = cond (is_of_kind kind c) 1 0

module _ (p : Problem) (w : Weights) (kinds : List Kind) (each : Bool) (c : Candidate) (s : SearchState) (m n : MemoryState) (ts us : List Tally) (at : IsStage p w (stage_of s m ts)) (rose : RoseTogether 1 (all_tried ts) (all_tried us)) where
  counted_only : (tried : ℕ) → RoseBy 1 m.tried tried → bettered p w s.routes c ≡ None → all_applied us ≡ all_applied ts →
      Tried p w kinds each (c ∷ []) (stage_of s m ts) (stage_of s (record m { tried = tried }) us)
  counted_only tried r e same = record {
    stage = record { problem = at.problem; weights = at.weights; grouped = at.grouped; lawful = at.lawful; memory = record { counted = at.memory.counted; moments = at.memory.moments; pairs = at.memory.pairs; clients = at.memory.clients; types = at.memory.types; lists = at.memory.lists; as_many = at.memory.as_many; unused = at.memory.unused } };
    routes = ap (λ (o : Option Routes). unwrap_or o s.routes) (sym e);
    asked = 1;
    few = omega arith;
    all = λ _. refl;
    tried = r;
    rose = rose;
    clock = no_moves p w kinds (c ∷ []) s.routes m.clock (e, tt);
    applied = λ k d l. no_moves_of p w kinds (slice_index_or kinds k d) (c ∷ []) s.routes (slice_index (all_applied ts) k) (slice_index (all_applied us) k) (ap (λ (xs : List ℕ). slice_index xs k) same) (e, tt);
    rests = λ moment done r. let z = rests_with p w kinds moment done (c ∷ []) (stage_of s m ts) r (e, tt) in record { past = z.past; counted = z.counted; rests = z.rests };
  }

  -- it gave nothing
  pub gave_nothing : (tried : ℕ) → n ≡ record m { tried = tried } → RoseBy 1 m.tried tried → bettered p w s.routes c ≡ None → all_applied us ≡ all_applied ts →
      Tried p w kinds each (c ∷ []) (stage_of s m ts) (stage_of s n us)
  gave_nothing tried f r e same = subst (λ (z : MemoryState). Tried p w kinds each (c ∷ []) (stage_of s m ts) (stage_of s z us)) (sym f) (counted_only tried r e same)

  module _ (plan : Routes) (gave : bettered p w s.routes c ≡ Some plan) where
    one_move : moves_of p w (c ∷ []) s.routes ≡ record { candidate = c; before = s.routes; made = Some plan } ∷ []
    one_move = ap (λ (o : Option Routes). filter is_taken (record { candidate = c; before = s.routes; made = o } ∷ [])) gave

    -- it was taken
    pub was_taken : (t : SearchState) → t ≡ record s { routes = plan } → RoseBy 1 m.tried n.tried → RoseBy 1 m.clock n.clock → Follows p s.routes plan m.touches n.touches n.clock → IsMemoryOf p plan n →
        ((k : ℕ) (d : Kind) → k < length kinds → RoseBy (one_of_kind (slice_index_or kinds k d) c) (slice_index (all_applied ts) k) (slice_index (all_applied us) k)) →
        Tried p w kinds each (c ∷ []) (stage_of s m ts) (stage_of t n us)
    was_taken t same tried clock follows memory applied = subst (λ (z : SearchState). Tried p w kinds each (c ∷ []) (stage_of s m ts) (stage_of z n us)) (sym same) (record {
      stage = record { problem = at.problem; weights = at.weights; grouped = at.grouped; lawful = lawful_plan; memory = memory };
      routes = ap (λ (o : Option Routes). unwrap_or o s.routes) (sym gave);
      asked = 1;
      few = omega arith;
      all = λ _. refl;
      tried = tried;
      rose = rose;
      clock = subst (λ (ms : List (Try Routes Candidate)). RoseBy (length ms) m.clock n.clock) (sym one_move) clock;
      applied = λ k d l. of_kind (slice_index_or kinds k d) (slice_index (all_applied ts) k) (slice_index (all_applied us) k) (applied k d l);
      rests = λ moment done r.
          let past : moment ≤ n.clock = now_past moment m.clock n.clock r.past r.counted clock in
          record {
            past = omega arith;
            counted = r.counted;
            rests = both_all (λ (d : Candidate). IsUntouched p n.touches moment d → bettered p w plan d ≡ None) done (c ∷ [])
                (rests_stay p w at.grouped s.routes plan m.touches n.touches n.clock follows moment past at.lawful lawful_plan done r.rests)
                (own_rest p w at.grouped s.routes plan m.touches n.touches n.clock follows moment past at.lawful lawful_plan c gave, tt);
          };
    })
      where
        lawful_plan : IsTrue (is_lawful p plan)
        lawful_plan = let b = better p w s.routes c plan gave in b.lawful

        now_past : (moment before now : ℕ) → moment ≤ before + 1 → moment ≤ last_count → RoseBy 1 before now → moment ≤ now
        now_past moment before now a b r = omega (arith, r.exact)

        of_kind : (kind : Kind) (k l : ℕ) → RoseBy (one_of_kind kind c) k l → RoseBy (moves_of_kind kind (moves_of p w (c ∷ []) s.routes)) k l
        of_kind kind k l r =
            subst (λ (ms : List (Try Routes Candidate)). RoseBy (moves_of_kind kind ms) k l) (sym one_move)
            (subst (λ (z : ℕ). RoseBy z k l) (sym (zero-add (one_of_kind kind c))) r)
