-- What comes of trying candidates: nothing, one that gives nothing, one that is taken, those that are known to give nothing, and some
-- after others.
use Rattle.std.proofs.Common.{◌≡◌, ◌∙◌, ℕ, ◌+◌, Bool, true, false, List, [], ◌++◌, length, None, refl, sym, ap, arith, subst}
use Rattle.std.specs.Prelude.{slice_index, slice_index_or}
use Rattle.std.proofs.lemmas.List.{append-nil, append_assoc, length-append}
use Rattle.problem_data.specs.declared.problem.Problem.{Problem}
use Rattle.routing_model.specs.declared.weights.Weights.{Weights}
use Rattle.routing_model.specs.Routes.{Routes}
use Rattle.search_model.specs.declared.candidate.Candidate.{Candidate}
use Rattle.search_model.specs.declared.kind.Kind.{Kind}
use Rattle.search_model.specs.Descent.{Try}
use Rattle.search_model.specs.Search.{moves_of_kind}
use Rattle.gain_model.specs.Operators.{bettered}
use Rattle.descent_memory.specs.Touching.{IsUntouched}
use Rattle.local_search.specs.Counts.{RoseBy, all_applied, all_tried}
use Rattle.local_search.specs.inside.Stages.{IsStage, RestsSince, Stage, Tried, moves_of, plan_after}
use Rattle.local_search.proofs.JoinedTries.{AllNothing, kind-append, moves-append, nothing-moves, nothing-plan, plan-append}
use Rattle.local_search.proofs.Rests.{both_all, first_all, second_all, weaker_all}
use Rattle.local_search.proofs.Rises.{rose_both, rose_not, together_both, together_none}

module _ (p : Problem) (w : Weights) (kinds : List Kind) where
  -- a candidate gives nothing unless it is touched since a moment
  abbrev Rests : ℕ → Stage → Candidate → Type 0
  Rests moment s c = IsUntouched p s.memory.touches moment c → bettered p w s.search.routes c ≡ None

  -- fewer candidates rest, too
  pub rests_first : (moment : ℕ) (cs ds : List Candidate) (s : Stage) → RestsSince p w moment (cs ++ ds) s → RestsSince p w moment cs s
  rests_first moment cs ds s r = record { past = r.past; counted = r.counted; rests = first_all (Rests moment s) cs ds r.rests }

  pub rests_second : (moment : ℕ) (cs ds : List Candidate) (s : Stage) → RestsSince p w moment (cs ++ ds) s → RestsSince p w moment ds s
  rests_second moment cs ds s r = record { past = r.past; counted = r.counted; rests = second_all (Rests moment s) cs ds r.rests }

  -- candidates that give nothing rest
  pub rests_with : (moment : ℕ) (cs ds : List Candidate) (s : Stage) → RestsSince p w moment cs s → AllNothing p w ds s.search.routes → RestsSince p w moment (cs ++ ds) s
  rests_with moment cs ds s r h = record {
    past = r.past;
    counted = r.counted;
    rests = both_all (Rests moment s) cs ds r.rests (weaker_all (λ (c : Candidate). bettered p w s.search.routes c ≡ None) (Rests moment s) ds (λ c e u. e) h);
  }

  -- no rise of what none of the candidates raises
  pub no_moves : (cs : List Candidate) (routes : Routes) (n : ℕ) → AllNothing p w cs routes → RoseBy (length (moves_of p w cs routes)) n n
  no_moves cs routes n h = subst (λ (ts : List (Try Routes Candidate)). RoseBy (length ts) n n) (sym (nothing-moves p w cs routes h)) (rose_not n)

  pub no_moves_of : (kind : Kind) (cs : List Candidate) (routes : Routes) (m n : ℕ) → n ≡ m → AllNothing p w cs routes → RoseBy (moves_of_kind kind (moves_of p w cs routes)) m n
  no_moves_of kind cs routes m n e h =
      subst (λ (k : ℕ). RoseBy (moves_of_kind kind (moves_of p w cs routes)) m k) (sym e)
      (subst (λ (ts : List (Try Routes Candidate)). RoseBy (moves_of_kind kind ts) m m) (sym (nothing-moves p w cs routes h)) (rose_not m))

  -- candidates that are known to give nothing are left out
  pub left_out : (cs : List Candidate) (s : Stage) → IsStage p w s → AllNothing p w cs s.search.routes → Tried p w kinds false cs s s
  left_out cs s at h = record {
    stage = at;
    routes = sym (nothing-plan p w cs s.search.routes h);
    asked = 0;
    few = omega arith;
    all = λ e. absurd (no e);
    tried = rose_not s.memory.tried;
    rose = together_none (all_tried s.tallies) (all_tried s.tallies) refl;
    clock = no_moves cs s.search.routes s.memory.clock h;
    applied = λ k d l. no_moves_of (slice_index_or kinds k d) cs s.search.routes (slice_index (all_applied s.tallies) k) (slice_index (all_applied s.tallies) k) refl h;
    rests = λ moment done r. rests_with moment done cs s r h;
  }
    where
      no : false ≡ true → ⊥
      no e = cc

  -- no candidate is tried
  pub tried_none : (each : Bool) (s : Stage) → IsStage p w s → Tried p w kinds each [] s s
  tried_none each s at = record {
    stage = at;
    routes = refl;
    asked = 0;
    few = omega arith;
    all = λ e. refl;
    tried = rose_not s.memory.tried;
    rose = together_none (all_tried s.tallies) (all_tried s.tallies) refl;
    clock = rose_not s.memory.clock;
    applied = λ k d l. rose_not (slice_index (all_applied s.tallies) k);
    rests = λ moment done r. subst (λ (cs : List Candidate). RestsSince p w moment cs s) (sym (append-nil done)) r;
  }

  -- some candidates, and then others
  pub tried_both : (each : Bool) (cs ds : List Candidate) (a b c : Stage) → Tried p w kinds each cs a b → Tried p w kinds each ds b c → Tried p w kinds each (cs ++ ds) a c
  tried_both each cs ds a b c f g = record {
    stage = g.stage;
    routes = g.routes ∙ ap (plan_after p w ds) f.routes ∙ sym (plan-append p w cs ds a.search.routes);
    asked = f.asked + g.asked;
    few = omega (arith, f.few, g.few, length-append cs ds);
    all = λ e. let m = f.all e in let n = g.all e in omega (arith, m, n, length-append cs ds);
    tried = rose_both f.asked g.asked a.memory.tried b.memory.tried c.memory.tried f.tried g.tried;
    rose = together_both f.asked g.asked (all_tried a.tallies) (all_tried b.tallies) (all_tried c.tallies) f.rose g.rose;
    clock = subst (λ (n : ℕ). RoseBy n a.memory.clock c.memory.clock) (sym (all_moves ∙ length-append (moves_of p w cs a.search.routes) (moves_of p w ds (plan_after p w cs a.search.routes))))
        (rose_both (length (moves_of p w cs a.search.routes)) (length (moves_of p w ds (plan_after p w cs a.search.routes))) a.memory.clock b.memory.clock c.memory.clock f.clock
        (subst (λ (plan : Routes). RoseBy (length (moves_of p w ds plan)) b.memory.clock c.memory.clock) f.routes g.clock));
    applied = λ k d l. of_kind (slice_index_or kinds k d) (slice_index (all_applied a.tallies) k) (slice_index (all_applied b.tallies) k) (slice_index (all_applied c.tallies) k) (f.applied k d l) (g.applied k d l);
    rests = λ moment done r. subst (λ (xs : List Candidate). RestsSince p w moment xs c) (append_assoc done cs ds) (g.rests moment (done ++ cs) (f.rests moment done r));
  }
    where
      all_moves : length (moves_of p w (cs ++ ds) a.search.routes) ≡ length (moves_of p w cs a.search.routes ++ moves_of p w ds (plan_after p w cs a.search.routes))
      all_moves = ap (λ (ts : List (Try Routes Candidate)). length ts) (moves-append p w cs ds a.search.routes)

      of_kind : (kind : Kind) (l m n : ℕ) → RoseBy (moves_of_kind kind (moves_of p w cs a.search.routes)) l m → RoseBy (moves_of_kind kind (moves_of p w ds b.search.routes)) m n →
          RoseBy (moves_of_kind kind (moves_of p w (cs ++ ds) a.search.routes)) l n
      of_kind kind l m n r s =
          subst (λ (k : ℕ). RoseBy k l n) (sym (kind-append p w kind cs ds a.search.routes))
          (rose_both (moves_of_kind kind (moves_of p w cs a.search.routes)) (moves_of_kind kind (moves_of p w ds (plan_after p w cs a.search.routes))) l m n r
          (subst (λ (plan : Routes). RoseBy (moves_of_kind kind (moves_of p w ds plan)) m n) f.routes s))
