-- Candidates after others, where the problem and the weights are those of the search; and where a descent stops.
use Rattle.std.proofs.Common.{◌≡◌, ◌∙◌, ℕ, Bool, true, false, List, [], ◌∷◌, ◌++◌, None, refl, sym, ap, subst}
use Rattle.std.specs.Prelude.{OnErr, Ok, Err, Result}
use Rattle.std.proofs.lemmas.List.{append_assoc}
use Rattle.problem_data.specs.declared.problem.Problem.{Problem}
use Rattle.routing_model.specs.declared.weights.Weights.{Weights}
use Rattle.search_model.specs.declared.candidate.Candidate.{Candidate}
use Rattle.search_model.specs.declared.candidate.Candidate.TheVariants.{Node}
use Rattle.search_model.specs.declared.candidate.Target.{Target}
use Rattle.search_model.specs.declared.kind.Kind.{Kind}
use Rattle.gain_model.specs.Operators.{bettered}
use Rattle.move_core.specs.Searches.{SearchState}
use Rattle.local_search.specs.inside.Stages.{IsStage, Stage, Stopped, Tried, plan_after}
use Rattle.local_search.proofs.JoinedTries.{plan-append}
use Rattle.local_search.proofs.Tries.{left_out, tried_both}

-- of the search's own problem and weights
pub stage_own : (p : Problem) (w : Weights) (s : Stage) → IsStage p w s → IsStage s.search.problem s.search.weights s
stage_own p w s at =
    subst (λ (q : Problem). IsStage q s.search.weights s) (sym at.problem)
    (subst (λ (v : Weights). IsStage p v s) (sym at.weights) at)

pub tried_of : (p : Problem) (w : Weights) (kinds : List Kind) (each : Bool) (cs : List Candidate) (b c : Stage) → IsStage p w b → Tried b.search.problem b.search.weights kinds each cs b c → Tried p w kinds each cs b c
tried_of p w kinds each cs b c at g =
    subst (λ (q : Problem). Tried q w kinds each cs b c) at.problem
    (subst (λ (v : Weights). Tried b.search.problem v kinds each cs b c) at.weights g)

pub stopped_of : (p : Problem) (w : Weights) (cs : List Candidate) (b : Stage) (c : SearchState) → IsStage p w b → Stopped b.search.problem b.search.weights cs b.search c → Stopped p w cs b.search c
stopped_of p w cs b c at g =
    subst (λ (q : Problem). Stopped q w cs b.search c) at.problem
    (subst (λ (v : Weights). Stopped b.search.problem v cs b.search c) at.weights g)

-- and with the candidates of that problem
pub candidates_of_tried : {p : Problem} {w : Weights} {kinds : List Kind} {each : Bool} {b c : Stage} (cs : Problem → List Candidate) → IsStage p w b →
    Tried b.search.problem b.search.weights kinds each (cs b.search.problem) b c → Tried b.search.problem b.search.weights kinds each (cs p) b c
candidates_of_tried {p} {w} {kinds} {each} {b} {c} cs at f = subst (λ (q : Problem). Tried b.search.problem b.search.weights kinds each (cs q) b c) at.problem f

pub candidates_of_stopped : {p : Problem} {w : Weights} {b : Stage} {c : SearchState} (cs : Problem → List Candidate) → IsStage p w b →
    Stopped b.search.problem b.search.weights (cs b.search.problem) b.search c → Stopped b.search.problem b.search.weights (cs p) b.search c
candidates_of_stopped {p} {w} {b} {c} cs at f = subst (λ (q : Problem). Stopped b.search.problem b.search.weights (cs q) b.search c) at.problem f

module _ (p : Problem) (w : Weights) (kinds : List Kind) where
  pub tried_then : (each : Bool) (cs ds : List Candidate) (a b c : Stage) → Tried p w kinds each cs a b → Tried b.search.problem b.search.weights kinds each ds b c → Tried p w kinds each (cs ++ ds) a c
  tried_then each cs ds a b c f g = tried_both p w kinds each cs ds a b c f (tried_of p w kinds each ds b c f.stage g)

  -- nothing is left out where all were asked for
  pub tried_some : (each : Bool) (cs : List Candidate) (a b : Stage) → Tried p w kinds true cs a b → Tried p w kinds each cs a b
  tried_some each cs a b f = record {
    stage = f.stage;
    routes = f.routes;
    asked = f.asked;
    few = f.few;
    all = λ e. f.all refl;
    tried = f.tried;
    rose = f.rose;
    clock = f.clock;
    applied = f.applied;
    rests = f.rests;
  }

  pub stopped_then : (each : Bool) (cs ds : List Candidate) (a b : Stage) (c : SearchState) → Tried p w kinds each cs a b → Stopped b.search.problem b.search.weights ds b.search c → Stopped p w (cs ++ ds) a.search c
  stopped_then each cs ds a b c f g =
      let h : Stopped p w ds b.search c = stopped_of p w ds b c f.stage g in
      record {
        problem = h.problem;
        weights = h.weights;
        done = cs ++ h.done;
        left = h.left;
        whole = append_assoc cs h.done h.left ∙ ap (λ (xs : List Candidate). cs ++ xs) h.whole;
        routes = h.routes ∙ ap (plan_after p w h.done) f.routes ∙ sym (plan-append p w cs h.done a.search.routes);
      }

pub stopped_more : (p : Problem) (w : Weights) (cs ds : List Candidate) (a c : SearchState) → Stopped p w cs a c → Stopped p w (cs ++ ds) a c
stopped_more p w cs ds a c h = record {
  problem = h.problem;
  weights = h.weights;
  done = h.done;
  left = h.left ++ ds;
  whole = sym (append_assoc h.done h.left ds) ∙ ap (λ (xs : List Candidate). xs ++ ds) h.whole;
  routes = h.routes;
}

-- a fact holds where an answer is a refusal, if it holds anyway
pub on_err : {T E : Type 0} (r : Result T E) {P : Type 0} → P → OnErr r P
on_err (Ok x) h = tt
on_err (Err e) h = h

-- one candidate, of a kind by another name; and one that is known to give nothing
pub tried_kind : (p : Problem) (w : Weights) (kinds : List Kind) (each : Bool) (u : ℕ) (target : Target) (kind other : Kind) (a b : Stage) → kind ≡ other →
    Tried p w kinds true (Node kind u target ∷ []) a b → Tried p w kinds each (Node other u target ∷ []) a b
tried_kind p w kinds each u target kind other a b same f =
    subst (λ (k : Kind). Tried p w kinds each (Node k u target ∷ []) a b) same (tried_some p w kinds each (Node kind u target ∷ []) a b f)

pub left_out_one : (p : Problem) (w : Weights) (kinds : List Kind) (each : Bool) (c : Candidate) (s : Stage) → each ≡ false → IsStage p w s → bettered p w s.search.routes c ≡ None →
    Tried p w kinds each (c ∷ []) s s
left_out_one p w kinds each c s later at none =
    subst (λ (e : Bool). Tried p w kinds e (c ∷ []) s s) (sym later) (left_out p w kinds (c ∷ []) s at (none, tt))
