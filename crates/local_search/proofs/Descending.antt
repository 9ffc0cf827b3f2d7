-- Pass after pass makes the descent.
use Rattle.std.proofs.Common.{◌≡◌, ◌∙◌, ◌⊎◌, inl, inr, ℕ, suc, ◌+◌, ◌-◌, ◌^◌, ◌<◌, ◌≤◌, Bool, true, false, List, [], ◌∷◌, ◌++◌, length, take, min, refl, sym, ap, arith, subst, cond}
use Rattle.std.specs.Prelude.{filter, flat_map, nat_lt, slice_index, slice_index_or}
use Rattle.std.proofs.Math.Seq.{take-append-add, take-append_seam}
use Rattle.std.proofs.lemmas.Bool.Decides.{nat_tests}
use Rattle.std.proofs.lemmas.List.{append-nil, append_assoc, length-append}
use Rattle.std.proofs.lemmas.List.Elements.{filter-append}
use Rattle.std.proofs.lemmas.List.Sums.{sum_by-append}
use Rattle.problem_data.specs.declared.problem.Problem.{Problem}
use Rattle.routing_model.specs.declared.weights.Weights.{Weights}
use Rattle.routing_model.specs.Cost.{solution_cost}
use Rattle.routing_model.specs.Routes.{Routes}
use Rattle.search_model.specs.declared.candidate.Candidate.{Candidate}
use Rattle.search_model.specs.declared.kind.Kind.{Kind}
use Rattle.search_model.specs.Descent.{Try, after_all, is_taken, takes_some}
use Rattle.search_model.specs.Moves.{moved}
use Rattle.search_model.specs.Search.{after_moves, is_of_kind, moves_of_kind, route_tries}
use Rattle.search_model.proofs.DescentLaws.{after_all-append, after_all-taken, after_pass-cases, busy-pass, descent-moves, passes-busy, passes-idle}
use Rattle.move_core.specs.Searches.{SearchState}
use Rattle.move_core.specs.declared.tally.Tally.{Tally}
use Rattle.descent_memory.specs.Memories.{IsFresh}
use Rattle.local_search.specs.Counts.{RoseBy, RoseTogether, all_applied, all_tried}
use Rattle.local_search.specs.Descents.{Descends, StopsAfter}
use Rattle.local_search.specs.inside.Stages.{Goes, IsStage, Stage, Stopped, Tried, Went, moves_of, plan_after, tries_of}
use Rattle.local_search.proofs.JoinedTries.{next, tries-append}
use Rattle.local_search.proofs.Rises.{rose_both, rose_not, together_both, together_none}

-- what a count that was 0 became
risen_from : (rise before now : ℕ) → before ≡ 0 → RoseBy rise before now → now ≡ min rise (2 ^ 64 - 1)
risen_from rise before now zero rose = omega (arith, rose.exact)

module _ (p : Problem) (w : Weights) where
  tries-length : (cs : List Candidate) (plan : Routes) → length (tries_of p w cs plan) ≡ length cs
  tries-length [] plan = refl
  tries-length (c ∷ cs) plan = let e = tries-length cs (next p w plan c) in ap (λ n. suc n) e

  -- the tries of a descent: those of a pass that takes nothing, or those of a pass and of the descent from the plan after it
  idle-tries : (cs : List Candidate) (plan : Routes) → takes_some (moved p w) (solution_cost p w) cs plan ≡ false → route_tries p w cs plan ≡ tries_of p w cs plan
  idle-tries cs plan h =
      ap (λ (ps : List (List (Try Routes Candidate))). flat_map (λ tries. tries) ps) (passes-idle (moved p w) (solution_cost p w) cs plan h) ∙ append-nil (tries_of p w cs plan)

  busy-tries : (cs : List Candidate) (plan : Routes) → takes_some (moved p w) (solution_cost p w) cs plan ≡ true → route_tries p w cs plan ≡ tries_of p w cs plan ++ route_tries p w cs (plan_after p w cs plan)
  busy-tries cs plan h =
      ap (λ (ps : List (List (Try Routes Candidate))). flat_map (λ tries. tries) ps) (passes-busy (moved p w) (solution_cost p w) cs plan h)

  module _ (kinds : List Kind) where
    -- no try
    went_none : (s : Stage) → IsStage p w s → Went p w kinds 0 [] s s
    went_none s at = record {
      stage = at;
      routes = refl;
      asked = 0;
      least = omega arith;
      most = omega arith;
      tried = rose_not s.memory.tried;
      rose = together_none (all_tried s.tallies) (all_tried s.tallies) refl;
      clock = rose_not s.memory.clock;
      applied = λ k d l. rose_not (slice_index (all_applied s.tallies) k);
    }

    -- a pass
    went_pass : (each : Bool) (fewest : ℕ) (cs : List Candidate) (a b : Stage) (f : Tried p w kinds each cs a b) → fewest ≤ f.asked → Went p w kinds fewest (tries_of p w cs a.search.routes) a b
    went_pass each fewest cs a b f h = record {
      stage = f.stage;
      routes = f.routes ∙ sym (after_all-taken (moved p w) (solution_cost p w) cs a.search.routes);
      asked = f.asked;
      least = h;
      most = rw (tries-length cs a.search.routes) f.few;
      tried = f.tried;
      rose = f.rose;
      clock = f.clock;
      applied = f.applied;
    }

    -- some tries, and then others
    went_both : (fewest : ℕ) (ds es : List (Try Routes Candidate)) (a b c : Stage) → Went p w kinds fewest ds a b → Went p w kinds 0 es b c → Went p w kinds fewest (ds ++ es) a c
    went_both fewest ds es a b c f g = record {
      stage = g.stage;
      routes = g.routes
          ∙ ap (λ (plan : Routes). after_all plan (filter is_taken es)) f.routes
          ∙ sym (ap (λ (ts : List (Try Routes Candidate)). after_all a.search.routes ts) taken ∙ after_all-append a.search.routes (filter is_taken ds) (filter is_taken es));
      asked = f.asked + g.asked;
      least = omega (arith, f.least);
      most = omega (arith, f.most, g.most, length-append ds es);
      tried = rose_both f.asked g.asked a.memory.tried b.memory.tried c.memory.tried f.tried g.tried;
      rose = together_both f.asked g.asked (all_tried a.tallies) (all_tried b.tallies) (all_tried c.tallies) f.rose g.rose;
      clock = subst (λ (n : ℕ). RoseBy n a.memory.clock c.memory.clock) (sym (ap (λ (ts : List (Try Routes Candidate)). length ts) taken ∙ length-append (filter is_taken ds) (filter is_taken es)))
          (rose_both (length (filter is_taken ds)) (length (filter is_taken es)) a.memory.clock b.memory.clock c.memory.clock f.clock g.clock);
      applied = λ k d l. of_kind (slice_index_or kinds k d) (slice_index (all_applied a.tallies) k) (slice_index (all_applied b.tallies) k) (slice_index (all_applied c.tallies) k) (f.applied k d l) (g.applied k d l);
    }
      where
        taken : filter is_taken (ds ++ es) ≡ filter is_taken ds ++ filter is_taken es
        taken = filter-append is_taken ds es

        of_kind : (kind : Kind) (i j k : ℕ) → RoseBy (moves_of_kind kind (filter is_taken ds)) i j → RoseBy (moves_of_kind kind (filter is_taken es)) j k → RoseBy (moves_of_kind kind (filter is_taken (ds ++ es))) i k
        of_kind kind i j k r s =
            subst (λ (n : ℕ). RoseBy n i k)
            (sym (ap (λ (ts : List (Try Routes Candidate)). moves_of_kind kind ts) taken ∙ sum_by-append (λ (t : Try Routes Candidate). cond (is_of_kind kind t.candidate) 1 0) (filter is_taken ds) (filter is_taken es)))
            (rose_both (moves_of_kind kind (filter is_taken ds)) (moves_of_kind kind (filter is_taken es)) i j k r s)

    module _ (cs : List Candidate) where
      -- a descent begins
      pub goes_first : (s : Stage) → IsStage p w s → Goes p w kinds cs s s
      goes_first s at = record { done = []; whole = refl; went = went_none s at }

      -- goes on after a pass that takes a candidate
      pub goes_on : (each : Bool) (a b c : Stage) → Goes p w kinds cs a b → Tried p w kinds each cs b c → takes_some (moved p w) (solution_cost p w) cs b.search.routes ≡ true → Goes p w kinds cs a c
      goes_on each a b c f g takes = record {
        done = f.done ++ tries_of p w cs b.search.routes;
        whole = f.whole
            ∙ ap (λ (ts : List (Try Routes Candidate)). f.done ++ ts) (busy-tries cs b.search.routes takes ∙ ap (λ (plan : Routes). tries_of p w cs b.search.routes ++ route_tries p w cs plan) (sym g.routes))
            ∙ sym (append_assoc f.done (tries_of p w cs b.search.routes) (route_tries p w cs c.search.routes));
        went = went_both 0 f.done (tries_of p w cs b.search.routes) a b c f.went (went_pass each 0 cs b c g (omega arith));
      }

      -- and ends with a pass that takes none
      pub goes_last : (each : Bool) (a b c : Stage) → Goes p w kinds cs a b → Tried p w kinds each cs b c → takes_some (moved p w) (solution_cost p w) cs b.search.routes ≡ false → Went p w kinds 0 (route_tries p w cs a.search.routes) a c
      goes_last each a b c f g idle =
          subst (λ (ts : List (Try Routes Candidate)). Went p w kinds 0 ts a c) (sym (f.whole ∙ ap (λ (ts : List (Try Routes Candidate)). f.done ++ ts) (idle-tries cs b.search.routes idle)))
          (went_both 0 f.done (tries_of p w cs b.search.routes) a b c f.went (went_pass each 0 cs b c g (omega arith)))

      -- a first pass that takes none
      pub went_once : (a b : Stage) → Tried p w kinds true cs a b → takes_some (moved p w) (solution_cost p w) cs a.search.routes ≡ false → Went p w kinds (length cs) (route_tries p w cs a.search.routes) a b
      went_once a b f idle =
          subst (λ (ts : List (Try Routes Candidate)). Went p w kinds (length cs) ts a b) (sym (idle-tries cs a.search.routes idle))
          (went_pass true (length cs) cs a b f (let all = f.all refl in omega (arith, all)))

      -- and one that takes some, with later passes
      pub went_whole : (a b c : Stage) → Tried p w kinds true cs a b → takes_some (moved p w) (solution_cost p w) cs a.search.routes ≡ true → Went p w kinds 0 (route_tries p w cs b.search.routes) b c →
          Went p w kinds (length cs) (route_tries p w cs a.search.routes) a c
      went_whole a b c f takes g =
          subst (λ (ts : List (Try Routes Candidate)). Went p w kinds (length cs) ts a c)
          (sym (busy-tries cs a.search.routes takes ∙ ap (λ (plan : Routes). tries_of p w cs a.search.routes ++ route_tries p w cs plan) (sym f.routes)))
          (went_both (length cs) (tries_of p w cs a.search.routes) (route_tries p w cs b.search.routes) a b c (went_pass true (length cs) cs a b f (let all = f.all refl in omega (arith, all))) g)

      -- what a descent gives
      pub descends : (a b : Stage) (old : List Tally) (tally : Tally) → IsFresh p a.search.routes a.memory → a.tallies ≡ old → tally.tried ≡ b.memory.tried → tally.applied ≡ b.memory.clock →
          Went p w kinds (length cs) (route_tries p w cs a.search.routes) a b → Descends p w kinds cs a.search.routes b.search.routes old b.tallies tally
      descends a b old tally fresh same tried applied f = record {
        routes = f.routes ∙ descent-moves (moved p w) (solution_cost p w) cs a.search.routes;
        moves = applied ∙ risen_from (length (filter is_taken (route_tries p w cs a.search.routes))) a.memory.clock b.memory.clock fresh.clock f.clock;
        asked = f.asked;
        least = f.least;
        most = f.most;
        tries = tried ∙ risen_from f.asked a.memory.tried b.memory.tried fresh.tried f.tried;
        rose = subst (λ (ts : List Tally). RoseTogether f.asked (all_tried ts) (all_tried b.tallies)) same f.rose;
        applied = λ k d l. subst (λ (ts : List Tally). RoseBy (moves_of_kind (slice_index_or kinds k d) (filter is_taken (route_tries p w cs a.search.routes))) (slice_index (all_applied ts) k) (slice_index (all_applied b.tallies) k)) same (f.applied k d l);
      }

  module _ (cs : List Candidate) where
    -- the first moves of a descent, and of the rest of it
    after_moves-more : (done : List (Try Routes Candidate)) (plan later : Routes) (n : ℕ) → route_tries p w cs plan ≡ done ++ route_tries p w cs later → later ≡ after_all plan (filter is_taken done) →
        after_moves p w cs later n ≡ after_moves p w cs plan (length (filter is_taken done) + n)
    after_moves-more done plan later n whole e =
        ap (λ (from : Routes). after_all from (take n (filter is_taken (route_tries p w cs later)))) e
        ∙ sym (after_all-append plan (filter is_taken done) (take n (filter is_taken (route_tries p w cs later))))
        ∙ ap (λ (ts : List (Try Routes Candidate)). after_all plan ts)
        (sym (take-append-add (filter is_taken done) (filter is_taken (route_tries p w cs later)) n)
        ∙ ap (λ (ts : List (Try Routes Candidate)). take (length (filter is_taken done) + n) ts)
        (sym (ap (λ (ts : List (Try Routes Candidate)). filter is_taken ts) whole ∙ filter-append is_taken done (route_tries p w cs later))))

    -- a descent that stops goes through a pass first
    starts_with : (plan : Routes) → (later : List (Try Routes Candidate)) × (route_tries p w cs plan ≡ tries_of p w cs plan ++ later)
    starts_with plan = by (takes_some (moved p w) (solution_cost p w) cs plan) refl
      where
        by : (t : Bool) → takes_some (moved p w) (solution_cost p w) cs plan ≡ t → (later : List (Try Routes Candidate)) × (route_tries p w cs plan ≡ tries_of p w cs plan ++ later)
        by true e = (route_tries p w cs (plan_after p w cs plan), busy-tries cs plan e)
        by false e = ([], idle-tries cs plan e ∙ sym (append-nil (tries_of p w cs plan)))

    first_moves : (done left : List Candidate) (plan : Routes) → done ++ left ≡ cs → after_moves p w cs plan (length (moves_of p w done plan)) ≡ plan_after p w done plan
    first_moves done left plan e =
        let later = starts_with plan in
        let rest : List (Try Routes Candidate) = tries_of p w left (plan_after p w done plan) in
        ap (λ (ts : List (Try Routes Candidate)). after_all plan (take (length (moves_of p w done plan)) ts))
        (ap (λ (ts : List (Try Routes Candidate)). filter is_taken ts)
        (later.1 ∙ ap (λ (ds : List Candidate). tries_of p w ds plan ++ later.0) (sym e) ∙ ap (λ (ts : List (Try Routes Candidate)). ts ++ later.0) (tries-append p w done left plan) ∙ append_assoc (tries_of p w done plan) rest later.0)
        ∙ filter-append is_taken (tries_of p w done plan) (rest ++ later.0))
        ∙ ap (λ (ts : List (Try Routes Candidate)). after_all plan ts) (take-append_seam (moves_of p w done plan) (filter is_taken (rest ++ later.0)))
        ∙ after_all-taken (moved p w) (solution_cost p w) done plan

    -- a descent that stops in its first pass, and one that stops after some tries
    pub stops_first : (a b : SearchState) → Stopped p w cs a b → StopsAfter p w cs a.routes b.routes
    stops_first a b f = record { moves = length (moves_of p w f.done a.routes); routes = f.routes ∙ sym (first_moves f.done f.left a.routes f.whole) }

    pub stops_later : (kinds : List Kind) (a b : Stage) (c : Routes) → Goes p w kinds cs a b → StopsAfter p w cs b.search.routes c → StopsAfter p w cs a.search.routes c
    stops_later kinds a b c f g = record {
      moves = length (filter is_taken f.done) + g.moves;
      routes = g.routes ∙ after_moves-more f.done a.search.routes b.search.routes g.moves f.whole f.went.routes;
    }

-- by the search's own problem and weights
pub takes_of : (p : Problem) (w : Weights) (s : Stage) (cs : Problem → List Candidate) (t : Bool) → IsStage p w s →
    takes_some (moved s.search.problem s.search.weights) (solution_cost s.search.problem s.search.weights) (cs s.search.problem) s.search.routes ≡ t →
    takes_some (moved p w) (solution_cost p w) (cs p) s.search.routes ≡ t
takes_of p w s cs t at e =
    subst (λ (q : Problem). takes_some (moved q w) (solution_cost q w) (cs q) s.search.routes ≡ t) at.problem
    (subst (λ (v : Weights). takes_some (moved s.search.problem v) (solution_cost s.search.problem v) (cs s.search.problem) s.search.routes ≡ t) at.weights e)

pub went_of : (p : Problem) (w : Weights) (kinds : List Kind) (fewest : ℕ) (cs : Problem → List Candidate) (a b : Stage) → IsStage p w a →
    Went a.search.problem a.search.weights kinds fewest (route_tries a.search.problem a.search.weights (cs a.search.problem) a.search.routes) a b → Went p w kinds fewest (route_tries p w (cs p) a.search.routes) a b
went_of p w kinds fewest cs a b at f =
    subst (λ (q : Problem). Went q w kinds fewest (route_tries q w (cs q) a.search.routes) a b) at.problem
    (subst (λ (v : Weights). Went a.search.problem v kinds fewest (route_tries a.search.problem v (cs a.search.problem) a.search.routes) a b) at.weights f)

pub stops_of : (p : Problem) (w : Weights) (cs : Problem → List Candidate) (a : Stage) (c : Routes) → IsStage p w a → StopsAfter a.search.problem a.search.weights (cs a.search.problem) a.search.routes c → StopsAfter p w (cs p) a.search.routes c
stops_of p w cs a c at f =
    subst (λ (q : Problem). StopsAfter q w (cs q) a.search.routes c) at.problem
    (subst (λ (v : Weights). StopsAfter a.search.problem v (cs a.search.problem) a.search.routes c) at.weights f)

-- a pass that takes a candidate lowers the cost, and only such a pass does
pub pass_lowers : (p : Problem) (w : Weights) (kinds : List Kind) (each : Bool) (cs : List Candidate) (a b : Stage) → Tried p w kinds each cs a b → takes_some (moved p w) (solution_cost p w) cs a.search.routes ≡ true →
    solution_cost b.search.problem b.search.weights b.search.routes < solution_cost p w a.search.routes
pass_lowers p w kinds each cs a b f e =
    rw (f.stage.problem, f.stage.weights, f.routes) (busy-pass (moved p w) (solution_cost p w) cs a.search.routes e)

not_less : (n : ℕ) → false ≡ nat_lt n n
not_less n = grind (arith, nat_tests)

less : (m n : ℕ) → m < n → true ≡ nat_lt m n
less m n l = grind (arith, nat_tests)

pub pass_decides : (p : Problem) (w : Weights) (kinds : List Kind) (each : Bool) (cs : List Candidate) (a b : Stage) → Tried p w kinds each cs a b →
    takes_some (moved p w) (solution_cost p w) cs a.search.routes ≡ nat_lt (solution_cost b.search.problem b.search.weights b.search.routes) (solution_cost p w a.search.routes)
pass_decides p w kinds each cs a b f =
    rw (f.stage.problem, f.stage.weights, f.routes) (by (after_pass-cases (moved p w) (solution_cost p w) cs a.search.routes))
  where
    by : (takes_some (moved p w) (solution_cost p w) cs a.search.routes ≡ false) × (plan_after p w cs a.search.routes ≡ a.search.routes)
        ⊎ (takes_some (moved p w) (solution_cost p w) cs a.search.routes ≡ true) × (solution_cost p w (plan_after p w cs a.search.routes) < solution_cost p w a.search.routes) →
        takes_some (moved p w) (solution_cost p w) cs a.search.routes ≡ nat_lt (solution_cost p w (plan_after p w cs a.search.routes)) (solution_cost p w a.search.routes)
    by (inl h) = rw (h.0, h.1) (not_less (solution_cost p w a.search.routes))
    by (inr h) = rw h.0 (less (solution_cost p w (plan_after p w cs a.search.routes)) (solution_cost p w a.search.routes) h.1)
