-- A turn begins and ends.
use Rattle.std.proofs.Common.{◌≡◌, ◌∙◌, ◌⊎◌, inl, inr, ℕ, ◌+◌, ◌<◌, ◌≤◌, Bool, List, [], length, set, refl, sym, ap, subst, get_or-set_same, get_or-set_other}
use Rattle.std.specs.Prelude.{slice_index}
use Rattle.std.proofs.lemmas.Bool.{cases_eq}
use Rattle.std.proofs.lemmas.List.{length-set}
use Rattle.problem_data.specs.declared.problem.Problem.{Problem}
use Rattle.problem_data.specs.Places.{place_count, vehicle_count}
use Rattle.routing_model.specs.declared.weights.Weights.{Weights}
use Rattle.search_model.specs.declared.candidate.Candidate.{Candidate}
use Rattle.search_model.specs.declared.kind.Kind.{Kind}
use Rattle.descent_memory.specs.Memories.{MemoryState, Moments, last_count}
use Rattle.descent_memory.specs.Pairs.{pair_place}
use Rattle.descent_memory.proofs.PairPlaces.{place-in_range, places-differ}
use Rattle.local_search.specs.inside.Stages.{IsStage, Keeps, KeepsPairs, RestsSince, Stage, Tried, moment_of_pair, stage_of}
use Rattle.local_search.specs.inside.Turns.{pair_candidates}
use Rattle.local_search.proofs.Keeping.{keeps_after, pairs_after}

-- nothing was tried in a turn that begins
turn_begins : (p : Problem) (w : Weights) (moment : ℕ) (s : Stage) → moment ≤ s.memory.clock + 1 → moment ≤ last_count → RestsSince p w moment [] s
turn_begins p w moment s a b = record { past = a; counted = b; rests = tt }

-- a stage whose memory has other moments
abbrev with_moments : Stage → Moments → Stage
with_moments s ms = stage_of s.search (record s.memory { moments = ms }) s.tallies

same_rests : (p : Problem) (w : Weights) (m : ℕ) (ms : Moments) (cs : List Candidate) (s : Stage) → RestsSince p w m cs s → RestsSince p w m cs (with_moments s ms)
same_rests p w m ms cs s r = record { past = r.past; counted = r.counted; rests = r.rests }

-- what comes of the turn's candidates
tried_with : (p : Problem) (w : Weights) (kinds : List Kind) (each : Bool) (cs : List Candidate) (a s : Stage) (ms : Moments) → length ms.clients ≡ length s.memory.moments.clients → length ms.pairs ≡ length s.memory.moments.pairs →
    Tried p w kinds each cs a s → Tried p w kinds each cs a (with_moments s ms)
tried_with p w kinds each cs a s ms clients pairs f = record {
  stage = record {
    problem = f.stage.problem;
    weights = f.stage.weights;
    grouped = f.stage.grouped;
    lawful = f.stage.lawful;
    memory = record {
      counted = f.stage.memory.counted;
      moments = clients ∙ f.stage.memory.moments;
      pairs = pairs ∙ f.stage.memory.pairs;
      clients = f.stage.memory.clients;
      types = f.stage.memory.types;
      lists = f.stage.memory.lists;
      as_many = f.stage.memory.as_many;
      unused = f.stage.memory.unused;
    };
  };
  routes = f.routes;
  asked = f.asked;
  few = f.few;
  all = f.all;
  tried = f.tried;
  rose = f.rose;
  clock = f.clock;
  applied = f.applied;
  rests = λ m done r. same_rests p w m ms _ s (f.rests m done r);
}

-- the moments after a client's turn, and after that of the pair at a place
abbrev client_finished : Moments → ℕ → ℕ → Moments
client_finished ms client moment = record ms { clients = set ms.clients client moment }

abbrev pair_finished : Moments → ℕ → ℕ → Moments
pair_finished ms place moment = record ms { pairs = set ms.pairs place moment }

-- what is kept after a client's turn
keeps_finished : (p : Problem) (w : Weights) (turn : ℕ → List Candidate) (s : Stage) (client moment : ℕ) → client < place_count p → IsStage p w s → RestsSince p w moment (turn client) s → Keeps p w turn s →
    Keeps p w turn (with_moments s (client_finished s.memory.moments client moment))
keeps_finished p w turn s client moment there at r k other l = by (cases_eq other client)
  where
    now : Stage
    now = with_moments s (client_finished s.memory.moments client moment)

    by : (other ≡ client) ⊎ (other ≡ client → ⊥) → RestsSince p w (slice_index (set s.memory.moments.clients client moment) other) (turn other) now
    by (inl e) =
        subst (λ (c : ℕ). RestsSince p w (slice_index (set s.memory.moments.clients client moment) c) (turn c) now) (sym e)
        (subst (λ (m : ℕ). RestsSince p w m (turn client) now) (sym (get_or-set_same s.memory.moments.clients client moment 0 (rw at.memory.moments there)))
        (same_rests p w moment (client_finished s.memory.moments client moment) (turn client) s r))
    by (inr n) =
        subst (λ (m : ℕ). RestsSince p w m (turn other) now) (sym (get_or-set_other s.memory.moments.clients client other moment 0 n))
        (same_rests p w (slice_index s.memory.moments.clients other) (client_finished s.memory.moments client moment) (turn other) s (k other l))

-- and after a pair's
pairs_finished : (p : Problem) (w : Weights) (s : Stage) (i j moment : ℕ) → i < j → j < vehicle_count p → IsStage p w s → RestsSince p w moment (pair_candidates i j) s → KeepsPairs p w s →
    KeepsPairs p w (with_moments s (pair_finished s.memory.moments (pair_place (vehicle_count p) i j) moment))
pairs_finished p w s i j moment order there at r keeps k l a b = by (cases_eq (pair_place (vehicle_count p) k l) (pair_place (vehicle_count p) i j))
  where
    place : ℕ
    place = pair_place (vehicle_count p) i j

    after : Moments
    after = pair_finished s.memory.moments (pair_place (vehicle_count p) i j) moment

    inside : place < length s.memory.moments.pairs
    inside = rw at.memory.pairs (place-in_range (vehicle_count p) i j order there)

    own : (m n : ℕ) → m ≡ i → n ≡ j → RestsSince p w moment (pair_candidates m n) (with_moments s after)
    own m n x y =
        subst (λ (z : ℕ). RestsSince p w moment (pair_candidates z n) (with_moments s after)) (sym x)
        (subst (λ (z : ℕ). RestsSince p w moment (pair_candidates i z) (with_moments s after)) (sym y) (same_rests p w moment after (pair_candidates i j) s r))

    by : (pair_place (vehicle_count p) k l ≡ place) ⊎ (pair_place (vehicle_count p) k l ≡ place → ⊥) →
        RestsSince p w (slice_index (set s.memory.moments.pairs place moment) (pair_place (vehicle_count p) k l)) (pair_candidates k l) (with_moments s after)
    by (inl e) =
        let same = places-differ (vehicle_count p) k l i j a b order there e in
        subst (λ (m : ℕ). RestsSince p w m (pair_candidates k l) (with_moments s after))
        (sym (ap (λ (n : ℕ). slice_index (set s.memory.moments.pairs place moment) n) e ∙ get_or-set_same s.memory.moments.pairs place moment 0 inside))
        (own k l same.0 same.1)
    by (inr n) =
        subst (λ (m : ℕ). RestsSince p w m (pair_candidates k l) (with_moments s after)) (sym (get_or-set_other s.memory.moments.pairs place (pair_place (vehicle_count p) k l) moment 0 n))
        (same_rests p w (moment_of_pair p s.memory k l) after (pair_candidates k l) s (keeps k l a b))

-- a whole turn of a client, by the memory that finished it
module _ (p : Problem) (w : Weights) (kinds : List Kind) (each : Bool) (turn : ℕ → List Candidate) (a s : Stage) (client moment : ℕ) (f : Tried p w kinds each (turn client) a s)
    (memory : MemoryState) (is : memory ≡ record s.memory { moments = record s.memory.moments { clients = set s.memory.moments.clients client moment } }) where
  abbrev after_client : Moments
  after_client = client_finished s.memory.moments client moment

  pub turn_tried : Tried p w kinds each (turn client) a (stage_of s.search memory s.tallies)
  turn_tried =
      subst (λ (m : MemoryState). Tried p w kinds each (turn client) a (stage_of s.search m s.tallies)) (sym is)
      (tried_with p w kinds each (turn client) a s (client_finished s.memory.moments client moment) (length-set s.memory.moments.clients client moment) refl f)

  pub turn_keeps : client < place_count p → moment ≤ a.memory.clock + 1 → moment ≤ last_count → s.memory.moments ≡ a.memory.moments → Keeps p w turn a → Keeps p w turn (stage_of s.search memory s.tallies)
  turn_keeps there past counted same keeps =
      subst (λ (m : MemoryState). Keeps p w turn (stage_of s.search m s.tallies)) (sym is)
      (keeps_finished p w turn s client moment there f.stage (f.rests moment [] (turn_begins p w moment a past counted))
      (keeps_after p w kinds each (turn client) a s f turn (ap (λ (ms : Moments). ms.clients) same) keeps))

  pub turn_pairs : s.memory.moments ≡ a.memory.moments → memory.moments.pairs ≡ a.memory.moments.pairs
  turn_pairs same = ap (λ (m : MemoryState). m.moments.pairs) is ∙ ap (λ (ms : Moments). ms.pairs) same

-- and of a pair
module _ (p : Problem) (w : Weights) (kinds : List Kind) (each : Bool) (i j : ℕ) (a s : Stage) (place moment : ℕ) (f : Tried p w kinds each (pair_candidates i j) a s)
    (memory : MemoryState) (is : memory ≡ record s.memory { moments = record s.memory.moments { pairs = set s.memory.moments.pairs place moment } }) where
  pub pair_tried : Tried p w kinds each (pair_candidates i j) a (stage_of s.search memory s.tallies)
  pair_tried =
      subst (λ (m : MemoryState). Tried p w kinds each (pair_candidates i j) a (stage_of s.search m s.tallies)) (sym is)
      (tried_with p w kinds each (pair_candidates i j) a s (pair_finished s.memory.moments place moment) refl (length-set s.memory.moments.pairs place moment) f)

  pub pair_keeps : i < j → j < vehicle_count p → place ≡ pair_place (vehicle_count p) i j → moment ≤ a.memory.clock + 1 → moment ≤ last_count → s.memory.moments ≡ a.memory.moments → KeepsPairs p w a →
      KeepsPairs p w (stage_of s.search memory s.tallies)
  pair_keeps order there here past counted same keeps =
      subst (λ (m : MemoryState). KeepsPairs p w (stage_of s.search m s.tallies)) (sym is)
      (subst (λ (n : ℕ). KeepsPairs p w (with_moments s (pair_finished s.memory.moments n moment))) (sym here)
      (pairs_finished p w s i j moment order there f.stage (f.rests moment [] (turn_begins p w moment a past counted))
      (pairs_after p w kinds each (pair_candidates i j) a s f (ap (λ (ms : Moments). ms.pairs) same) keeps)))

  pub pair_clients : s.memory.moments ≡ a.memory.moments → memory.moments.clients ≡ a.memory.moments.clients
  pair_clients same = ap (λ (m : MemoryState). m.moments.clients) is ∙ ap (λ (ms : Moments). ms.clients) same
