-- A descent at a moment, and what comes of trying some candidates.
use Rattle.std.specs.Prelude.{◌≡◌, ℕ, ◌+◌, ◌<◌, ◌≤◌, IsTrue, Bool, List, ◌++◌, length, filter, slice_index, slice_index_or, Option, None}
use Rattle.std.specs.List.{AllByRecursion}
use Rattle.problem_data.specs.declared.problem.Problem.{Problem}
use Rattle.problem_data.specs.Places.{place_count, vehicle_count}
use Rattle.problem_data.specs.Reads.{OneMore}
use Rattle.problem_data.specs.Valid.{IsGroupedAsListed}
use Rattle.routing_model.specs.declared.weights.Weights.{Weights}
use Rattle.routing_model.specs.Cost.{solution_cost}
use Rattle.routing_model.specs.Lawful.{is_lawful}
use Rattle.routing_model.specs.Routes.{Routes}
use Rattle.search_model.specs.declared.candidate.Candidate.{Candidate}
use Rattle.search_model.specs.declared.kind.Kind.{Kind}
use Rattle.search_model.specs.Descent.{Try, after_all, after_pass, is_taken, pass_tries}
use Rattle.search_model.specs.Moves.{moved}
use Rattle.search_model.specs.Search.{moves_of_kind, route_tries}
use Rattle.gain_model.specs.Operators.{bettered}
use Rattle.local_search.specs.Counts.{RoseBy, RoseTogether, all_applied, all_tried}
use Rattle.descent_memory.specs.Memories.{IsMemoryOf, MemoryState, last_count}
use Rattle.descent_memory.specs.Pairs.{pair_place}
use Rattle.descent_memory.specs.Touching.{IsUntouched, after_move}
use Rattle.local_search.specs.inside.Turns.{pair_candidates}
use Rattle.move_core.specs.Searches.{SearchState}
use Rattle.move_core.specs.declared.tally.Tally.{Tally}

-- the search, what the descent remembers, and the tallies of the operators
pub record Stage : Type 0 where
  pub search : SearchState
  pub memory : MemoryState
  pub tallies : List Tally

-- a stage by its parts
abbrev pub stage_of : SearchState → MemoryState → List Tally → Stage
stage_of search memory tallies = record { search = search; memory = memory; tallies = tallies }

-- the plan after candidates are tried, their tries, and those that are taken
abbrev pub plan_after : Problem → Weights → List Candidate → Routes → Routes
plan_after p w candidates routes = after_pass (moved p w) (solution_cost p w) candidates routes

abbrev pub tries_of : Problem → Weights → List Candidate → Routes → List (Try Routes Candidate)
tries_of p w candidates routes = pass_tries (moved p w) (solution_cost p w) candidates routes

abbrev pub moves_of : Problem → Weights → List Candidate → Routes → List (Try Routes Candidate)
moves_of p w candidates routes = filter is_taken (tries_of p w candidates routes)

-- a stage of a descent with this problem and these weights
pub record IsStage (p : Problem) (w : Weights) (stage : Stage) : Type 0 where
  pub problem : stage.search.problem ≡ p
  pub weights : stage.search.weights ≡ w
  pub grouped : IsGroupedAsListed p
  pub lawful : IsTrue (is_lawful p stage.search.routes)
  pub memory : IsMemoryOf p stage.search.routes stage.memory

-- of some candidates those that are untouched since a moment give nothing
pub record RestsSince (p : Problem) (w : Weights) (moment : ℕ) (candidates : List Candidate) (stage : Stage) : Type 0 where
  pub past : moment ≤ stage.memory.clock + 1
  pub counted : moment ≤ last_count
  pub rests : AllByRecursion (λ candidate. IsUntouched p stage.memory.touches moment candidate → bettered p w stage.search.routes candidate ≡ None) candidates

-- so it is with each client's turn since the client's moment
abbrev pub Keeps : Problem → Weights → (ℕ → List Candidate) → Stage → Type 0
Keeps p w turn stage = (client : ℕ) → client < place_count p → RestsSince p w (slice_index stage.memory.moments.clients client) (turn client) stage

-- the moment of a pair of vehicles, and so it is with each pair's turn since the pair's moment
abbrev pub moment_of_pair : Problem → MemoryState → ℕ → ℕ → ℕ
moment_of_pair p memory first second = slice_index memory.moments.pairs (pair_place (vehicle_count p) first second)

abbrev pub KeepsPairs : Problem → Weights → Stage → Type 0
KeepsPairs p w stage =
    (first second : ℕ) → first < second → second < vehicle_count p → RestsSince p w (moment_of_pair p stage.memory first second) (pair_candidates first second) stage

-- What comes of trying some candidates, each of them or, in a later pass, those that aren't known to give nothing: how many were
-- asked for, how the counts rose, and the plan after them. What rests since a moment still does, and so do these candidates if the
-- moment isn't before them.
pub record Tried (p : Problem) (w : Weights) (kinds : List Kind) (each : Bool) (candidates : List Candidate) (before after : Stage) : Type 0 where
  pub stage : IsStage p w after
  pub routes : after.search.routes ≡ plan_after p w candidates before.search.routes
  pub asked : ℕ
  pub few : asked ≤ length candidates
  pub all : IsTrue each → asked ≡ length candidates
  pub tried : RoseBy asked before.memory.tried after.memory.tried
  pub rose : RoseTogether asked (all_tried before.tallies) (all_tried after.tallies)
  pub clock : RoseBy (length (moves_of p w candidates before.search.routes)) before.memory.clock after.memory.clock
  pub applied : (k : ℕ) (d : Kind) → k < length kinds →
      RoseBy (moves_of_kind (slice_index_or kinds k d) (moves_of p w candidates before.search.routes)) (slice_index (all_applied before.tallies) k) (slice_index (all_applied after.tallies) k)
  pub rests : (moment : ℕ) (done : List Candidate) → RestsSince p w moment done before → RestsSince p w moment (done ++ candidates) after

-- A descent stopped among some candidates: it went through the first of them, and no further.
pub record Stopped (p : Problem) (w : Weights) (candidates : List Candidate) (before after : SearchState) : Type 0 where
  pub problem : after.problem ≡ p
  pub weights : after.weights ≡ w
  pub done : List Candidate
  pub left : List Candidate
  pub whole : done ++ left ≡ candidates
  pub routes : after.routes ≡ plan_after p w done before.routes

-- What a memory is after a move of one vehicle or two that is taken.
pub record TakesMove (p : Problem) (before made : Routes) (first : ℕ) (second : Option ℕ) (old new : MemoryState) : Type 0 where
  pub clock : ℕ
  pub rose : OneMore old.clock clock
  pub memory : new ≡ after_move p before made first second (record old { clock = clock })

-- What came of a descent's first tries, pass after pass: how many candidates were asked for, a number of them at least, how the counts
-- rose, and the plan after the tries that were taken.
pub record Went (p : Problem) (w : Weights) (kinds : List Kind) (fewest : ℕ) (done : List (Try Routes Candidate)) (before after : Stage) : Type 0 where
  pub stage : IsStage p w after
  pub routes : after.search.routes ≡ after_all before.search.routes (filter is_taken done)
  pub asked : ℕ
  pub least : fewest ≤ asked
  pub most : asked ≤ length done
  pub tried : RoseBy asked before.memory.tried after.memory.tried
  pub rose : RoseTogether asked (all_tried before.tallies) (all_tried after.tallies)
  pub clock : RoseBy (length (filter is_taken done)) before.memory.clock after.memory.clock
  pub applied : (k : ℕ) (d : Kind) → k < length kinds →
      RoseBy (moves_of_kind (slice_index_or kinds k d) (filter is_taken done)) (slice_index (all_applied before.tallies) k) (slice_index (all_applied after.tallies) k)

-- A descent between two passes: of its tries the first ones are done, and those from the present plan on are left.
pub record Goes (p : Problem) (w : Weights) (kinds : List Kind) (candidates : List Candidate) (before after : Stage) : Type 0 where
  pub done : List (Try Routes Candidate)
  pub whole : route_tries p w candidates before.search.routes ≡ done ++ route_tries p w candidates after.search.routes
  pub went : Went p w kinds 0 done before after
