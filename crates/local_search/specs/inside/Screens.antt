-- What is known of candidates by where a client stands, and by what was touched.
use Rattle.std.specs.Prelude.{◌≡◌, ◌⊎◌, ℕ, None}
use Rattle.problem_data.specs.declared.problem.Problem.{Problem}
use Rattle.problem_data.specs.Places.{type_of}
use Rattle.search_model.specs.declared.candidate.Candidate.TheVariants.{Node, Routes as Pair}
use Rattle.search_model.specs.declared.candidate.Target.{Target}
use Rattle.search_model.specs.declared.candidate.Target.TheVariants.{StartOf}
use Rattle.search_model.specs.declared.kind.Kind.{Kind}
use Rattle.search_model.specs.declared.kind.Kind.TheVariants.{Insert, Replace, SwapRoutes, SwapStar}
use Rattle.gain_model.specs.Operators.{bettered}
use Rattle.move_core.specs.Searches.{SearchState}
use Rattle.descent_memory.specs.Memories.{MemoryState}
use Rattle.descent_memory.specs.Touching.{IsUntouched}
use Rattle.local_search.specs.inside.Stages.{moment_of_pair}

-- nothing goes to the start before a client
abbrev pub NoStart : SearchState → ℕ → Type 0
NoStart s client = (kind : Kind) (u : ℕ) → bettered s.problem s.weights s.routes (Node kind u (StartOf client)) ≡ None

-- a client is put in nowhere, and takes no other's place
pub record NoPutting (s : SearchState) (client : ℕ) : Type 0 where
  pub inserted : (target : Target) → bettered s.problem s.weights s.routes (Node Insert client target) ≡ None
  pub replaced : (target : Target) → bettered s.problem s.weights s.routes (Node Replace client target) ≡ None

-- the lists of two vehicles are untouched since their pair's moment, and so are the least unused vehicles of their types, if these differ
pub record IsPairUntouched (p : Problem) (memory : MemoryState) (first second : ℕ) : Type 0 where
  pub lists : IsUntouched p memory.touches (moment_of_pair p memory first second) (Pair SwapStar first second)
  pub types : (type_of p first ≡ type_of p second) ⊎ IsUntouched p memory.touches (moment_of_pair p memory first second) (Pair SwapRoutes first second)
