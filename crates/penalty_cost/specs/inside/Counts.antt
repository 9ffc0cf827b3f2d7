-- How often a plan visits each place, in a table.
use Rattle.std.specs.Prelude.{◌≡◌, ℕ, ◌+◌, ◌<◌, min, List, ◌∷◌, count_by, length, slice_index, Bool, true, false, if◌then◌else◌}
use Rattle.problem_data.specs.declared.visit.Visit.{Visit}
use Rattle.problem_data.specs.declared.problem.Problem.{Problem}
use Rattle.routing_model.specs.Lawful.{serves_group}
use Rattle.routing_model.specs.Routes.{Routes, is_used, is_visit_of, is_visited, visit_count}
use Rattle.routing_model.specs.Tidy.{is_tidy_behind}
use Rattle.penalty_cost.specs.declared.lawful.Tidiness.{Tidiness}

-- the table has a number for each place, cut to two
pub record IsCounted (number : ℕ → ℕ) (table : List ℕ) : Type 0 where
  pub at : (place : ℕ) → place < length table → slice_index table place ≡ min 2 (number place)

-- it has each number, with this visit
abbrev pub CountsVisit : List ℕ → Visit → List ℕ → Type 0
CountsVisit table visit counted = (number : ℕ → ℕ) → IsCounted number table → IsCounted (λ place. number place + (if is_visit_of place visit then 1 else 0)) counted

-- it has each number, with these visits
abbrev pub CountsVisits : List ℕ → List Visit → List ℕ → Type 0
CountsVisits table visits counted = (number : ℕ → ℕ) → IsCounted number table → IsCounted (λ place. number place + count_by (is_visit_of place) visits) counted

-- whether the visits are tidy, and whether some is a client's
pub record IsTidiness (visits : List Visit) (tidiness : Tidiness) : Type 0 where
  pub used : tidiness.used ≡ is_used visits
  pub behind_client : tidiness.behind_client ≡ is_tidy_behind true visits
  pub behind_other : tidiness.behind_other ≡ is_tidy_behind false visits

-- it is that of the visits with this one before them
abbrev pub AddsTidiness : Tidiness → Visit → Tidiness → Type 0
AddsTidiness tidiness visit more = (visits : List Visit) → IsTidiness visits tidiness → IsTidiness (visit ∷ visits) more

-- it is a test's answer for each plan that the table counts
abbrev pub IsAnswer : List ℕ → (Routes → Bool) → Bool → Type 0
IsAnswer table test answer = (routes : Routes) → IsCounted (visit_count routes) table → answer ≡ test routes

-- it is how many of these clients are visited, for each plan that the table counts
abbrev pub CountsMembers : List ℕ → List ℕ → ℕ → Type 0
CountsMembers table members visited = (routes : Routes) → IsCounted (visit_count routes) table → visited ≡ count_by (is_visited routes) members

-- it is whether this group is served, for each plan that the table counts
abbrev pub IsGroupAnswer : Problem → List ℕ → List ℕ → Bool → Type 0
IsGroupAnswer p table members answer = IsAnswer table (λ routes. serves_group p routes members) answer
