-- What the definitions say of themselves.
use Rattle.std.specs.Prelude.{◌≡◌, ◌↔◌, ℕ, List, IsTrue, Option, false}
use Rattle.problem_data.specs.declared.problem.Problem.{Problem}
use Rattle.problem_data.specs.declared.problem.VehicleType.{VehicleType}
use Rattle.problem_data.specs.declared.visit.Visit.{Visit}
use Rattle.routing_model.specs.declared.weights.Weights.{Weights}
use Rattle.routing_model.specs.Clock.{Stop, Drive, IsBestDrive, drive, best_drive}
use Rattle.routing_model.specs.Best.{Best, IsFeasibleBest, best_after}
use Rattle.routing_model.specs.Cost.{route_cost, solution_cost}
use Rattle.routing_model.specs.Feasible.{is_feasible}
use Rattle.routing_model.specs.Lawful.{is_lawful, IsLawful}
use Rattle.routing_model.specs.Routes.{Routes, is_used}
use Rattle.routing_model.specs.Tidy.{tidied, is_tidy}

-- the best drive is one of the drives, with the least warp of all and the least duration among those
abbrev pub BestDriveIsBest : Type 0
BestDriveIsBest = (leg : ℕ → ℕ → ℕ) (stops : List Stop) → IsBestDrive leg stops (best_drive leg stops)

-- nothing else is a best drive
abbrev pub BestDriveIsUnique : Type 0
BestDriveIsUnique = (leg : ℕ → ℕ → ℕ) (stops : List Stop) (best : Drive) → IsBestDrive leg stops best → best ≡ best_drive leg stops

-- no start has less warp than the first
abbrev pub FirstStartHasLeastWarp : Type 0
FirstStartHasLeastWarp = (leg : ℕ → ℕ → ℕ) (stops : List Stop) → (best_drive leg stops).warp ≡ (drive leg stops 0).warp

-- tidying makes a list tidy
abbrev pub TidiedIsTidy : Type 0
TidiedIsTidy = (visits : List Visit) → IsTrue (is_tidy (tidied visits))

-- tidying leaves a tidy list
abbrev pub TidyStays : Type 0
TidyStays = (visits : List Visit) → IsTrue (is_tidy visits) → tidied visits ≡ visits

-- tidying twice is tidying once
abbrev pub TidiedStays : Type 0
TidiedStays = (visits : List Visit) → tidied (tidied visits) ≡ tidied visits

-- the test of lawful plans, as facts
abbrev pub LawfulIsTested : Type 0
LawfulIsTested = (p : Problem) (routes : Routes) → IsTrue (is_lawful p routes) ↔ IsLawful p routes

-- a vehicle without a client costs nothing
abbrev pub UnusedCostsNothing : Type 0
UnusedCostsNothing = (p : Problem) (t : VehicleType) (visits : List Visit) (w : Weights) → is_used visits ≡ false → route_cost p w t visits ≡ 0

-- a feasible plan costs the same by all weights
abbrev pub FeasibleCostsTheSame : Type 0
FeasibleCostsTheSame = (p : Problem) (routes : Routes) → IsTrue (is_feasible p routes) → (v w : Weights) → solution_cost p v routes ≡ solution_cost p w routes

-- a best that is feasible with its cost stays so, whatever plan is found
abbrev pub BestStaysFeasible : Type 0
BestStaysFeasible = (p : Problem) (w : Weights) (routes : Routes) (best : Option Best) → IsFeasibleBest p best → IsFeasibleBest p (best_after p w routes best)
