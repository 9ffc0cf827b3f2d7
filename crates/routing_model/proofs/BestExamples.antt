-- Examples of the best drive over all starts.
use Rattle.std.proofs.Common.{◌≡◌, ◌∙◌, [], ◌∷◌, refl, lit≤, lit<}
use Rattle.problem_data.specs.declared.visit.Visit.TheVariants.{Client, Reload}
use Rattle.problem_data.specs.Places.{leg_duration}
use Rattle.routing_model.specs.Clock.{best_drive, best_up_to}
use Rattle.routing_model.specs.Stops.{stops}
use Rattle.routing_model.proofs.Examples.{plain_type}
use Rattle.routing_model.proofs.WalkExamples.{stop, reloading}
use Rattle.routing_model.proofs.Walks.{best_drive-early}

-- early at the second stop: the start at 10 waits least
early : best_drive (λ _ _. 10) (stop 1 0 10 ∷ stop 2 30 40 ∷ []) ≡ record { duration = 25; warp = 0 }
unfolding best_up_to
early = best_drive-early (λ _ _. 10) (stop 1 0 10 ∷ stop 2 30 40 ∷ []) 10 (lit≤ tt) (lit< tt) ∙ refl

-- late at the second stop
late : best_drive (λ _ _. 10) (stop 1 0 10 ∷ stop 2 0 12 ∷ []) ≡ record { duration = 20; warp = 3 }
unfolding best_up_to
late = best_drive-early (λ _ _. 10) (stop 1 0 10 ∷ stop 2 0 12 ∷ []) 0 (lit≤ tt) (lit< tt) ∙ refl

-- released at 20, after the first window
released : best_drive (λ _ _. 10) (record { place = 1; gate = 20; early = 0; late = 10; service = 5 } ∷ stop 2 30 40 ∷ []) ≡ record { duration = 25; warp = 10 }
unfolding best_up_to
released = best_drive-early (λ _ _. 10) (record { place = 1; gate = 20; early = 0; late = 10; service = 5 } ∷ stop 2 30 40 ∷ []) 20 (lit≤ tt) (lit< tt) ∙ refl

-- a reload whose second trip waits for its release
reloaded : best_drive (leg_duration reloading 0) (stops reloading (plain_type 1 10) (Client 1 ∷ Reload 0 ∷ Client 2 ∷ [])) ≡ record { duration = 35; warp = 0 }
unfolding best_up_to
reloaded = best_drive-early (leg_duration reloading 0) (stops reloading (plain_type 1 10) (Client 1 ∷ Reload 0 ∷ Client 2 ∷ [])) 5 (lit≤ tt) (lit< tt) ∙ refl
