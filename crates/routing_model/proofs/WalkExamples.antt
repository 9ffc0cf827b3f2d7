-- Examples of the clock, the loads and tidying.
use Rattle.std.proofs.Common.{◌≡◌, ℕ, [], ◌∷◌, refl, true, false}
use Rattle.problem_data.specs.declared.problem.Problem.{Problem}
use Rattle.problem_data.specs.declared.visit.Visit.TheVariants.{Client, Reload}
use Rattle.problem_data.specs.Places.{leg_duration}
use Rattle.routing_model.specs.Clock.{Stop, drive}
use Rattle.routing_model.specs.Stops.{stops}
use Rattle.routing_model.specs.Load.{trip_load}
use Rattle.routing_model.specs.Tidy.{tidied}
use Rattle.routing_model.specs.Lawful.{is_lawful}
use Rattle.routing_model.proofs.Examples.{three, plain_client, plain_type, plain_problem, window}

abbrev pub stop : ℕ → ℕ → ℕ → Stop
stop place early late = record { place = place; gate = 0; early = early; late = late; service = 5 }

-- early at the second stop: from 10 on it waits least
early_drive : drive (λ _ _. 10) (stop 1 0 10 ∷ stop 2 30 40 ∷ []) 10 ≡ record { duration = 25; warp = 0 }
early_drive = refl

early_drive_at_0 : drive (λ _ _. 10) (stop 1 0 10 ∷ stop 2 30 40 ∷ []) 0 ≡ record { duration = 35; warp = 0 }
early_drive_at_0 = refl

-- late at the second stop: warp 3 from 0, and 7 from 4
late_drive : drive (λ _ _. 10) (stop 1 0 10 ∷ stop 2 0 12 ∷ []) 0 ≡ record { duration = 20; warp = 3 }
late_drive = refl

late_drive_at_4 : drive (λ _ _. 10) (stop 1 0 10 ∷ stop 2 0 12 ∷ []) 4 ≡ record { duration = 20; warp = 7 }
late_drive_at_4 = refl

-- released at 20, beyond the first window
released_drive : drive (λ _ _. 10) (record { place = 1; gate = 20; early = 0; late = 10; service = 5 } ∷ stop 2 30 40 ∷ []) 20 ≡ record { duration = 25; warp = 10 }
released_drive = refl

-- a delivery of 4 and then a pickup of 6 need 6; the other way round 10
abbrev loaded : Problem
loaded = plain_problem (record (plain_client 4) { pickup = 0 } ∷ record (plain_client 0) { pickup = 6 } ∷ []) [] [] []

delivery_first : trip_load loaded (1 ∷ 2 ∷ []) ≡ 6
delivery_first = refl

pickup_first : trip_load loaded (2 ∷ 1 ∷ []) ≡ 10
pickup_first = refl

-- depot open to 100, all legs 5; client 1 open to 10, client 2 released at 30: driven from 5 it takes 35, from 0 40
abbrev pub reloading : Problem
reloading = record (plain_problem (record (plain_client 0) { window = window 0 10 } ∷ record (plain_client 0) { window = window 0 100; release = 30 } ∷ []) (plain_type 1 10 ∷ [])
    (0 ∷ 5 ∷ 5 ∷
    5 ∷ 0 ∷ 5 ∷
    5 ∷ 5 ∷ 0 ∷ []) []) { depots = record { window = window 0 100; service = 0 } ∷ [] }

reload_drive : drive (leg_duration reloading 0) (stops reloading (plain_type 1 10) (Client 1 ∷ Reload 0 ∷ Client 2 ∷ [])) 5 ≡ record { duration = 35; warp = 0 }
reload_drive = refl

reload_drive_at_0 : drive (leg_duration reloading 0) (stops reloading (plain_type 1 10) (Client 1 ∷ Reload 0 ∷ Client 2 ∷ [])) 0 ≡ record { duration = 40; warp = 0 }
reload_drive_at_0 = refl

-- client 2 taken out of 1 |0 2 |0 3
joint : tidied (Client 1 ∷ Reload 0 ∷ Reload 0 ∷ Client 3 ∷ []) ≡ Client 1 ∷ Reload 0 ∷ Client 3 ∷ []
joint = refl

lawful_three : is_lawful three ((Client 2 ∷ []) ∷ (Client 1 ∷ []) ∷ (Client 3 ∷ []) ∷ []) ≡ true
lawful_three = refl

unlawful_three : is_lawful three ([] ∷ (Client 1 ∷ []) ∷ (Client 3 ∷ []) ∷ []) ≡ false
unlawful_three = refl
