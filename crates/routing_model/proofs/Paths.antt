-- How far it is along some visits, from a place: what a list's parts add to its distance, and what it changes where a run is replaced.
use Rattle.std.proofs.Common.{◌≡◌, ℕ, ◌+◌, List, [], ◌∷◌, ◌++◌, refl, ◌∙◌, ap, arith}
use Rattle.problem_data.specs.declared.problem.Problem.{Problem}
use Rattle.problem_data.specs.declared.problem.VehicleType.{VehicleType}
use Rattle.problem_data.specs.declared.visit.Visit.{Visit}
use Rattle.problem_data.specs.declared.visit.Visit.TheVariants.{Client, Reload}
use Rattle.problem_data.specs.Places.{client_at, depot_at, leg_distance}
use Rattle.problem_data.specs.Visits.{place_of}
use Rattle.routing_model.specs.Clock.{Stop}
use Rattle.routing_model.specs.Cost.{distance, length_of}
use Rattle.routing_model.specs.Stops.{met, stop_at, trip_release, visit_stops}

-- between the arrival and the departure of a reload
abbrev pub pause : (ℕ → ℕ → ℕ) → Visit → ℕ
pause leg (Client place) = 0
pause leg (Reload depot) = leg depot depot

-- from a place over some visits, to the last of them
abbrev pub path : (ℕ → ℕ → ℕ) → ℕ → List Visit → ℕ
path leg from [] = 0
path leg from (visit ∷ rest) = leg from (place_of visit) + (pause leg visit + path leg (place_of visit) rest)

-- the place where it ends
abbrev pub path_end : ℕ → List Visit → ℕ
path_end from [] = from
path_end from (visit ∷ rest) = path_end (place_of visit) rest

-- the place of the first visit, or the given place where there is none
abbrev pub path_start : List Visit → ℕ → ℕ
path_start [] to = to
path_start (visit ∷ rest) to = place_of visit

-- from a place over some visits to a place
abbrev pub through : (ℕ → ℕ → ℕ) → ℕ → List Visit → ℕ → ℕ
through leg from visits to = path leg from visits + leg (path_end from visits) to

module _ (leg : ℕ → ℕ → ℕ) where
  pub path-append : (from : ℕ) (xs ys : List Visit) → path leg from (xs ++ ys) ≡ path leg from xs + path leg (path_end from xs) ys
  path-append from [] ys = omega arith
  path-append from (visit ∷ xs) ys = let rest = path-append (place_of visit) xs ys in omega arith

  pub path_end-append : (from : ℕ) (xs ys : List Visit) → path_end from (xs ++ ys) ≡ path_end (path_end from xs) ys
  path_end-append from [] ys = refl
  path_end-append from (visit ∷ xs) ys = path_end-append (place_of visit) xs ys

  pub through-append : (from : ℕ) (xs ys : List Visit) (to : ℕ) → through leg from (xs ++ ys) to ≡ path leg from xs + through leg (path_end from xs) ys to
  through-append from xs ys to =
      let a = path-append from xs ys in
      let b : leg (path_end from (xs ++ ys)) to ≡ leg (path_end (path_end from xs) ys) to = ap (λ (n : ℕ). leg n to) (path_end-append from xs ys) in
      omega arith

  -- from another place, the first leg alone is another
  pub through-from : (a b : ℕ) (ys : List Visit) (to : ℕ) → through leg a ys to + leg b (path_start ys to) ≡ through leg b ys to + leg a (path_start ys to)
  through-from a b [] to = omega arith
  through-from a b (visit ∷ ys) to = omega arith

  pub path-from : (a b : ℕ) (visit : Visit) (ys : List Visit) → path leg a (visit ∷ ys) + leg b (place_of visit) ≡ path leg b (visit ∷ ys) + leg a (place_of visit)
  path-from a b visit ys = omega arith

  -- a run between two parts replaced
  pub through-replaced : (from : ℕ) (before run other behind : List Visit) (to : ℕ) →
      through leg from (before ++ (other ++ behind)) to + through leg (path_end from before) run (path_start behind to)
      ≡ through leg from (before ++ (run ++ behind)) to + through leg (path_end from before) other (path_start behind to)
  through-replaced from before run other behind to =
      let middle : ℕ = path_end from before in
      let first : ℕ = path_start behind to in
      let a1 = through-append from before (other ++ behind) to in
      let a2 = through-append middle other behind to in
      let b1 = through-append from before (run ++ behind) to in
      let b2 = through-append middle run behind to in
      let rest = through-from (path_end middle other) (path_end middle run) behind to in
      added (through leg from (before ++ (other ++ behind)) to) (through leg from (before ++ (run ++ behind)) to) (path leg from before)
      (through leg middle (other ++ behind) to) (through leg middle (run ++ behind) to) (path leg middle other) (path leg middle run)
      (through leg (path_end middle other) behind to) (through leg (path_end middle run) behind to) (leg (path_end middle run) first) (leg (path_end middle other) first)
      a1 a2 b1 b2 rest
    where
      added : (x y b c d o r s t k l : ℕ) → x ≡ b + c → c ≡ o + s → y ≡ b + d → d ≡ r + t → s + k ≡ t + l → x + (r + k) ≡ y + (o + l)
      added x y b c d o r s t k l e f g h i = omega arith

  -- the stops of some visits
  pub stops-path : (p : Problem) (from : Stop) (visits : List Visit) → length_of leg (from ∷ (visit_stops p visits ++ [])) ≡ path leg from.place visits
  stops-path p from [] = refl
  stops-path p from (Client place ∷ rest) =
      ap (λ (n : ℕ). leg from.place place + n) (stops-path p (stop_at place 0 (client_at p place).window (client_at p place).service) rest)
      ∙ grouped (leg from.place place) (path leg place rest)
    where
      grouped : (a b : ℕ) → a + b ≡ a + (0 + b)
      grouped a b = omega arith
  stops-path p from (Reload depot ∷ rest) =
      ap (λ (n : ℕ). leg from.place depot + (leg depot depot + n)) (stops-path p (stop_at depot (trip_release p rest) (depot_at p depot).window (depot_at p depot).service) rest)

  -- and the stop behind them
  pub stops-through : (p : Problem) (from : Stop) (visits : List Visit) (to : Stop) → length_of leg (from ∷ (visit_stops p visits ++ to ∷ [])) ≡ through leg from.place visits to.place
  stops-through p from [] to = let e : leg from.place to.place + 0 ≡ 0 + leg from.place to.place = omega arith in e
  stops-through p from (Client place ∷ rest) to =
      let later = stops-through p (stop_at place 0 (client_at p place).window (client_at p place).service) rest to in
      ap (λ (n : ℕ). leg from.place place + n) later ∙ grouped (leg from.place place) (path leg place rest) (leg (path_end place rest) to.place)
    where
      grouped : (a b c : ℕ) → a + (b + c) ≡ a + (0 + b) + c
      grouped a b c = omega arith
  stops-through p from (Reload depot ∷ rest) to =
      let later = stops-through p (stop_at depot (trip_release p rest) (depot_at p depot).window (depot_at p depot).service) rest to in
      ap (λ (n : ℕ). leg from.place depot + (leg depot depot + n)) later ∙ grouped (leg from.place depot) (leg depot depot) (path leg depot rest) (leg (path_end depot rest) to.place)
    where
      grouped : (a b c d : ℕ) → a + (b + (c + d)) ≡ a + (b + c) + d
      grouped a b c d = omega arith

-- a list's distance
pub distance-through : (p : Problem) (t : VehicleType) (visits : List Visit) → distance p t visits ≡ through (leg_distance p t.profile) t.start visits t.end
distance-through p t visits =
    stops-through (leg_distance p t.profile) p (stop_at t.start (trip_release p visits) (met (depot_at p t.start).window t.shift) (depot_at p t.start).service) visits
    (stop_at t.end 0 (met (depot_at p t.end).window t.shift) 0)

-- a run replaced
pub distance-replaced : (p : Problem) (t : VehicleType) (before run other behind : List Visit) →
    distance p t (before ++ (other ++ behind)) + through (leg_distance p t.profile) (path_end t.start before) run (path_start behind t.end)
    ≡ distance p t (before ++ (run ++ behind)) + through (leg_distance p t.profile) (path_end t.start before) other (path_start behind t.end)
distance-replaced p t before run other behind =
    let a = distance-through p t (before ++ (other ++ behind)) in
    let b = distance-through p t (before ++ (run ++ behind)) in
    let e = through-replaced (leg_distance p t.profile) t.start before run other behind t.end in
    by (distance p t (before ++ (other ++ behind))) (through (leg_distance p t.profile) t.start (before ++ (other ++ behind)) t.end)
    (distance p t (before ++ (run ++ behind))) (through (leg_distance p t.profile) t.start (before ++ (run ++ behind)) t.end)
    (through (leg_distance p t.profile) (path_end t.start before) run (path_start behind t.end)) (through (leg_distance p t.profile) (path_end t.start before) other (path_start behind t.end))
    a b e
  where
    by : (a b c d x y : ℕ) → a ≡ b → c ≡ d → b + x ≡ d + y → a + x ≡ c + y
    by a b c d x y e f g = omega arith
