-- How far it is over runs of lists, from any place on; and what ways over several runs add up to.
use Rattle.std.proofs.Common.{◌≡◌, ℕ, ◌+◌, ◌-◌, ◌<◌, ◌≤◌, List, ◌∷◌, ◌++◌, length, get_or, sym, ◌∙◌, ap, arith, slice_range}
use Rattle.problem_data.specs.declared.problem.Problem.{Problem}
use Rattle.problem_data.specs.declared.problem.VehicleType.{VehicleType}
use Rattle.problem_data.specs.declared.visit.Visit.{Visit}
use Rattle.problem_data.specs.declared.visit.Visit.TheVariants.{Client}
use Rattle.problem_data.specs.Places.{leg_distance}
use Rattle.problem_data.specs.Visits.{place_of}
use Rattle.routing_model.proofs.Paths.{path, path-append, path_end, path_end-append, pause, through}
use Rattle.route_cache.specs.Marks.{place_along}
use Rattle.route_cache.proofs.Alongs.{along-visit}
use Rattle.route_cache.proofs.MarkPaths.{end-between}
use Rattle.route_cache.proofs.Slices.{slice-before}
use Rattle.list_changes.specs.declared.layout.Layout.{Layout}
use Rattle.list_changes.specs.declared.way.Way.{Way}
use Rattle.list_changes.specs.Ways.{way_by}
use Rattle.list_changes.specs.inside.Ways.{GoesOn}

module _ (p : Problem) (t : VehicleType) (visits : List Visit) (i j : ℕ) (order : i < j) (inside : j ≤ length visits) where
  here : i < length visits
  here = omega arith

  abbrev first : Visit
  first = get_or visits i (Client 0)

  abbrev rest : List Visit
  rest = slice_range visits (i + 1) j

  cut : slice_range visits i j ≡ first ∷ rest
  cut = slice-before visits i j (Client 0) order here

  -- from the first visit to the last
  abbrev pub inside_run : (ℕ → ℕ → ℕ) → ℕ
  inside_run leg = pause leg first + path leg (place_of first) rest

  -- the leg to the first visit comes before it
  pub path-from_first : (leg : ℕ → ℕ → ℕ) (from : ℕ) → path leg from (slice_range visits i j) ≡ leg from (place_along t visits (i + 1)) + inside_run leg
  path-from_first leg from = ap (path leg from) cut ∙ ap (λ (place : ℕ). leg from place + inside_run leg) (sym (along-visit t visits i (Client 0) here))

  -- and it ends at the last visit
  pub ends-at_last : (from : ℕ) → path_end from (slice_range visits i j) ≡ place_along t visits j
  ends-at_last from = ap (path_end from) cut ∙ (sym (ap (path_end (place_along t visits i)) cut) ∙ end-between p t visits i j (omega arith) inside)

  -- of a route's own way over it, what is left without the first leg; by its own profile it is the way from anywhere
  module _ (along first_leg : ℕ) (is_along : along ≡ path (leg_distance p t.profile) (place_along t visits i) (slice_range visits i j))
      (is_leg : first_leg ≡ leg_distance p t.profile (place_along t visits i) (place_along t visits (i + 1))) where
    own_way : along ≡ first_leg + inside_run (leg_distance p t.profile)
    own_way = let way = path-from_first (leg_distance p t.profile) (place_along t visits i) in omega arith

    pub leg-first : first_leg ≤ along
    leg-first = omega (arith, own_way)

    pub inside-own : (profile : ℕ) → t.profile ≡ profile → (from : ℕ) → leg_distance p profile from (place_along t visits (i + 1)) + (along - first_leg) ≤ path (leg_distance p profile) from (slice_range visits i j)
    inside-own profile same from =
        let way = path-from_first (leg_distance p profile) from in
        let inner : inside_run (leg_distance p t.profile) ≡ inside_run (leg_distance p profile) = ap (λ (n : ℕ). inside_run (leg_distance p n)) same in
        omega (arith, own_way, way, inner)

-- over some visits of its own, and on to the place behind them
pub through-own : (p : Problem) (t : VehicleType) (visits : List Visit) (i j : ℕ) → i ≤ j → j ≤ length visits →
    through (leg_distance p t.profile) (place_along t visits i) (slice_range visits i j) (place_along t visits (j + 1))
    ≡ path (leg_distance p t.profile) (place_along t visits i) (slice_range visits i j) + leg_distance p t.profile (place_along t visits j) (place_along t visits (j + 1))
through-own p t visits i j order inside =
    ap (λ (place : ℕ). path (leg_distance p t.profile) (place_along t visits i) (slice_range visits i j) + leg_distance p t.profile place (place_along t visits (j + 1))) (end-between p t visits i j order inside)

-- ways one after the other
module _ (p : Problem) (profile : ℕ) where
  abbrev leg : ℕ → ℕ → ℕ
  leg = leg_distance p profile

  ends-both : (xs ys : List Visit) (a b c : Way) → GoesOn p profile xs a b → GoesOn p profile ys b c → c.place ≡ path_end a.place (xs ++ ys)
  ends-both xs ys a b c first second =
      second.ends ∙ (ap (λ (place : ℕ). path_end place ys) first.ends ∙ sym (path_end-append leg a.place xs ys))

  least-both : (xs ys : List Visit) (a b c : Way) → GoesOn p profile xs a b → GoesOn p profile ys b c → c.far ≤ a.far + path leg a.place (xs ++ ys)
  least-both xs ys a b c first second =
      let sum = path-append leg a.place xs ys in
      let same : path leg b.place ys ≡ path leg (path_end a.place xs) ys = ap (λ (place : ℕ). path leg place ys) first.ends in
      let near = first.least in
      let far = second.least in
      omega arith

  -- three runs, and the leg behind them
  pub way-three : (xs ys zs : List Visit) (a b c d : Way) (to : ℕ) → a.far ≡ 0 → GoesOn p profile xs a b → GoesOn p profile ys b c → GoesOn p profile zs c d →
      d.far + leg d.place to ≤ through leg a.place (xs ++ (ys ++ zs)) to
  way-three xs ys zs a b c d to none one two three =
      let ends : d.place ≡ path_end a.place (xs ++ (ys ++ zs)) =
      ends-both ys zs b c d two three ∙ (ap (λ (place : ℕ). path_end place (ys ++ zs)) one.ends ∙ sym (path_end-append leg a.place xs (ys ++ zs))) in
      let last : leg d.place to ≡ leg (path_end a.place (xs ++ (ys ++ zs))) to = ap (λ (place : ℕ). leg place to) ends in
      let sum = path-append leg a.place xs (ys ++ zs) in
      let same : path leg b.place (ys ++ zs) ≡ path leg (path_end a.place xs) (ys ++ zs) = ap (λ (place : ℕ). path leg place (ys ++ zs)) one.ends in
      let near = one.least in
      let far = least-both ys zs b c d two three in
      omega arith

-- the same by a vehicle's own places and profile
pub way-total : (p other : Problem) (profile : ℕ) (t : VehicleType) (visits : List Visit) (layout : Layout) (xs ys zs : List Visit) (a b c d : Way) (to last : ℕ) →
    other ≡ p → profile ≡ t.profile → a.place ≡ place_along t visits layout.left → to ≡ place_along t visits (layout.right + 1) → a.far ≡ 0 → last ≡ leg_distance p profile d.place to →
    GoesOn other profile xs a b → GoesOn other profile ys b c → GoesOn other profile zs c d → d.far + last ≤ way_by p t visits layout (xs ++ (ys ++ zs))
way-total p other profile t visits layout xs ys zs a b c d to last same own from behind none is_last one two three =
    let least = way-three other profile xs ys zs a b c d to none one two three in
    let way : through (leg_distance other profile) a.place (xs ++ (ys ++ zs)) to ≡ way_by p t visits layout (xs ++ (ys ++ zs)) = (λ i. through (leg_distance (same i) (own i)) (from i) (xs ++ (ys ++ zs)) (behind i)) in
    let leg : leg_distance other profile d.place to ≡ leg_distance p profile d.place to = ap (λ (q : Problem). leg_distance q profile d.place to) same in
    omega (arith, least, way, leg, is_last)
