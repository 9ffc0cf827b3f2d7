-- The distance of a list in which a run is replaced, and the sums of its clients, from the marks of the lists that its parts are
-- taken from.
use Rattle.std.proofs.Common.{◌≡◌, ℕ, zero, suc, ◌+◌, ◌<◌, ◌≤◌, Bool, true, List, [], ◌∷◌, ◌++◌, length, get_or, refl, sym, ◌∙◌, ap, arith, add-one, slice_range, sum_by, ℤ, pos, ◌-ℤ◌, ◌+ℤ◌, ◌⊎◌, inl, inr}
use Rattle.std.proofs.lemmas.Int.{ints}
use Rattle.problem_data.specs.declared.problem.Problem.{Problem}
use Rattle.problem_data.specs.declared.problem.VehicleType.{VehicleType}
use Rattle.problem_data.specs.declared.visit.Visit.{Visit}
use Rattle.problem_data.specs.declared.visit.Visit.TheVariants.{Client}
use Rattle.problem_data.specs.Places.{client_at, leg_distance}
use Rattle.routing_model.specs.Cost.{distance, length_of}
use Rattle.routing_model.specs.Routes.{clients_of}
use Rattle.routing_model.proofs.Paths.{distance-replaced, path, path-append, path_end, path_end-append, path_start, stops-path, through}
use Rattle.trips.specs.Runs.{run_stops, start_stop}
use Rattle.route_cache.specs.declared.mark.Mark.{Mark}
use Rattle.route_cache.specs.Marks.{AreMarks, IsMark, deliveries_of, leg_to, pickups_of, place_along, reloads_in}
use Rattle.route_cache.proofs.Alongs.{along-end, along-visit}
use Rattle.route_cache.proofs.Counting.{amounts-append, amounts-split, reloads-append, reloads-split}
use Rattle.route_cache.proofs.MarkFacts.{not-ended}
use Rattle.route_cache.proofs.Slices.{slice-all, slice-before, slice-more, slice-none, slice-split}

before_or_end : (m n : ℕ) → m ≤ n → (m < n) ⊎ (m ≡ n)
before_or_end m n h = grind arith

module _ (p : Problem) (t : VehicleType) (visits : List Visit) where
  abbrev leg : ℕ → ℕ → ℕ
  leg = leg_distance p t.profile

  -- a path along the first visits ends at the position's place
  pub end-along : (k : ℕ) → k ≤ length visits → path_end t.start (slice_range visits 0 k) ≡ place_along t visits k
  end-along zero h = refl
  end-along (suc k) h =
      let here : k < length visits = omega arith in
      ap (λ (n : ℕ). path_end t.start (slice_range visits 0 n)) (sym (add-one k))
      ∙ (ap (path_end t.start) (slice-more visits 0 k (Client 0) (omega arith) here)
      ∙ (path_end-append leg t.start (slice_range visits 0 k) (get_or visits k (Client 0) ∷ [])
      ∙ (sym (along-visit t visits k (Client 0) here) ∙ ap (place_along t visits) (add-one k))))

  -- and one along some visits from a position on ends at the place of the last of them
  pub end-between : (k m : ℕ) → k ≤ m → m ≤ length visits → path_end (place_along t visits k) (slice_range visits k m) ≡ place_along t visits m
  end-between k m order inside =
      ap (λ (from : ℕ). path_end from (slice_range visits k m)) (sym (end-along k (omega arith)))
      ∙ (sym (path_end-append leg t.start (slice_range visits 0 k) (slice_range visits k m))
      ∙ (ap (path_end t.start) (sym (slice-split visits 0 k m (omega arith) order)) ∙ end-along m inside))

  -- what comes from a position on begins at the place behind it
  pub start-along : (m : ℕ) → m ≤ length visits → path_start (slice_range visits m (length visits)) t.end ≡ place_along t visits (m + 1)
  start-along m inside = by (before_or_end m (length visits) inside)
    where
      by : ((m < length visits) ⊎ (m ≡ length visits)) → path_start (slice_range visits m (length visits)) t.end ≡ place_along t visits (m + 1)
      by (inl here) =
          ap (λ (xs : List Visit). path_start xs t.end) (slice-before visits m (length visits) (Client 0) here here)
          ∙ sym (along-visit t visits m (Client 0) here)
      by (inr last) =
          ap (λ (n : ℕ). path_start (slice_range visits n (length visits)) t.end) last
          ∙ (ap (λ (xs : List Visit). path_start xs t.end) (slice-none visits (length visits))
          ∙ (sym (along-end t visits) ∙ ap (λ (n : ℕ). place_along t visits (n + 1)) (sym last)))

  -- the distance with another run in the place of the visits from k up to m
  pub distance-with : (k m : ℕ) (run : List Visit) → k ≤ m → m ≤ length visits →
      distance p t (slice_range visits 0 k ++ (run ++ slice_range visits m (length visits))) + through leg (place_along t visits k) (slice_range visits k m) (place_along t visits (m + 1))
      ≡ distance p t visits + through leg (place_along t visits k) run (place_along t visits (m + 1))
  distance-with k m run order inside =
      let before : List Visit = slice_range visits 0 k in
      let old : List Visit = slice_range visits k m in
      let behind : List Visit = slice_range visits m (length visits) in
      let from : path_end t.start before ≡ place_along t visits k = end-along k (omega arith) in
      let to : path_start behind t.end ≡ place_along t visits (m + 1) = start-along m inside in
      let whole : before ++ (old ++ behind) ≡ visits =
      ap (λ (xs : List Visit). before ++ xs) (sym (slice-split visits k m (length visits) order inside)) ∙ (sym (slice-split visits 0 k (length visits) (omega arith) (omega arith)) ∙ all) in
      let change = distance-replaced p t before old run behind in
      let a : through leg (path_end t.start before) old (path_start behind t.end) ≡ through leg (place_along t visits k) old (place_along t visits (m + 1)) =
      (λ i. through leg (from i) old (to i)) in
      let b : through leg (path_end t.start before) run (path_start behind t.end) ≡ through leg (place_along t visits k) run (place_along t visits (m + 1)) =
      (λ i. through leg (from i) run (to i)) in
      let c : distance p t (before ++ (old ++ behind)) ≡ distance p t visits = ap (distance p t) whole in
      by (distance p t (before ++ (run ++ behind))) (through leg (path_end t.start before) old (path_start behind t.end)) (distance p t (before ++ (old ++ behind)))
      (through leg (path_end t.start before) run (path_start behind t.end)) change a b c
    where
      all : slice_range visits 0 (length visits) ≡ visits
      all = slice-all visits (length visits) (omega arith)

      by : (x o y n : ℕ) → {o' n' y' : ℕ} → x + o ≡ y + n → o ≡ o' → n ≡ n' → y ≡ y' → x + o' ≡ y' + n'
      by x o y n e f g h = omega arith

  -- what the marks tell
  module _ (marks : List Mark) (are : AreMarks p t visits marks) (none : Mark) where
    abbrev mark_at : ℕ → Mark
    mark_at i = get_or marks i none

    marked : (i : ℕ) → i ≤ length visits + 1 → IsMark p t visits i (mark_at i)
    marked i h = are.each i none h

    -- the distance up to a visit
    pub mark-path : (i : ℕ) → i ≤ length visits → (mark_at i).distance ≡ pos (path leg t.start (slice_range visits 0 i))
    mark-path i h =
        (marked i (omega arith)).distance
        ∙ (ap (λ (b : Bool). pos (length_of leg (run_stops p t (record { starts = true; visits = slice_range visits 0 i; ends = b })))) (sym (not-ended (length visits) i h))
        ∙ ap (λ (n : ℕ). pos n) (stops-path leg p (start_stop p t) (slice_range visits 0 i)))

    -- from a position over the visits up to another one
    pub between-path : (i j : ℕ) → i ≤ j → j ≤ length visits → (mark_at j).distance -ℤ (mark_at i).distance ≡ pos (path leg (place_along t visits i) (slice_range visits i j))
    between-path i j order inside =
        let first = mark-path i (omega arith) in
        let last = mark-path j inside in
        let whole : path leg t.start (slice_range visits 0 j) ≡ path leg t.start (slice_range visits 0 i) + path leg (place_along t visits i) (slice_range visits i j) =
        ap (path leg t.start) (slice-split visits 0 i j (omega arith) order)
        ∙ (path-append leg t.start (slice_range visits 0 i) (slice_range visits i j)
        ∙ ap (λ (from : ℕ). path leg t.start (slice_range visits 0 i) + path leg from (slice_range visits i j)) (end-along i (omega arith))) in
        by (mark_at i).distance (mark_at j).distance (path leg t.start (slice_range visits 0 i)) (path leg t.start (slice_range visits 0 j)) (path leg (place_along t visits i) (slice_range visits i j)) first last whole
      where
        by : (x y : ℤ) (a b c : ℕ) → x ≡ pos a → y ≡ pos b → b ≡ a + c → y -ℤ x ≡ pos c
        by x y a b c e f g = omega (arith, ints)

    -- the leg behind a position
    pub mark-leg : (m : ℕ) → m ≤ length visits → (mark_at (m + 1)).leg ≡ leg (place_along t visits m) (place_along t visits (m + 1))
    mark-leg m h = (marked (m + 1) (omega arith)).leg ∙ ap (leg_to p t visits) (add-one m) ∙ ap (λ (n : ℕ). leg (place_along t visits m) (place_along t visits n)) refl

    -- from a position over the visits up to another one, and on to the place behind
    pub between-through : (i j : ℕ) → i ≤ j → j ≤ length visits →
        pos (through leg (place_along t visits i) (slice_range visits i j) (place_along t visits (j + 1))) ≡ ((mark_at j).distance -ℤ (mark_at i).distance) +ℤ pos (mark_at (j + 1)).leg
    between-through i j order inside =
        let along = between-path i j order inside in
        let next = mark-leg j inside in
        let last : leg (path_end (place_along t visits i) (slice_range visits i j)) (place_along t visits (j + 1)) ≡ leg (place_along t visits j) (place_along t visits (j + 1)) =
        ap (λ (from : ℕ). leg from (place_along t visits (j + 1))) (end-between i j order inside) in
        by ((mark_at j).distance -ℤ (mark_at i).distance) (path leg (place_along t visits i) (slice_range visits i j)) (leg (path_end (place_along t visits i) (slice_range visits i j)) (place_along t visits (j + 1)))
        (leg (place_along t visits j) (place_along t visits (j + 1))) (mark_at (j + 1)).leg along last next
      where
        by : (z : ℤ) (a b c m : ℕ) → z ≡ pos a → b ≡ c → m ≡ c → pos (a + b) ≡ z +ℤ pos m
        by z a b c m e f g = omega (arith, ints)

    -- the deliveries, the pickups and the reloads of some visits
    pub between-delivery : (i j : ℕ) → i ≤ j → j ≤ length visits → (mark_at j).delivery -ℤ (mark_at i).delivery ≡ pos (deliveries_of p (slice_range visits i j))
    between-delivery i j order inside =
        let whole = amounts-split (λ place. (client_at p place).delivery) visits 0 i j (omega arith) order in
        differ (mark_at i).delivery (mark_at j).delivery _ _ _ (marked i (omega arith)).delivery (marked j (omega arith)).delivery whole
      where
        differ : (x y : ℤ) (a b c : ℕ) → x ≡ pos a → y ≡ pos b → b ≡ a + c → y -ℤ x ≡ pos c
        differ x y a b c e f g = omega (arith, ints)

    pub between-pickup : (i j : ℕ) → i ≤ j → j ≤ length visits → (mark_at j).pickup -ℤ (mark_at i).pickup ≡ pos (pickups_of p (slice_range visits i j))
    between-pickup i j order inside =
        let whole = amounts-split (λ place. (client_at p place).pickup) visits 0 i j (omega arith) order in
        differ (mark_at i).pickup (mark_at j).pickup _ _ _ (marked i (omega arith)).pickup (marked j (omega arith)).pickup whole
      where
        differ : (x y : ℤ) (a b c : ℕ) → x ≡ pos a → y ≡ pos b → b ≡ a + c → y -ℤ x ≡ pos c
        differ x y a b c e f g = omega (arith, ints)

    pub between-reloads : (i j : ℕ) → i ≤ j → j ≤ length visits → (mark_at j).reloads ≡ (mark_at i).reloads + reloads_in (slice_range visits i j)
    between-reloads i j order inside =
        let whole = reloads-split visits 0 i j (omega arith) order in
        let first = (marked i (omega arith)).reloads in
        let last = (marked j (omega arith)).reloads in
        omega (arith, whole, first, last)

-- The sums with another run in the place of the visits from k up to m.
module _ (visits : List Visit) (k m : ℕ) (run : List Visit) (order : k ≤ m) (inside : m ≤ length visits) where
  abbrev replaced : List Visit
  replaced = slice_range visits 0 k ++ (run ++ slice_range visits m (length visits))

  pub amounts-with : (f : ℕ → ℕ) → sum_by f (clients_of replaced) + sum_by f (clients_of (slice_range visits k m)) ≡ sum_by f (clients_of visits) + sum_by f (clients_of run)
  amounts-with f =
      let a = amounts-append f (slice_range visits 0 k) (run ++ slice_range visits m (length visits)) in
      let b = amounts-append f run (slice_range visits m (length visits)) in
      let c = amounts-split f visits 0 k (length visits) (omega arith) (omega arith) in
      let d = amounts-split f visits k m (length visits) order inside in
      let e : sum_by f (clients_of (slice_range visits 0 (length visits))) ≡ sum_by f (clients_of visits) = ap (λ (xs : List Visit). sum_by f (clients_of xs)) (slice-all visits (length visits) (omega arith)) in
      omega (arith, a, b, c, d, e)

  pub reloads-with : reloads_in replaced + reloads_in (slice_range visits k m) ≡ reloads_in visits + reloads_in run
  reloads-with =
      let a = reloads-append (slice_range visits 0 k) (run ++ slice_range visits m (length visits)) in
      let b = reloads-append run (slice_range visits m (length visits)) in
      let c = reloads-split visits 0 k (length visits) (omega arith) (omega arith) in
      let d = reloads-split visits k m (length visits) order inside in
      let e : reloads_in (slice_range visits 0 (length visits)) ≡ reloads_in visits = ap reloads_in (slice-all visits (length visits) (omega arith)) in
      omega (arith, a, b, c, d, e)
