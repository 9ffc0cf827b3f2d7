-- Marks, one position after the other.
use Rattle.std.proofs.Common.{◌≡◌, ℕ, zero, suc, ◌+◌, ◌*◌, ◌<◌, ◌≤◌, Bool, true, false, List, [], ◌∷◌, ◌++◌, length, get_or, refl, ◌∙◌, ap, sym, subst, arith, add-one, slice_range, nat_lt, ◌⊎◌, inl, inr, length-append, if◌then◌else◌, sum_by}
use Rattle.std.specs.Prelude.{ℤ, pos, ◌+ℤ◌}
use Rattle.std.proofs.lemmas.Bool.Decides.{nat_tests}
use Rattle.std.proofs.lemmas.Int.{ints}
use Rattle.std.proofs.lemmas.List.{get_or_append_left, get_or_push}
use Rattle.problem_data.specs.declared.problem.Problem.{Problem}
use Rattle.problem_data.specs.declared.problem.VehicleType.{VehicleType}
use Rattle.problem_data.specs.declared.visit.Visit.{Visit}
use Rattle.problem_data.specs.declared.visit.Visit.TheVariants.{Client}
use Rattle.problem_data.specs.Limits.{largest, largest_leg, most_visits}
use Rattle.problem_data.specs.Places.{client_at, leg_distance, leg_duration}
use Rattle.problem_data.specs.Valid.{IsValid, IsValidType}
use Rattle.problem_data.specs.Visits.{place_of}
use Rattle.routing_model.specs.Cost.{distance, length_of}
use Rattle.routing_model.specs.Listed.{IsListed}
use Rattle.routing_model.specs.Routes.{clients_of}
use Rattle.routing_model.specs.Stops.{stops}
use Rattle.segments.specs.Totals.{IsTotal, largest_total}
use Rattle.trips.specs.declared.run_segment.RunSegment.{RunSegment}
use Rattle.trips.specs.RunSegments.{HoldsRun, prizes_of, run_before}
use Rattle.trips.specs.Laws.{IsInRange}
use Rattle.trips.specs.Runs.{run_stops, whole}
use Rattle.trips.proofs.Quantities.{distance-short, valid_client_at}
use Rattle.trips.proofs.RunCounts.{run-in_range}
use Rattle.trips.proofs.RunJoins.{length-run_in_range}
use Rattle.trips.proofs.RunPlaces.{same_length}
use Rattle.route_cache.specs.declared.mark.Mark.{Mark}
use Rattle.route_cache.specs.inside.Passes.{IsMarked}
use Rattle.route_cache.specs.inside.Shapes.{reload_of}
use Rattle.route_cache.specs.inside.Tables.{IsBegun}
use Rattle.route_cache.specs.Marks.{AreMarks, IsMark, IsSmallMark, deliveries_of, leg_over, leg_to, pickups_of, place_along, reloads_in, run_to}
use Rattle.route_cache.proofs.Alongs.{along-end, along-visit}
use Rattle.route_cache.proofs.Counting.{amounts-bound, amounts-more, length-slice, reloads-bound, reloads-more}
use Rattle.route_cache.proofs.Slices.{slice-all}
use Rattle.route_cache.proofs.Tables.{each-more}

-- no mark
abbrev pub no_mark : Mark
no_mark = record { distance = pos 0; delivery = pos 0; pickup = pos 0; prize = pos 0; place = 0; reloads = 0; leg = 0; over = 0 }

-- the start with so many visits isn't empty
pub begun-start : (k : ℕ) → IsBegun true 0 k
begun-start k = record { at_start = λ e. refl; some = λ e. absurd (true-not_false e) }
  where
    true-not_false : true ≡ false → ⊥
    true-not_false e = cc

-- the leg to a position, and the one past it
pub leg-next : (p : Problem) (t : VehicleType) (visits : List Visit) (k : ℕ) → leg_distance p t.profile (place_along t visits k) (place_along t visits (k + 1)) ≡ leg_to p t visits (k + 1)
leg-next p t visits k = sym (ap (leg_to p t visits) (add-one k))

pub over-next : (p : Problem) (t : VehicleType) (visits : List Visit) (k : ℕ) → k < length visits →
    leg_distance p t.profile (place_along t visits k) (place_along t visits (k + 2)) ≡ leg_over p t visits (k + 1)
over-next p t visits k h =
    let yes : nat_lt k (length visits) ≡ true = grind (arith, nat_tests) in
    let past = leg_distance p t.profile (place_along t visits k) (place_along t visits (k + 2)) in
    sym (ap (leg_over p t visits) (add-one k) ∙ ap (λ (b : Bool). if b then past else 0) yes)

over-end : (p : Problem) (t : VehicleType) (visits : List Visit) → 0 ≡ leg_over p t visits (length visits + 1)
over-end p t visits =
    let n = length visits in
    let no : nat_lt n n ≡ false = grind (arith, nat_tests) in
    let past = leg_distance p t.profile (place_along t visits n) (place_along t visits (n + 2)) in
    sym (ap (leg_over p t visits) (add-one n) ∙ ap (λ (b : Bool). if b then past else 0) no)

-- up to a visit, the end isn't reached
pub not-ended : (n k : ℕ) → k ≤ n → false ≡ nat_lt n k
not-ended n k h = grind (arith, nat_tests)

-- the start
pub mark-start : (p : Problem) (t : VehicleType) (visits : List Visit) (mark : Mark) → mark ≡ record { distance = pos 0; delivery = pos 0; pickup = pos 0; prize = pos 0; place = t.start; reloads = 0; leg = 0; over = 0 } →
    IsMark p t visits 0 mark
mark-start p t visits mark e = subst (IsMark p t visits 0) (sym e) (record {
  distance = ap (λ (b : Bool). pos (length_of (leg_distance p t.profile) (run_stops p t (record { starts = true; visits = []; ends = b })))) (not-ended (length visits) 0 (omega arith));
  delivery = refl;
  pickup = refl;
  prize = refl;
  place = refl;
  reloads = refl;
  leg = refl;
  over = refl;
})

-- what a visit adds to a sum
pub sum-next : (f : ℕ → ℕ) (visits : List Visit) (k : ℕ) (old new : ℤ) (more : ℕ) → k < length visits → old ≡ pos (sum_by f (clients_of (slice_range visits 0 k))) →
    more ≡ sum_by f (clients_of (get_or visits k (Client 0) ∷ [])) → new ≡ old +ℤ pos more → new ≡ pos (sum_by f (clients_of (slice_range visits 0 (k + 1))))
sum-next f visits k old new more here is_old is_more is_new =
    let e = amounts-more f visits k (Client 0) here in
    added old new more _ _ _ is_old is_more is_new e
  where
    added : (old new : ℤ) (more a b c : ℕ) → old ≡ pos a → more ≡ b → new ≡ old +ℤ pos more → c ≡ a + b → new ≡ pos c
    added old new more a b c e f g h = omega (arith, ints)

-- a visit
pub mark-visit : (p : Problem) (t : VehicleType) (visits : List Visit) (k : ℕ) (last new : Mark) (so_far : RunSegment) → k < length visits → IsMark p t visits k last → HoldsRun p t so_far (run_before visits (k + 1)) →
    new.distance ≡ so_far.distance.distance → new.delivery ≡ pos (deliveries_of p (slice_range visits 0 (k + 1))) → new.pickup ≡ pos (pickups_of p (slice_range visits 0 (k + 1))) →
    new.prize ≡ pos so_far.prizes → new.place ≡ place_of (get_or visits k (Client 0)) → new.reloads ≡ last.reloads + reload_of (get_or visits k (Client 0)) →
    new.leg ≡ leg_to p t visits (k + 1) → new.over ≡ leg_over p t visits (k + 1) → IsMark p t visits (k + 1) new
mark-visit p t visits k last new so_far here mark holds is_distance is_delivery is_pickup is_prize is_place is_reloads is_leg is_over = record {
  distance = is_distance ∙ holds.distance.distance
      ∙ ap (λ (b : Bool). pos (length_of (leg_distance p t.profile) (run_stops p t (record { starts = true; visits = slice_range visits 0 (k + 1); ends = b })))) (not-ended (length visits) (k + 1) (omega arith));
  delivery = is_delivery;
  pickup = is_pickup;
  prize = is_prize ∙ ap (λ (n : ℕ). pos n) holds.prizes;
  place = is_place ∙ sym (along-visit t visits k (Client 0) here);
  reloads = let e = reloads-more visits k (Client 0) here in counted _ _ _ _ is_reloads mark.reloads e;
  leg = is_leg;
  over = is_over;
}
  where
    counted : (new last more all : ℕ) → {was : ℕ} → new ≡ last + more → last ≡ was → all ≡ was + more → new ≡ all
    counted new last more all e f g = omega arith

-- the end
pub mark-end : (p : Problem) (t : VehicleType) (visits : List Visit) (last new : Mark) → IsMark p t visits (length visits) last → new.distance ≡ pos (distance p t visits) →
    new.delivery ≡ last.delivery → new.pickup ≡ last.pickup → new.prize ≡ last.prize → new.place ≡ t.end → new.reloads ≡ last.reloads → new.leg ≡ leg_to p t visits (length visits + 1) → new.over ≡ 0 →
    IsMark p t visits (length visits + 1) new
mark-end p t visits last new mark is_distance is_delivery is_pickup is_prize is_place is_reloads is_leg is_over =
    let n = length visits in
    let all : slice_range visits 0 n ≡ slice_range visits 0 (n + 1) = slice-all visits n (omega arith) ∙ sym (slice-all visits (n + 1) (omega arith)) in
    let yes : true ≡ nat_lt n (n + 1) = grind (arith, nat_tests) in
    record {
      distance = is_distance
          ∙ ap (λ (n : ℕ). pos n) (same_length (leg_distance p t.profile) (stops p t visits) (run_stops p t (whole visits)) refl)
          ∙ (λ i. pos (length_of (leg_distance p t.profile) (run_stops p t (record { starts = true; visits = sym (slice-all visits (n + 1) (omega arith)) i; ends = yes i }))));
      delivery = is_delivery ∙ mark.delivery ∙ ap (λ (xs : List Visit). pos (deliveries_of p xs)) all;
      pickup = is_pickup ∙ mark.pickup ∙ ap (λ (xs : List Visit). pos (pickups_of p xs)) all;
      prize = is_prize ∙ mark.prize ∙ ap (λ (xs : List Visit). pos (prizes_of p xs)) all;
      place = is_place ∙ sym (along-end t visits);
      reloads = is_reloads ∙ mark.reloads ∙ ap reloads_in all;
      leg = is_leg;
      over = is_over ∙ over-end p t visits;
    }

-- marks are small
pub total-of : (x : ℤ) (n : ℕ) → x ≡ pos n → n ≤ largest_total → IsTotal x
total-of x n e h = record { from_0 = omega (arith, ints); to_largest = omega (arith, ints) }

leg-short : (p : Problem) (t : VehicleType) (visits : List Visit) (i : ℕ) → IsValid p → IsValidType p t → leg_to p t visits i ≤ largest_leg
leg-short p t visits zero valid allowed = omega arith
leg-short p t visits (suc i) valid allowed = distance-short p t (place_along t visits i) (place_along t visits (i + 1)) valid allowed

over-short : (p : Problem) (t : VehicleType) (visits : List Visit) (i : ℕ) → IsValid p → IsValidType p t → leg_over p t visits i ≤ largest_leg
over-short p t visits zero valid allowed = omega arith
over-short p t visits (suc i) valid allowed =
    or_none (nat_lt i (length visits)) _ (distance-short p t (place_along t visits i) (place_along t visits (i + 2)) valid allowed)
  where
    or_none : (b : Bool) (n : ℕ) → n ≤ largest_leg → (if b then n else 0) ≤ largest_leg
    or_none true n h = h
    or_none false n h = omega arith

pub deliveries-few : (p : Problem) (visits : List Visit) (i : ℕ) → IsValid p → IsListed p visits → deliveries_of p (slice_range visits 0 i) ≤ most_visits * largest
deliveries-few p visits i valid listed =
    let n = length-slice visits i in
    let few = listed.few in
    let sum = amounts-bound (λ place. (client_at p place).delivery) (λ place. (valid_client_at p place valid).delivery) (slice_range visits 0 i) in
    omega arith

pub pickups-few : (p : Problem) (visits : List Visit) (i : ℕ) → IsValid p → IsListed p visits → pickups_of p (slice_range visits 0 i) ≤ most_visits * largest
pickups-few p visits i valid listed =
    let n = length-slice visits i in
    let few = listed.few in
    let sum = amounts-bound (λ place. (client_at p place).pickup) (λ place. (valid_client_at p place valid).pickup) (slice_range visits 0 i) in
    omega arith

pub prizes-few : (p : Problem) (visits : List Visit) (i : ℕ) → IsValid p → IsListed p visits → prizes_of p (slice_range visits 0 i) ≤ most_visits * largest
prizes-few p visits i valid listed =
    let n = length-slice visits i in
    let few = listed.few in
    let sum = amounts-bound (λ place. (client_at p place).prize) (λ place. (valid_client_at p place valid).prize) (slice_range visits 0 i) in
    omega arith

pub distance-few : (p : Problem) (t : VehicleType) (visits : List Visit) → IsValid p → IsValidType p t → IsListed p visits → distance p t visits ≤ largest_total
distance-few p t visits valid allowed listed =
    let e = same_length (leg_distance p t.profile) (stops p t visits) (run_stops p t (whole visits)) refl in
    let run = subst (λ (xs : List Visit). IsInRange p t (whole xs)) (slice-all visits (length visits) (omega arith)) (run-in_range p t visits true 0 (length visits) true valid allowed listed) in
    let driven = length-run_in_range p t (whole visits) run in
    omega arith

pub mark-small : (p : Problem) (t : VehicleType) (visits : List Visit) (i : ℕ) (mark : Mark) → IsValid p → IsValidType p t → IsListed p visits → IsMark p t visits i mark → IsSmallMark mark
mark-small p t visits i mark valid allowed listed is =
    let n = length-slice visits i in
    let few = listed.few in
    let run = run-in_range p t visits true 0 i (nat_lt (length visits) i) valid allowed listed in
    let driven = length-run_in_range p t (run_to visits i) run in
    let deliveries = deliveries-few p visits i valid listed in
    let pickups = pickups-few p visits i valid listed in
    let prizes = prizes-few p visits i valid listed in
    let reloads = reloads-bound (slice_range visits 0 i) in
    record {
      distance = total-of mark.distance _ is.distance (omega (arith, driven));
      delivery = total-of mark.delivery _ is.delivery (omega (arith, deliveries));
      pickup = total-of mark.pickup _ is.pickup (omega (arith, pickups));
      prize = total-of mark.prize _ is.prize (omega (arith, prizes));
      reloads = omega (arith, is.reloads);
      leg = subst (λ (n : ℕ). n ≤ largest_leg) (sym is.leg) (leg-short p t visits i valid allowed);
      over = subst (λ (n : ℕ). n ≤ largest_leg) (sym is.over) (over-short p t visits i valid allowed);
    }

pub marks-all : (p : Problem) (t : VehicleType) (visits : List Visit) (marks : List Mark) (durations : List ℕ) → IsValid p → IsValidType p t → IsListed p visits →
    IsMarked p t visits (length visits + 1) marks durations → AreMarks p t visits marks
marks-all p t visits marks durations valid allowed listed marked = record {
  count = let e = marked.count in omega arith;
  each = marked.each;
  each_small = λ i none h. mark-small p t visits i (get_or marks i none) valid allowed listed (marked.each i none h);
}

-- the start is marked
pub marked-start : (p : Problem) (t : VehicleType) (visits : List Visit) (marks : List Mark) (durations : List ℕ) (mark : Mark) → IsMark p t visits 0 mark → marks ≡ mark ∷ [] → durations ≡ 0 ∷ [] →
    IsMarked p t visits 0 marks durations
marked-start p t visits marks durations mark is is_marks is_durations =
    subst (λ (ms : List Mark). IsMarked p t visits 0 ms durations) (sym is_marks)
    (subst (IsMarked p t visits 0 (mark ∷ [])) (sym is_durations) (record {
      count = refl;
      count_durations = refl;
      each = λ i none h. let e : 0 ≡ i = omega arith in subst (λ (i : ℕ). IsMark p t visits i (get_or (mark ∷ []) i none)) e is;
      each_duration = λ i none h. absurd (omega (arith, h));
    }))

-- one position more is marked
pub marked-more : (p : Problem) (t : VehicleType) (visits : List Visit) (k : ℕ) (marks now : List Mark) (durations later : List ℕ) (mark : Mark) (duration : ℕ) → IsMarked p t visits k marks durations →
    IsMark p t visits (k + 1) mark → duration ≡ leg_duration p t.profile (place_along t visits k) (place_along t visits (k + 1)) → now ≡ marks ++ mark ∷ [] → later ≡ durations ++ duration ∷ [] →
    IsMarked p t visits (k + 1) now later
marked-more p t visits k marks now durations later mark duration marked is is_duration is_now is_later =
    subst (λ (ms : List Mark). IsMarked p t visits (k + 1) ms later) (sym is_now)
    (subst (IsMarked p t visits (k + 1) (marks ++ mark ∷ [])) (sym is_later) (record {
      count = length-append marks (mark ∷ []) ∙ ap (λ (n : ℕ). n + 1) marked.count;
      count_durations = length-append durations (duration ∷ []) ∙ ap (λ (n : ℕ). n + 1) marked.count_durations;
      each = each-more (IsMark p t visits) marks mark k marked.count marked.each is;
      each_duration = λ i none h.
          elim (earlier_or_last i k h) [
            | inl early ↦ get_or_append_left durations (duration ∷ []) none (i + 1) (omega (arith, marked.count_durations)) ∙ marked.each_duration i none early
            | inr last ↦ subst (λ (i : ℕ). get_or (durations ++ duration ∷ []) (i + 1) none ≡ leg_duration p t.profile (place_along t visits i) (place_along t visits (i + 1))) (sym last)
                (get_or_push durations duration none (k + 1) marked.count_durations ∙ is_duration)
          ];
    }))
  where
    earlier_or_last : (i k : ℕ) → i + 1 ≤ k + 1 → (i + 1 ≤ k) ⊎ (i ≡ k)
    earlier_or_last i k h = grind arith

-- a mark that is read
pub mark-read : (p : Problem) (t : VehicleType) (visits : List Visit) (marks : List Mark) (durations : List ℕ) (k i : ℕ) (mark : Mark) → IsMarked p t visits k marks durations → i ≤ k → mark ≡ get_or marks i mark →
    IsMark p t visits i mark
mark-read p t visits marks durations k i mark marked h e = subst (IsMark p t visits i) (sym e) (marked.each i mark h)

-- the leg behind a visit
pub distance-ahead : (p : Problem) (t : VehicleType) (visits : List Visit) (marks : List Mark) (durations : List ℕ) (k i : ℕ) (none : Mark) → IsMarked p t visits k marks durations → i + 2 ≤ k →
    (get_or marks (i + 2) none).leg ≡ leg_distance p t.profile (place_along t visits (i + 1)) (place_along t visits (i + 2))
distance-ahead p t visits marks durations k i none marked h =
    let e : i + 2 ≡ i + 1 + 1 = omega arith in
    (marked.each (i + 2) none h).leg ∙ ap (leg_to p t visits) e ∙ sym (leg-next p t visits (i + 1))
    ∙ ap (λ (n : ℕ). leg_distance p t.profile (place_along t visits (i + 1)) (place_along t visits n)) (sym e)

pub duration-ahead : (p : Problem) (t : VehicleType) (visits : List Visit) (marks : List Mark) (durations : List ℕ) (k i none : ℕ) → IsMarked p t visits k marks durations → i + 2 ≤ k →
    get_or durations (i + 2) none ≡ leg_duration p t.profile (place_along t visits (i + 1)) (place_along t visits (i + 2))
duration-ahead p t visits marks durations k i none marked h =
    let e : i + 1 + 1 ≡ i + 2 = omega arith in
    subst (λ (n : ℕ). get_or durations n none ≡ leg_duration p t.profile (place_along t visits (i + 1)) (place_along t visits n)) e
    (marked.each_duration (i + 1) none (omega arith))

-- the leg to a visit
pub distance-to : (p : Problem) (t : VehicleType) (visits : List Visit) (marks : List Mark) (durations : List ℕ) (k i : ℕ) (none : Mark) → IsMarked p t visits k marks durations → i + 1 ≤ k →
    (get_or marks (i + 1) none).leg ≡ leg_distance p t.profile (place_along t visits i) (place_along t visits (i + 1))
distance-to p t visits marks durations k i none marked h = (marked.each (i + 1) none h).leg ∙ sym (leg-next p t visits i)
