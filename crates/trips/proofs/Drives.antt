-- What a drive takes at most.
use Rattle.std.proofs.Common.{◌≡◌, ℕ, suc, ◌+◌, ◌*◌, ◌≤◌, List, [], ◌∷◌, length, ap, arith}
use Rattle.std.specs.Prelude.{All, ℤ, pos, ◌+ℤ◌, ◌-ℤ◌, ◌≤ℤ◌}
use Rattle.std.specs.Int.{int_max}
use Rattle.std.proofs.lemmas.Int.{ints, clamps}
use Rattle.std.proofs.lemmas.List.Elements.{All-head, All-tail}
use Rattle.problem_data.specs.Limits.{largest, largest_leg, most_visits}
use Rattle.routing_model.specs.Clock.{Clock, Stop, best_drive, drive, last_start, passed, served, turned_back, waited, walked}
use Rattle.routing_model.specs.Clock.{Drive as Walk}
use Rattle.routing_model.proofs.BestDrive.{best_drive-is}
use Rattle.routing_model.proofs.Walks.{started}
use Rattle.segments.specs.declared.duration_segment.Drive.{Drive}
use Rattle.segments.specs.declared.duration_segment.DurationSegment.{DurationSegment}
use Rattle.segments.specs.Duration.{IsWithinDuration, Stands}
use Rattle.segments.specs.Totals.{largest_total}
use Rattle.trips.specs.Laws.{most_added}

-- no time of the stop is above the largest
pub record IsTame (stop : Stop) : Type 0 where
  pub gate : stop.gate ≤ largest
  pub early : stop.early ≤ largest
  pub late : stop.late ≤ largest
  pub service : stop.service ≤ largest

-- the clock behind a stop and a leg
pub record IsBehind (before after : Clock) : Type 0 where
  pub time : after.time ≤ most_added
  pub duration : after.duration ≤ before.duration + most_added
  pub warp : after.warp ≤ before.warp + most_added

one_stop : (gate early late service leg time duration warp : ℕ) → gate ≤ largest → early ≤ largest → late ≤ largest → service ≤ largest → leg ≤ largest_leg → time ≤ most_added →
    IsBehind (record { time = time; duration = duration; warp = warp })
    (passed leg (passed service (turned_back late (waited early (waited gate (record { time = time; duration = duration; warp = warp }))))))
one_stop gate early late service leg time duration warp hg he hl hs hleg ht = record { time = omega arith; duration = omega arith; warp = omega arith }

-- what a walk adds at most
pub record IsSlow (n : ℕ) (before after : Clock) : Type 0 where
  pub duration : after.duration ≤ before.duration + n * most_added
  pub warp : after.warp ≤ before.warp + n * most_added

walk-slow : (leg : ℕ → ℕ → ℕ) (stops : List Stop) (c : Clock) → ((from to : ℕ) → leg from to ≤ largest_leg) → All IsTame stops → c.time ≤ most_added →
    IsSlow (length stops) c (walked leg stops c)
walk-slow leg [] c short tame in_time = record { duration = omega arith; warp = omega arith }
walk-slow leg (x ∷ []) c short tame in_time =
    let first = All-head IsTame x [] tame in
    let h = one_stop x.gate x.early x.late x.service 0 c.time c.duration c.warp first.gate first.early first.late first.service (omega arith) in_time in
    record { duration = omega (arith, h.duration); warp = omega (arith, h.warp) }
walk-slow leg (x ∷ y ∷ rest) c short tame in_time =
    let first = All-head IsTame x (y ∷ rest) tame in
    let h = one_stop x.gate x.early x.late x.service (leg x.place y.place) c.time c.duration c.warp first.gate first.early first.late first.service (short x.place y.place) in_time in
    let k = walk-slow leg (y ∷ rest) (passed (leg x.place y.place) (served x c)) short (All-tail IsTame x (y ∷ rest) tame) h.time in
    both (length (y ∷ rest)) c (passed (leg x.place y.place) (served x c)) (walked leg (y ∷ rest) (passed (leg x.place y.place) (served x c))) h k
  where
    both : (n : ℕ) (a b c : Clock) → IsBehind a b → IsSlow n b c → IsSlow (suc n) a c
    both n a b c h k = let d = h.duration in let e = k.duration in let v = h.warp in let w = k.warp in record { duration = omega arith; warp = omega arith }

-- what the best drive takes at most
pub record IsSlowDrive (n : ℕ) (best : Walk) : Type 0 where
  pub duration : best.duration ≤ n * most_added
  pub warp : best.warp ≤ n * most_added

pub best_drive-slow : (leg : ℕ → ℕ → ℕ) (stops : List Stop) → ((from to : ℕ) → leg from to ≤ largest_leg) → All IsTame stops → IsSlowDrive (length stops) (best_drive leg stops)
best_drive-slow leg stops short tame =
    let best = best_drive-is leg stops in
    let slow = walk-slow leg stops (started best.start) short tame (let h : best.start ≤ last_start = best.in_time in omega arith) in
    let duration : (drive leg stops best.start).duration ≡ (best_drive leg stops).duration = ap (λ (d : Walk). d.duration) best.driven in
    let warp : (drive leg stops best.start).warp ≡ (best_drive leg stops).warp = ap (λ (d : Walk). d.warp) best.driven in
    least (drive leg stops best.start) (best_drive leg stops) (length stops) duration warp slow.duration slow.warp
  where
    least : (some best : Walk) (n : ℕ) → some.duration ≡ best.duration → some.warp ≡ best.warp → some.duration ≤ 0 + n * most_added → some.warp ≤ 0 + n * most_added → IsSlowDrive n best
    least some best n d w h k = record { duration = omega arith; warp = omega arith }

-- the most stops of a run: two for each visit, the start and the end
abbrev pub most_stops : ℕ
most_stops = 2 * most_visits + 2

-- a segment that stands for so many tame stops is within the range
pub drive-within : (leg : ℕ → ℕ → ℕ) (segment : DurationSegment) (stops : List Stop) → ((from to : ℕ) → leg from to ≤ largest_leg) → All IsTame stops → length stops ≤ most_stops →
    Stands leg segment stops → IsWithinDuration segment
drive-within leg segment stops short tame few stands =
    let slow = walk-slow leg stops (started 0) short tame (omega arith) in
    let at_0 = stands.drives 0 (omega arith) in
    record {
      duration = least segment.duration (segment.earliest -ℤ pos 0) (drive leg stops 0).duration (length stops) (ap (λ (d : Drive). d.duration) at_0) slow.duration few;
      warp = least segment.warp (pos 0 -ℤ segment.latest) (drive leg stops 0).warp (length stops) (ap (λ (d : Drive). d.warp) at_0) slow.warp few;
    }
  where
    least : (total more : ℤ) (n k : ℕ) → total +ℤ int_max more (pos 0) ≡ pos n → n ≤ 0 + k * most_added → k ≤ most_stops → total ≤ℤ pos largest_total
    least total more n k e h few = omega (arith, ints, clamps)
