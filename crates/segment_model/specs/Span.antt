-- What a drive of some stops takes, from every start, in four numbers.
use Rattle.std.specs.Prelude.{ℕ, ◌^◌, ℤ, pos, ◌+ℤ◌, ◌-ℤ◌}
use Rattle.std.specs.Int.{int_max, int_min}

-- From the starts between the earliest and the latest a drive takes this duration with this warp. Before, it waits; behind, it warps.
pub record Span : Type 0 where
  pub duration : ℤ
  pub warp : ℤ
  pub earliest : ℤ
  pub latest : ℤ

-- the latest moment: a window without an end has it
abbrev pub latest_moment : ℕ
latest_moment = 10 ^ 18

-- no stop
abbrev pub no_span : Span
no_span = record { duration = pos 0; warp = pos 0; earliest = pos 0; latest = pos latest_moment }

-- from the start of the left one to the start of the right one, where the left one is started in time
abbrev pub shift_of : Span → ℤ → ℤ
shift_of left gap = (left.duration -ℤ left.warp) +ℤ gap

-- the least wait for the right one
abbrev pub wait_of : Span → Span → ℤ → ℤ
wait_of left right gap = int_max ((right.earliest -ℤ shift_of left gap) -ℤ left.latest) (pos 0)

-- the least warp to the right one
abbrev pub warp_of : Span → Span → ℤ → ℤ
warp_of left right gap = int_max ((left.earliest +ℤ shift_of left gap) -ℤ right.latest) (pos 0)

-- one after the other, with the leg between them
abbrev pub merged_span : Span → Span → ℤ → Span
merged_span left right gap = record {
  duration = ((left.duration +ℤ right.duration) +ℤ gap) +ℤ wait_of left right gap;
  warp = (left.warp +ℤ right.warp) +ℤ warp_of left right gap;
  earliest = int_max (right.earliest -ℤ shift_of left gap) left.earliest -ℤ wait_of left right gap;
  latest = int_min (right.latest -ℤ shift_of left gap) left.latest +ℤ warp_of left right gap;
}

-- what a drive takes from a start: before the earliest it waits
abbrev pub duration_from : Span → ℤ → ℤ
duration_from span start = span.duration +ℤ int_max (span.earliest -ℤ start) (pos 0)

-- the warp of a drive from a start: behind the latest it goes back
abbrev pub warp_from : Span → ℤ → ℤ
warp_from span start = span.warp +ℤ int_max (start -ℤ span.latest) (pos 0)

-- when a drive from a start ends
abbrev pub end_from : Span → ℤ → ℤ
end_from span start = (start +ℤ duration_from span start) -ℤ warp_from span start
