-- Segments of a distance.
use Rattle.std.specs.Prelude.{◌≡◌, ℕ, ℤ, pos, ◌+ℤ◌, ◌≤ℤ◌, List, [], ◌∷◌, ◌++◌}
use Rattle.routing_model.specs.Clock.{Stop, joint}
use Rattle.routing_model.specs.Cost.{length_of}
use Rattle.segments.specs.declared.distance_segment.DistanceSegment.{DistanceSegment}
use Rattle.segments.specs.Totals.{IsTotal, largest_total}

-- its number is in range
pub record IsSoundDistance (segment : DistanceSegment) : Type 0 where
  pub distance : IsTotal segment.distance

-- its number isn't above the most
pub record IsWithinDistance (segment : DistanceSegment) : Type 0 where
  pub distance : segment.distance ≤ℤ pos largest_total

-- no stop
abbrev pub no_distance : DistanceSegment
no_distance = record { distance = pos 0 }

-- one after the other, with the leg between them
abbrev pub merged_distance : DistanceSegment → DistanceSegment → ℤ → DistanceSegment
merged_distance left right gap = record { distance = left.distance +ℤ right.distance +ℤ gap }

-- the sum of the legs of these stops
pub record StandsForLength (leg : ℕ → ℕ → ℕ) (segment : DistanceSegment) (stops : List Stop) : Type 0 where
  pub distance : segment.distance ≡ pos (length_of leg stops)

-- it stands for no stops
abbrev pub StandsForNoStop : DistanceSegment → Type 0
StandsForNoStop segment = (leg : ℕ → ℕ → ℕ) → StandsForLength leg segment []

-- it stands for each stop alone, which has no leg either
abbrev pub StandsForOneStop : DistanceSegment → Type 0
StandsForOneStop segment = (leg : ℕ → ℕ → ℕ) (x : Stop) → StandsForLength leg segment (x ∷ [])

-- where two segments stand for two lists, this one stands for both, one after the other
abbrev pub JoinsLengths : DistanceSegment → DistanceSegment → ℤ → DistanceSegment → Type 0
JoinsLengths left right gap both = (leg : ℕ → ℕ → ℕ) (xs ys : List Stop) →
    StandsForLength leg left xs → StandsForLength leg right ys → gap ≡ pos (joint leg xs ys) → StandsForLength leg both (xs ++ ys)
