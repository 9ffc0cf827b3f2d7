-- The length of two lists of stops.
use Rattle.std.proofs.Common.{◌≡◌, ℕ, ◌+◌, List, [], ◌∷◌, ◌++◌, refl, sym, ◌∙◌, ap, arith}
use Rattle.std.specs.Prelude.{ℤ, pos, ◌+ℤ◌}
use Rattle.routing_model.specs.Clock.{Stop, joint}
use Rattle.routing_model.specs.Cost.{length_of}
use Rattle.segments.specs.declared.distance_segment.DistanceSegment.{DistanceSegment}
use Rattle.segments.specs.Distance.{JoinsLengths, merged_distance}

append_nothing : (xs : List Stop) → xs ++ [] ≡ xs
append_nothing [] = refl
append_nothing (x ∷ xs) = ap (λ (ys : List Stop). x ∷ ys) (append_nothing xs)

pub length_of-append : (leg : ℕ → ℕ → ℕ) (xs ys : List Stop) → length_of leg (xs ++ ys) ≡ length_of leg xs + length_of leg ys + joint leg xs ys
length_of-append leg [] ys = omega arith
length_of-append leg (x ∷ xs) [] = ap (length_of leg) (append_nothing (x ∷ xs)) ∙ omega arith
length_of-append leg (x ∷ []) (y ∷ ys) = omega arith
length_of-append leg (x ∷ next ∷ xs) (y ∷ ys) = let e = length_of-append leg (next ∷ xs) (y ∷ ys) in omega arith

-- the sum of two distances and a joint is that of both lists
pub merged-joins_lengths : (left right : DistanceSegment) (gap : ℤ) (both : DistanceSegment) → both.distance ≡ (merged_distance left right gap).distance → JoinsLengths left right gap both
merged-joins_lengths left right gap both is leg xs ys h k is_joint = record {
  distance = is ∙ (λ i. (h.distance i +ℤ k.distance i) +ℤ is_joint i) ∙ ap (λ (n : ℕ). pos n) (sym (length_of-append leg xs ys));
}
