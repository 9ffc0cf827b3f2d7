-- The laws of merging, for each kind of segment.
use Rattle.std.specs.Prelude.{◌≡◌, ℤ, pos}
use Rattle.std.proofs.Common.{ap}
use Rattle.segment_model.proofs.SpanLaws.{no_span-before, no_span-after, merged_span-assoc}
use Rattle.segment_model.proofs.SumLaws.{sum-zero_left, sum-zero_right, sum-zeros_left, sum-zeros_right, sum-assoc, sum-assoc_joints, largest-zero_left, largest-zero_right, largest-assoc}
use Rattle.segments.specs.declared.distance_segment.DistanceSegment.{DistanceSegment}
use Rattle.segments.specs.declared.duration_segment.DurationSegment.{DurationSegment}
use Rattle.segments.specs.declared.load_segment.LoadSegment.{LoadSegment}
use Rattle.segments.specs.Totals.{IsJoint}
use Rattle.segments.specs.Distance.{IsSoundDistance, merged_distance, no_distance}
use Rattle.segments.specs.Duration.{IsSoundDuration, merged_duration, no_duration, segment_of, span_of}
use Rattle.segments.specs.Load.{IsSoundLoad, merged_load, no_load}

pub no_distance-before : (x : DistanceSegment) → IsSoundDistance x → merged_distance no_distance x (pos 0) ≡ x
no_distance-before x sound = λ i. record { distance = sum-zeros_left x.distance i }

pub no_distance-after : (x : DistanceSegment) → IsSoundDistance x → merged_distance x no_distance (pos 0) ≡ x
no_distance-after x sound = λ i. record { distance = sum-zeros_right x.distance i }

pub merged_distance-assoc : (x y z : DistanceSegment) (first second : ℤ) → IsSoundDistance x → IsSoundDistance y → IsSoundDistance z →
    IsJoint first → IsJoint second → merged_distance (merged_distance x y first) z second ≡ merged_distance x (merged_distance y z second) first
merged_distance-assoc x y z first second sound_x sound_y sound_z in_range_1 in_range_2 =
    λ i. record { distance = sum-assoc_joints x.distance y.distance z.distance first second i }

pub no_load-before : (x : LoadSegment) → IsSoundLoad x → merged_load no_load x (pos 0) ≡ x
no_load-before x sound = λ i. record {
  delivery = sum-zero_left x.delivery i;
  pickup = sum-zero_left x.pickup i;
  load = largest-zero_left x.delivery x.load sound.departs i;
}

pub no_load-after : (x : LoadSegment) → IsSoundLoad x → merged_load x no_load (pos 0) ≡ x
no_load-after x sound = λ i. record {
  delivery = sum-zero_right x.delivery i;
  pickup = sum-zero_right x.pickup i;
  load = largest-zero_right x.pickup x.load sound.arrives i;
}

pub merged_load-assoc : (x y z : LoadSegment) (first second : ℤ) → IsSoundLoad x → IsSoundLoad y → IsSoundLoad z →
    IsJoint first → IsJoint second → merged_load (merged_load x y first) z second ≡ merged_load x (merged_load y z second) first
merged_load-assoc x y z first second sound_x sound_y sound_z in_range_1 in_range_2 = λ i. record {
  delivery = sum-assoc x.delivery y.delivery z.delivery i;
  pickup = sum-assoc x.pickup y.pickup z.pickup i;
  load = largest-assoc x.load x.pickup y.delivery y.pickup y.load z.delivery z.load i;
}

pub no_duration-before : (x : DurationSegment) → IsSoundDuration x → merged_duration no_duration x (pos 0) ≡ x
no_duration-before x sound = ap segment_of (no_span-before (span_of x) sound.begins_from_0 sound.in_order sound.begins_in_time)

pub no_duration-after : (x : DurationSegment) → IsSoundDuration x → merged_duration x no_duration (pos 0) ≡ x
no_duration-after x sound = ap segment_of (no_span-after (span_of x) sound.in_order sound.ends_from_0 sound.ends_in_time)

pub merged_duration-assoc : (x y z : DurationSegment) (first second : ℤ) → IsSoundDuration x → IsSoundDuration y → IsSoundDuration z →
    IsJoint first → IsJoint second → merged_duration (merged_duration x y first) z second ≡ merged_duration x (merged_duration y z second) first
merged_duration-assoc x y z first second sound_x sound_y sound_z in_range_1 in_range_2 =
    ap segment_of (merged_span-assoc (span_of x) (span_of y) (span_of z) first second sound_x.in_order sound_y.in_order)
