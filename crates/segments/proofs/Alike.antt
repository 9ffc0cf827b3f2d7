-- Records are one that have the same numbers.
use Rattle.std.proofs.Common.{◌≡◌}
use Rattle.segments.specs.declared.duration_segment.Drive.{Drive}
use Rattle.segments.specs.declared.duration_segment.DurationSegment.{DurationSegment}
use Rattle.segments.specs.declared.load_segment.LoadSegment.{LoadSegment}

pub same_drive : (a b : Drive) → a.duration ≡ b.duration → a.warp ≡ b.warp → a ≡ b
same_drive a b d w = λ i. record { duration = d i; warp = w i }

pub same_segment : (a b : DurationSegment) → a.duration ≡ b.duration → a.warp ≡ b.warp → a.earliest ≡ b.earliest → a.latest ≡ b.latest → a ≡ b
same_segment a b d w e l = λ i. record { duration = d i; warp = w i; earliest = e i; latest = l i }

pub same_load : (a b : LoadSegment) → a.delivery ≡ b.delivery → a.pickup ≡ b.pickup → a.load ≡ b.load → a ≡ b
same_load a b d p l = λ i. record { delivery = d i; pickup = p i; load = l i }
