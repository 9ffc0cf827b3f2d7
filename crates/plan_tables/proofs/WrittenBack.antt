-- What a `Vec` has once a slice of all its items was changed.
use Rattle.std.proofs.Common.{◌≡◌, ℕ, List, ◌++◌, length, take, drop, ◌∙◌, ap}
use Rattle.std.proofs.Math.Seq.{take-append_seam}

pub written-back : {A : Type 0} (count : ℕ) (now old : List A) → count ≡ length now → take count (now ++ drop (length now) old) ≡ now
written-back count now old e = ap (λ (n : ℕ). take n (now ++ drop (length now) old)) e ∙ take-append_seam now (drop (length now) old)
