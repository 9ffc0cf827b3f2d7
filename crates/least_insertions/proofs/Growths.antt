-- Growths as the code has them: of 128 bits.
use Rattle.std.proofs.Common.{◌≡◌, ◌∙◌, ℕ, true, false, ap₂, arith, sym}
use mir.Syntax.{w128}
use Rattle.std.specs.Prelude.{ℤ, pos, ◌+ℤ◌, ◌-ℤ◌, ◌<ℤ◌, ◌≤ℤ◌}
use Rattle.std.specs.Int.Signed.{lt_z}
use Rattle.std.proofs.lemmas.Int.{ints, to_z-of_z}
use mir.Val.{SFits, of_z, to_z}

less : (a b : ℤ) → lt_z a b ≡ true → a <ℤ b
less a b h = grind (arith, ints)

not-less : (a b : ℤ) → lt_z a b ≡ false → b ≤ℤ a
not-less a b h = grind (arith, ints)

pub is-less : (a b : ℤ) → SFits w128 a → SFits w128 b → lt_z (to_z w128 (of_z w128 a)) (to_z w128 (of_z w128 b)) ≡ true → a <ℤ b
is-less a b fa fb h = less a b (sym (ap₂ lt_z (to_z-of_z w128 a fa) (to_z-of_z w128 b fb)) ∙ h)

pub is-no_less : (a b : ℤ) → SFits w128 a → SFits w128 b → lt_z (to_z w128 (of_z w128 a)) (to_z w128 (of_z w128 b)) ≡ false → b ≤ℤ a
is-no_less a b fa fb h = not-less a b (sym (ap₂ lt_z (to_z-of_z w128 a fa) (to_z-of_z w128 b fb)) ∙ h)

-- by how much more a plan costs
pub growth-is : (a b : ℤ) (n o x z s : ℕ) → SFits w128 a → SFits w128 b → a ≡ pos n → b ≡ pos o → (pos x +ℤ pos z) ≡ (pos s +ℤ (pos n -ℤ pos o)) →
    (pos x +ℤ pos z) ≡ (pos s +ℤ to_z w128 (of_z w128 (to_z w128 (of_z w128 a) -ℤ to_z w128 (of_z w128 b))))
growth-is a b n o x z s fa fb e k h = omega (arith, ints)
