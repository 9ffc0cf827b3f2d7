-- Counts that rise after each other.
use Rattle.std.proofs.Common.{◌≡◌, ◌<◌, ◌+◌, ◌-◌, ◌^◌, ℕ, List, length, get_or, set, All, sym, ◌∙◌, refl, arith, subst}
use Rattle.std.proofs.lemmas.Grind.{common_steps}
use Rattle.std.proofs.lemmas.List.Sums.{sum_by-set}
use Rattle.problem_data.specs.Reads.{OneMore}
use Rattle.local_search.specs.Counts.{RoseBy, RoseTogether}

-- no rise
pub rose_not : (n : ℕ) → RoseBy 0 n n
rose_not n = record { exact = omega arith; kept = omega arith; most = omega arith }

-- one
pub rose_once : (before now : ℕ) → OneMore before now → RoseBy 1 before now
rose_once before now e = record { exact = e.exact; kept = e.kept; most = e.most }

-- two after each other
pub rose_both : (m n a b c : ℕ) → RoseBy m a b → RoseBy n b c → RoseBy (m + n) a c
rose_both m n a b c r s = record { exact = omega (arith, r.exact, s.exact); kept = omega arith; most = omega arith }

-- counts that none of the tries raised
pub together_none : (xs ys : List ℕ) → ys ≡ xs → RoseTogether 0 xs ys
together_none xs ys e = subst (λ (zs : List ℕ). RoseTogether 0 xs zs) (sym e) (record { as_many = refl; kept = λ k. omega arith; exact = λ a. omega arith })

-- one count that rises
pub together_one : (xs : List ℕ) (i y : ℕ) → i < length xs → OneMore (get_or xs i 0) y → RoseTogether 1 xs (set xs i y)
together_one xs i y h e = record {
  as_many = grind (arith, common_steps);
  kept = λ k. grind (arith, common_steps, e.kept);
  exact = λ a.
      let b : y < 2 ^ 64 - 1 = grind (arith, common_steps, a i 0) in
      omega (arith, sum_by-set (λ x. x) xs i y 0 h, e.exact, e.kept, e.most);
}

-- two rises after each other
pub together_both : (m n : ℕ) (xs ys zs : List ℕ) → RoseTogether m xs ys → RoseTogether n ys zs → RoseTogether (m + n) xs zs
together_both m n xs ys zs a b = record {
  as_many = b.as_many ∙ a.as_many;
  kept = λ k. omega (arith, a.kept k, b.kept k);
  exact = λ h.
      let c : All (λ t. t < 2 ^ 64 - 1) ys = λ k d l. grind (arith, common_steps, b.kept k, h k d) in
      omega (arith, a.exact c, b.exact h);
}
