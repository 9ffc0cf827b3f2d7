-- The least unused vehicles where the number of one vehicle's visits changes.
use Rattle.std.proofs.Common.{◌≡◌, ◌≢◌, ℕ, ◌<◌, Bool, true, false, ◌&&◌, List, length, get_or, set, refl, sym, ◌∙◌, ap, arith, subst, Option, Some, None, ◌⊎◌, inl, inr, get_or-set_other, get_or-set_same}
use Rattle.std.specs.Prelude.{◌==◌, slice_index}
use Rattle.std.proofs.lemmas.Bool.{cases_eq}
use Rattle.std.proofs.lemmas.Bool.Decides.{nat_tests}
use Rattle.std.proofs.lemmas.List.{set-get_or, set-set}
use Rattle.std.proofs.Math.ListN.{length-set}
use Rattle.problem_data.specs.declared.problem.Problem.{Problem}
use Rattle.problem_data.specs.Places.{type_of}
use Rattle.plan_tables.specs.Unused.{AreLeast, IsLeast, is_left}

-- what is the least unused vehicle of a type where the same vehicles are left
least_same : (p : Problem) (type : ℕ) (a b : List ℕ) → length a ≡ length b → ((k : ℕ) → is_left p a type k ≡ is_left p b type k) → (r : Option ℕ) → IsLeast p a type r → IsLeast p b type r
least_same p type a b many same None none = λ other h. sym (same other) ∙ none other (omega (arith, many, h))
least_same p type a b many same (Some v) is = record {
  inside = omega (arith, many, is.inside);
  left = sym (same v) ∙ is.left;
  least = λ other h. sym (same other) ∙ is.least other h;
}

module _ (p : Problem) (sizes : List ℕ) (v size : ℕ) (near : v < length sizes) where
  abbrev before : List ℕ
  before = set sizes v size

  -- another vehicle is left where it was
  other_left : (type k : ℕ) → k ≢ v → is_left p before type k ≡ is_left p sizes type k
  other_left type k n = ap (λ (m : ℕ). (type_of p k == type) && (m == 0)) (get_or-set_other sizes v k size 0 n)

  -- so is the vehicle itself for other types
  other_type : (type : ℕ) → type ≢ type_of p v → is_left p before type v ≡ is_left p sizes type v
  other_type type n = both (type_of p v == type) (differ (type_of p v) type n)
    where
      differ : (m n : ℕ) → n ≢ m → (m == n) ≡ false
      differ m n h = grind (arith, nat_tests)

      both : (b : Bool) → b ≡ false → (b && (slice_index before v == 0)) ≡ (b && (slice_index sizes v == 0))
      both true e = absurd (let never : ⊥ = cc in never)
      both false e = refl

  left_same : (type : ℕ) → is_left p before type v ≡ is_left p sizes type v → (k : ℕ) → is_left p before type k ≡ is_left p sizes type k
  left_same type here k = by (cases_eq k v)
    where
      by : (k ≡ v) ⊎ (k ≡ v → ⊥) → is_left p before type k ≡ is_left p sizes type k
      by (inl e) = ap (is_left p before type) e ∙ here ∙ sym (ap (is_left p sizes type) e)
      by (inr n) = other_left type k n

  -- it becomes used or unused, and the least unused vehicle of its type is found anew
  pub turns : (unused : List (Option ℕ)) (found : Option ℕ) → AreLeast p before unused → type_of p v < length p.types → IsLeast p sizes (type_of p v) found → AreLeast p sizes (set unused (type_of p v) found)
  turns unused found are there is = record {
    count = length-set unused (type_of p v) found ∙ are.count;
    each = λ type none h. by type none h (cases_eq type (type_of p v));
  }
    where
      by : (type : ℕ) (none : Option ℕ) → type < length p.types → (type ≡ type_of p v) ⊎ (type ≡ type_of p v → ⊥) → IsLeast p sizes type (get_or (set unused (type_of p v) found) type none)
      by type none h (inl e) =
          subst (λ (o : Option ℕ). IsLeast p sizes type o) (sym (ap (λ (t : ℕ). get_or (set unused (type_of p v) found) t none) e ∙ get_or-set_same unused (type_of p v) found none (omega (arith, are.count, there))))
          (subst (λ (t : ℕ). IsLeast p sizes t found) (sym e) is)
      by type none h (inr n) =
          subst (λ (o : Option ℕ). IsLeast p sizes type o) (sym (get_or-set_other unused (type_of p v) type found none n))
          (least_same p type before sizes (length-set sizes v size) (left_same type (other_type type n)) (get_or unused type none) (are.each type none h))

-- the numbers of visits as they were, by the one that was written
pub least-before : (p : Problem) (old now : List ℕ) (v w was size : ℕ) (unused unused' : List (Option ℕ)) → now ≡ set old w size → was ≡ get_or old w was → v ≡ w → unused' ≡ unused → AreLeast p old unused → AreLeast p (set now v was) unused'
least-before p old now v w was size unused unused' e is same e' are =
    subst (AreLeast p (set now v was)) (sym e') (subst (λ (sizes : List ℕ). AreLeast p sizes unused) (sym back) are)
  where
    back : set now v was ≡ old
    back = ap (λ (n : ℕ). set now n was) same ∙ ap (λ (sizes : List ℕ). set sizes w was) e ∙ set-set old w size was ∙ ap (set old w) is ∙ set-get_or old w was
