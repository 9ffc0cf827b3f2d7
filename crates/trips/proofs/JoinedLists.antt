-- Two lists joined at a joint, as the joint of the last visit and the first one says.
use Rattle.std.proofs.Common.{◌≡◌, ℕ, zero, suc, ◌-◌, Bool, true, false, ◌&&◌, cond, not, List, [], ◌∷◌, ◌++◌, length, take, drop, refl, sym, ◌∙◌, ap, ap₂, arith, Option, Some, None}
use Rattle.std.specs.Prelude.{if◌then◌else◌}
use Rattle.problem_data.specs.declared.visit.Visit.{Visit}
use Rattle.problem_data.specs.declared.visit.Visit.TheVariants.{Client, Reload}
use Rattle.routing_model.proofs.TidyJoints.{begins_with_reload, but_last, ends_behind, ends_with_reload, is_empty, joined}
use Rattle.trips.specs.declared.joint.Joint.{Joint}
use Rattle.trips.specs.declared.joint.Joint.TheVariants.{Keep, DropLeft, DropRight}
use Rattle.trips.specs.Joints.{first_visit, is_nothing, is_some_client, is_some_reload, joined_by, joint_of, last_visit}

-- what stands last and first tells what the lists are
ends-last : (xs : List Visit) → ends_behind false xs ≡ is_some_client (last_visit xs)
ends-last [] = refl
ends-last (Client place ∷ []) = refl
ends-last (Reload depot ∷ []) = refl
ends-last (Client place ∷ y ∷ rest) = behind-any true false y rest ∙ ends-last (y ∷ rest)
  where
    behind-any : (a b : Bool) (y : Visit) (rest : List Visit) → ends_behind a (y ∷ rest) ≡ ends_behind b (y ∷ rest)
    behind-any a b (Client place) rest = refl
    behind-any a b (Reload depot) rest = refl
ends-last (Reload depot ∷ y ∷ rest) = ends-last (y ∷ rest)

reload-last : (xs : List Visit) → ends_with_reload xs ≡ is_some_reload (last_visit xs)
reload-last [] = refl
reload-last (Client place ∷ []) = refl
reload-last (Reload depot ∷ []) = refl
reload-last (x ∷ y ∷ rest) = reload-last (y ∷ rest)

reload-first : (ys : List Visit) → begins_with_reload ys ≡ is_some_reload (first_visit ys)
reload-first [] = refl
reload-first (Client place ∷ rest) = refl
reload-first (Reload depot ∷ rest) = refl

empty-first : (ys : List Visit) → is_empty ys ≡ is_nothing (first_visit ys)
empty-first [] = refl
empty-first (y ∷ rest) = refl

pub but_last-take : (xs : List Visit) → but_last xs ≡ take (length xs - 1) xs
but_last-take [] = refl
but_last-take (x ∷ []) = refl
but_last-take (x ∷ y ∷ rest) =
    let e : suc (length (y ∷ rest) - 1) ≡ length (x ∷ y ∷ rest) - 1 = omega arith in
    ap (λ (zs : List Visit). x ∷ zs) (but_last-take (y ∷ rest)) ∙ ap (λ (n : ℕ). take n (x ∷ y ∷ rest)) e

pub joined-by : (xs ys : List Visit) → joined xs ys ≡ joined_by (joint_of (last_visit xs) (first_visit ys)) xs ys
joined-by xs ys = by (begins_with_reload ys) (is_some_reload (first_visit ys)) (ends_behind false xs) (is_some_client (last_visit xs)) (ends_with_reload xs) (is_some_reload (last_visit xs))
    (is_empty ys) (is_nothing (first_visit ys)) (reload-first ys) (ends-last xs) (reload-last xs) (empty-first ys)
  where
    chosen : (a b : Bool) → cond a (xs ++ drop 1 ys) (cond b (but_last xs ++ ys) (xs ++ ys)) ≡ joined_by (if a then DropRight else (if b then DropLeft else Keep)) xs ys
    chosen true b = refl
    chosen false true = ap (λ (zs : List Visit). zs ++ ys) (but_last-take xs)
    chosen false false = refl

    by : (a a' b b' c c' d d' : Bool) → a ≡ a' → b ≡ b' → c ≡ c' → d ≡ d' →
        cond (a && not b) (xs ++ drop 1 ys) (cond (c && d) (but_last xs ++ ys) (xs ++ ys)) ≡ joined_by (if a' && not b' then DropRight else (if c' && d' then DropLeft else Keep)) xs ys
    by a a' b b' c c' d d' e f g h =
        chosen (a && not b) (c && d)
        ∙ ap₂ (λ (u v : Bool). joined_by (if u then DropRight else (if v then DropLeft else Keep)) xs ys) (ap₂ (λ (u v : Bool). u && not v) e f) (ap₂ (λ (u v : Bool). u && v) g h)
