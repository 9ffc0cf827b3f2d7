-- The joint of a beginning and an ending of tidy lists names the one visit that isn't tidy.
use Rattle.std.proofs.Common.{◌≡◌, ℕ, suc, ◌-◌, Bool, true, false, ◌&&◌, List, [], ◌∷◌, ◌++◌, length, take, refl, ◌∙◌, ap, arith, cond, Option, Some, None}
use Rattle.problem_data.specs.declared.visit.Visit.{Visit}
use Rattle.problem_data.specs.declared.visit.Visit.TheVariants.{Client, Reload}
use Rattle.routing_model.specs.Routes.{is_used}
use Rattle.routing_model.specs.Tidy.{is_tidy_behind, tidied_behind}
use Rattle.routing_model.proofs.Tidying.{tidied-tidy}
use Rattle.trips.specs.declared.joint.Joint.{Joint}
use Rattle.trips.specs.declared.joint.Joint.TheVariants.{Keep, DropLeft, DropRight}
use Rattle.trips.specs.Joints.{JointsTidy, first_visit, joined_by, joint_of, last_visit}

both-first : (a b : Bool) → (a && b) ≡ true → a ≡ true
both-first true b h = refl
both-first false b h = h

both-second : (a b : Bool) → (a && b) ≡ true → b ≡ true
both-second true b h = h
both-second false b h = cc

-- an ending of a tidy list is tidy behind a client or behind none
ending : (behind : Bool) (before visits : List Visit) → is_tidy_behind behind (before ++ visits) ≡ true → (b : Bool) × (is_tidy_behind b visits ≡ true)
ending behind [] visits h = (behind, h)
ending behind (Client place ∷ before) visits h = ending true before visits h
ending behind (Reload depot ∷ before) visits h = ending false before visits (both-second (behind && is_used (before ++ visits)) (is_tidy_behind false (before ++ visits)) h)

-- whether a client stands before a list, by its place
behind_of : Option ℕ → Bool
behind_of None = false
behind_of (Some place) = true

-- the last visit of a list, where that client or nothing stands before it
last_of : Option ℕ → List Visit → Option Visit
last_of None [] = None
last_of (Some place) [] = Some (Client place)
last_of before (visit ∷ rest) = last_visit (visit ∷ rest)

-- one visit more before both
cons-joined : (x y : Visit) (ys right : List Visit) (joint : Joint) → x ∷ joined_by joint (y ∷ ys) right ≡ joined_by joint (x ∷ y ∷ ys) right
cons-joined x y ys right Keep = refl
cons-joined x y ys right DropLeft =
    let e : suc (length (y ∷ ys) - 1) ≡ length (x ∷ y ∷ ys) - 1 = omega arith in
    ap (λ (n : ℕ). take n (x ∷ y ∷ ys) ++ right) e
cons-joined x y ys right DropRight = refl

-- a client more before both
client-joined : (place : ℕ) (xs right : List Visit) →
    Client place ∷ joined_by (joint_of (last_of (Some place) xs) (first_visit right)) xs right ≡ joined_by (joint_of (last_visit (Client place ∷ xs)) (first_visit right)) (Client place ∷ xs) right
unfolding last_of
client-joined place [] [] = refl
client-joined place [] (Client other ∷ rest) = refl
client-joined place [] (Reload depot ∷ rest) = refl
client-joined place (y ∷ ys) right = cons-joined (Client place) y ys right (joint_of (last_visit (y ∷ ys)) (first_visit right))

-- an ending alone
ending-joined : (before : Option ℕ) (right : List Visit) (b : Bool) → is_tidy_behind b right ≡ true →
    tidied_behind (behind_of before) right ≡ joined_by (joint_of (last_of before []) (first_visit right)) [] right
unfolding behind_of last_of
ending-joined None [] b h = refl
ending-joined (Some place) [] b h = refl
ending-joined None (Client other ∷ rest) b h = ap {B = List Visit} (λ xs. Client other ∷ xs) (tidied-tidy true rest h)
ending-joined (Some place) (Client other ∷ rest) b h = ap {B = List Visit} (λ xs. Client other ∷ xs) (tidied-tidy true rest h)
ending-joined None (Reload depot ∷ rest) b h = tidied-tidy false rest (both-second (b && is_used rest) (is_tidy_behind false rest) h)
ending-joined (Some place) (Reload depot ∷ rest) b h =
    let used : is_used rest ≡ true = both-second b (is_used rest) (both-first (b && is_used rest) (is_tidy_behind false rest) h) in
    ap (λ (u : Bool). cond u (Reload depot ∷ tidied_behind false rest) (tidied_behind false rest)) used
    ∙ ap {B = List Visit} (λ xs. Reload depot ∷ xs) (tidied-tidy false rest (both-second (b && is_used rest) (is_tidy_behind false rest) h))

-- a reload at the cut
reload-joined : (depot : ℕ) (right : List Visit) (b : Bool) → is_tidy_behind b right ≡ true →
    tidied_behind true (Reload depot ∷ right) ≡ joined_by (joint_of (Some (Reload depot)) (first_visit right)) (Reload depot ∷ []) right
reload-joined depot [] b h = refl
reload-joined depot (Client place ∷ rest) b h = ap {B = List Visit} (λ xs. Reload depot ∷ Client place ∷ xs) (tidied-tidy true rest h)
reload-joined depot (Reload other ∷ rest) b h =
    let used : is_used rest ≡ true = both-second b (is_used rest) (both-first (b && is_used rest) (is_tidy_behind false rest) h) in
    ap (λ (u : Bool). cond u (Reload depot ∷ tidied_behind false rest) (tidied_behind false rest)) used
    ∙ ap {B = List Visit} (λ xs. Reload depot ∷ xs) (tidied-tidy false rest (both-second (b && is_used rest) (is_tidy_behind false rest) h))

never : false ≡ true → ⊥
never h = cc

joins : (before : Option ℕ) (left behind right : List Visit) (b : Bool) → is_tidy_behind (behind_of before) (left ++ behind) ≡ true → is_tidy_behind b right ≡ true →
    tidied_behind (behind_of before) (left ++ right) ≡ joined_by (joint_of (last_of before left) (first_visit right)) left right
unfolding behind_of last_of
joins before [] behind right b h k = ending-joined before right b k
joins before (Client place ∷ left) behind right b h k =
    ap {B = List Visit} (λ xs. Client place ∷ xs) (joins (Some place) left behind right b h k) ∙ client-joined place left right
joins None (Reload depot ∷ left) behind right b h k = absurd (never (both-first false (is_tidy_behind false (left ++ behind)) h))
joins (Some place) (Reload depot ∷ []) behind right b h k = reload-joined depot right b k
joins (Some place) (Reload depot ∷ Client next ∷ left) behind right b h k =
    ap {B = List Visit} (λ xs. Reload depot ∷ Client next ∷ xs) (joins (Some next) left behind right b h k)
    ∙ ap {B = List Visit} (λ xs. Reload depot ∷ xs) (client-joined next left right)
    ∙ cons-joined (Reload depot) (Client next) left right (joint_of (last_visit (Client next ∷ left)) (first_visit right))
joins (Some place) (Reload depot ∷ Reload next ∷ left) behind right b h k =
    absurd (never (both-first false (is_tidy_behind false (left ++ behind)) (both-second (is_used (left ++ behind)) (false && is_tidy_behind false (left ++ behind)) h)))

-- the joint names the one visit that isn't tidy
pub joints-tidy : JointsTidy
unfolding behind_of last_of
joints-tidy left right cut_behind cut_before h k =
    let tail = ending false cut_before right k in
    joins None left cut_behind right tail.0 h tail.1 ∙ same left
  where
    same : (left : List Visit) → joined_by (joint_of (last_of None left) (first_visit right)) left right ≡ joined_by (joint_of (last_visit left) (first_visit right)) left right
    same [] = refl
    same (visit ∷ rest) = refl
