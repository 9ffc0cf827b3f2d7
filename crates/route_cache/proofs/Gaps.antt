-- What is left of a list where visits are taken out, so that it is tidy: its first visits up to a position and its last ones from
-- another position on, which the visits beside the gap tell.
use Rattle.std.proofs.Common.{◌≡◌, ℕ, zero, suc, ◌+◌, ◌-◌, ◌<◌, ◌≤◌, ◌⊎◌, Bool, true, false, ◌&&◌, List, [], ◌∷◌, ◌++◌, length, get_or, take, drop, refl, sym, ◌∙◌, ap, ap₂, inl, inr, arith, add-one, append_assoc, Option, None, slice_get, slice_range}
use Rattle.std.specs.Prelude.{if◌then◌else◌}
use Rattle.std.proofs.lemmas.Option.{slice_get-get_or, slice_get_past}
use Rattle.problem_data.specs.declared.visit.Visit.{Visit}
use Rattle.problem_data.specs.declared.visit.Visit.TheVariants.{Client}
use Rattle.routing_model.proofs.TidyJoints.{but_last, but_last-added, joined}
use Rattle.trips.specs.declared.joint.Joint.{Joint}
use Rattle.trips.specs.declared.joint.Joint.TheVariants.{Keep, DropLeft, DropRight}
use Rattle.trips.specs.Joints.{first_visit, is_some_reload, joined_by, joint_of, last_visit}
use Rattle.trips.proofs.JoinedLists.{but_last-take, joined-by}
use Rattle.route_cache.specs.Gaps.{visit_before}
use Rattle.route_cache.proofs.Slices.{slice-before, slice-more, slice-none}

-- where the first visits end and the last ones begin, by the joint
abbrev pub left_by : Joint → ℕ → ℕ
left_by Keep k = k
left_by DropLeft k = k - 1
left_by DropRight k = k

abbrev pub right_by : Joint → ℕ → ℕ
right_by Keep m = m
right_by DropLeft m = m
right_by DropRight m = m + 1

-- the joint of a list without the visits from a position up to another one
abbrev pub gap_joint : List Visit → ℕ → ℕ → Joint
gap_joint visits k m = joint_of (visit_before visits k) (slice_get visits m)

pub left-within : (j : Joint) (k : ℕ) → left_by j k ≤ k
left-within Keep k = omega arith
left-within DropLeft k = omega arith
left-within DropRight k = omega arith

pub left-near : (j : Joint) (k : ℕ) → k ≤ left_by j k + 1
left-near Keep k = omega arith
left-near DropLeft k = omega arith
left-near DropRight k = omega arith

pub right-within : (j : Joint) (m : ℕ) → m ≤ right_by j m
right-within Keep m = omega arith
right-within DropLeft m = omega arith
right-within DropRight m = omega arith

pub right-near : (j : Joint) (m : ℕ) → right_by j m ≤ m + 1
right-near Keep m = omega arith
right-near DropLeft m = omega arith
right-near DropRight m = omega arith

here_or_past : (k n : ℕ) → (k < n) ⊎ (n ≤ k)
here_or_past k n = grind arith

-- nothing is left out on the right where nothing is there
right-nothing : (before : Option Visit) (m : ℕ) → right_by (joint_of before None) m ≡ m
right-nothing before m = by (is_some_reload before)
  where
    by : (b : Bool) → right_by (if b && true then DropLeft else Keep) m ≡ m
    by true = refl
    by false = refl

pub right-inside : (visits : List Visit) (k m : ℕ) → m ≤ length visits → right_by (gap_joint visits k m) m ≤ length visits
right-inside visits k m inside = by (here_or_past m (length visits))
  where
    by : ((m < length visits) ⊎ (length visits ≤ m)) → right_by (gap_joint visits k m) m ≤ length visits
    by (inl here) = omega (arith, right-near (gap_joint visits k m) m)
    by (inr past) =
        let e : right_by (gap_joint visits k m) m ≡ m = ap (λ (r : Option Visit). right_by (joint_of (visit_before visits k) r) m) (slice_get_past visits m past) ∙ right-nothing (visit_before visits k) m in
        omega arith

-- the last visit of a list with more behind it
last-behind : (xs : List Visit) (y : Visit) (ys : List Visit) → last_visit (xs ++ y ∷ ys) ≡ last_visit (y ∷ ys)
last-behind [] y ys = refl
last-behind (x ∷ []) y ys = refl
last-behind (x ∷ z ∷ rest) y ys = last-behind (z ∷ rest) y ys

module _ (visits : List Visit) where
  -- the visits beside the gap
  last-between : (x k : ℕ) → x ≤ k → k < length visits → last_visit (slice_range visits x (suc k)) ≡ slice_get visits k
  last-between x k order here =
      ap (λ (n : ℕ). last_visit (slice_range visits x n)) (sym (add-one k))
      ∙ (ap last_visit (slice-more visits x k (Client 0) order here)
      ∙ (last-behind (slice_range visits x k) (get_or visits k (Client 0)) []
      ∙ sym (slice_get-get_or visits k (Client 0) here)))

  pub last-before : (k : ℕ) → k ≤ length visits → last_visit (slice_range visits 0 k) ≡ visit_before visits k
  last-before zero h = refl
  last-before (suc k) h = last-between 0 k (omega arith) (omega arith)

  pub first-behind : (m x : ℕ) → m < x → x ≤ length visits → (rest : List Visit) → first_visit (slice_range visits m x ++ rest) ≡ slice_get visits m
  first-behind m x order inside rest =
      ap (λ (xs : List Visit). first_visit (xs ++ rest)) (slice-before visits m x (Client 0) order (omega arith))
      ∙ sym (slice_get-get_or visits m (Client 0) (omega arith))

  pub first-last : (m : ℕ) → m ≤ length visits → first_visit (slice_range visits m (length visits)) ≡ slice_get visits m
  first-last m inside = by (here_or_past m (length visits))
    where
      by : ((m < length visits) ⊎ (length visits ≤ m)) → first_visit (slice_range visits m (length visits)) ≡ slice_get visits m
      by (inl here) =
          ap first_visit (slice-before visits m (length visits) (Client 0) here here)
          ∙ sym (slice_get-get_or visits m (Client 0) here)
      by (inr past) =
          let e : m ≡ length visits = omega arith in
          ap (λ (n : ℕ). first_visit (slice_range visits n (length visits))) e
          ∙ (ap first_visit (slice-none visits (length visits)) ∙ sym (slice_get_past visits m past))

  -- a run without its last visit, and one without its first
  but_last-run : (before : List Visit) (x k : ℕ) → x < k → k ≤ length visits → but_last (before ++ slice_range visits x k) ≡ before ++ slice_range visits x (k - 1)
  but_last-run before x zero order inside = absurd (omega (arith, order))
  but_last-run before x (suc k) order inside =
      let last : suc k - 1 ≡ k = omega arith in
      let y : Visit = get_or visits k (Client 0) in
      ap (λ (n : ℕ). but_last (before ++ slice_range visits x n)) (sym (add-one k))
      ∙ (ap (λ (xs : List Visit). but_last (before ++ xs)) (slice-more visits x k (Client 0) (omega arith) (omega arith))
      ∙ (ap but_last (sym (append_assoc before (slice_range visits x k) (y ∷ [])))
      ∙ (but_last-added (before ++ slice_range visits x k) y
      ∙ ap (λ (n : ℕ). before ++ slice_range visits x n) (sym last))))

  but_last-first : (k : ℕ) → k ≤ length visits → but_last (slice_range visits 0 k) ≡ slice_range visits 0 (k - 1)
  but_last-first zero inside = refl
  but_last-first (suc k) inside = but_last-run [] 0 (suc k) (omega arith) inside

  first-dropped : (m x : ℕ) → m < x → x ≤ length visits → (rest : List Visit) → drop 1 (slice_range visits m x ++ rest) ≡ slice_range visits (m + 1) x ++ rest
  first-dropped m x order inside rest = ap (λ (xs : List Visit). drop 1 (xs ++ rest)) (slice-before visits m x (Client 0) order (omega arith))

  last-dropped : (m : ℕ) → m ≤ length visits → drop 1 (slice_range visits m (length visits)) ≡ slice_range visits (m + 1) (length visits)
  last-dropped m inside = by (here_or_past m (length visits))
    where
      by : ((m < length visits) ⊎ (length visits ≤ m)) → drop 1 (slice_range visits m (length visits)) ≡ slice_range visits (m + 1) (length visits)
      by (inl here) = ap (drop 1) (slice-before visits m (length visits) (Client 0) here here)
      by (inr past) =
          let none : length visits - m ≡ 0 = omega arith in
          let none' : length visits - (m + 1) ≡ 0 = omega arith in
          ap (λ (n : ℕ). drop 1 (take n (drop m visits))) none ∙ sym (ap (λ (n : ℕ). take n (drop (m + 1) visits)) none')

  -- a part that ends with the visits from x up to k, and the visits from m on
  joined-run : (j : Joint) (before : List Visit) (x k m : ℕ) → x < k → k ≤ length visits → m ≤ length visits →
      joined_by j (before ++ slice_range visits x k) (slice_range visits m (length visits)) ≡ (before ++ slice_range visits x (left_by j k)) ++ slice_range visits (right_by j m) (length visits)
  joined-run Keep before x k m order inside inside' = refl
  joined-run DropLeft before x k m order inside inside' =
      ap (λ (xs : List Visit). xs ++ slice_range visits m (length visits)) (sym (but_last-take (before ++ slice_range visits x k)) ∙ but_last-run before x k order inside)
  joined-run DropRight before x k m order inside inside' = ap (λ (xs : List Visit). (before ++ slice_range visits x k) ++ xs) (last-dropped m inside')

  joined-first : (j : Joint) (k m : ℕ) → k ≤ length visits → m ≤ length visits →
      joined_by j (slice_range visits 0 k) (slice_range visits m (length visits)) ≡ slice_range visits 0 (left_by j k) ++ slice_range visits (right_by j m) (length visits)
  joined-first Keep k m inside inside' = refl
  joined-first DropLeft k m inside inside' =
      ap (λ (xs : List Visit). xs ++ slice_range visits m (length visits)) (sym (but_last-take (slice_range visits 0 k)) ∙ but_last-first k inside)
  joined-first DropRight k m inside inside' = ap (λ (xs : List Visit). slice_range visits 0 k ++ xs) (last-dropped m inside')

  joined-last : (j : Joint) (k m x : ℕ) (rest : List Visit) → k ≤ length visits → m < x → x ≤ length visits →
      joined_by j (slice_range visits 0 k) (slice_range visits m x ++ rest) ≡ slice_range visits 0 (left_by j k) ++ (slice_range visits (right_by j m) x ++ rest)
  joined-last Keep k m x rest inside order inside' = refl
  joined-last DropLeft k m x rest inside order inside' =
      ap (λ (xs : List Visit). xs ++ (slice_range visits m x ++ rest)) (sym (but_last-take (slice_range visits 0 k)) ∙ but_last-first k inside)
  joined-last DropRight k m x rest inside order inside' = ap (λ (xs : List Visit). slice_range visits 0 k ++ xs) (first-dropped m x order inside' rest)

  -- The visits from k up to m are taken out.
  pub joined-gap : (k m : ℕ) → k ≤ length visits → m ≤ length visits → joined (slice_range visits 0 k) (slice_range visits m (length visits))
      ≡ slice_range visits 0 (left_by (gap_joint visits k m) k) ++ slice_range visits (right_by (gap_joint visits k m) m) (length visits)
  joined-gap k m inside inside' =
      joined-by (slice_range visits 0 k) (slice_range visits m (length visits))
      ∙ (ap (λ (j : Joint). joined_by j (slice_range visits 0 k) (slice_range visits m (length visits))) (ap₂ joint_of (last-before k inside) (first-last m inside'))
      ∙ joined-first (gap_joint visits k m) k m inside inside')

  -- They are taken out, and a run is put in before them.
  pub joined-earlier : (x k m : ℕ) (run : List Visit) → x < k → k ≤ length visits → m ≤ length visits →
      joined (slice_range visits 0 x ++ (run ++ slice_range visits x k)) (slice_range visits m (length visits))
      ≡ slice_range visits 0 x ++ (run ++ (slice_range visits x (left_by (gap_joint visits k m) k) ++ slice_range visits (right_by (gap_joint visits k m) m) (length visits)))
  joined-earlier x zero m run order inside inside' = absurd (omega (arith, order))
  joined-earlier x (suc k) m run order inside inside' =
      let before : List Visit = slice_range visits 0 x ++ run in
      let rest : List Visit = slice_range visits m (length visits) in
      let j : Joint = gap_joint visits (suc k) m in
      let y : Visit = get_or visits k (Client 0) in
      let together : slice_range visits 0 x ++ (run ++ slice_range visits x (suc k)) ≡ before ++ slice_range visits x (suc k) = sym (append_assoc (slice_range visits 0 x) run (slice_range visits x (suc k))) in
      let last : last_visit (before ++ slice_range visits x (suc k)) ≡ slice_get visits k =
      ap (λ (n : ℕ). last_visit (before ++ slice_range visits x n)) (sym (add-one k))
      ∙ (ap (λ (xs : List Visit). last_visit (before ++ xs)) (slice-more visits x k (Client 0) (omega arith) (omega arith))
      ∙ (ap last_visit (sym (append_assoc before (slice_range visits x k) (y ∷ [])))
      ∙ (last-behind (before ++ slice_range visits x k) y [] ∙ sym (slice_get-get_or visits k (Client 0) (omega arith))))) in
      ap (λ (xs : List Visit). joined xs rest) together
      ∙ (joined-by (before ++ slice_range visits x (suc k)) rest
      ∙ (ap (λ (i : Joint). joined_by i (before ++ slice_range visits x (suc k)) rest) (ap₂ joint_of last (first-last m inside'))
      ∙ (joined-run j before x (suc k) m order inside inside'
      ∙ (append_assoc before (slice_range visits x (left_by j (suc k))) (slice_range visits (right_by j m) (length visits))
      ∙ append_assoc (slice_range visits 0 x) run (slice_range visits x (left_by j (suc k)) ++ slice_range visits (right_by j m) (length visits))))))

  -- They are taken out, and a run is put in behind them.
  pub joined-later : (k m x : ℕ) (run : List Visit) → k ≤ length visits → m < x → x ≤ length visits →
      joined (slice_range visits 0 k) (slice_range visits m x ++ (run ++ slice_range visits x (length visits)))
      ≡ slice_range visits 0 (left_by (gap_joint visits k m) k) ++ (slice_range visits (right_by (gap_joint visits k m) m) x ++ (run ++ slice_range visits x (length visits)))
  joined-later k m x run inside order inside' =
      let rest : List Visit = run ++ slice_range visits x (length visits) in
      joined-by (slice_range visits 0 k) (slice_range visits m x ++ rest)
      ∙ (ap (λ (i : Joint). joined_by i (slice_range visits 0 k) (slice_range visits m x ++ rest)) (ap₂ joint_of (last-before k inside) (first-behind m x order inside' rest))
      ∙ joined-last (gap_joint visits k m) k m x rest inside order inside')
