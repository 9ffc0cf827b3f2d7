-- The new list of a turn, as what is left with the other client put in.
use Rattle.std.proofs.Common.{◌≡◌, ℕ, ◌+◌, ◌-◌, ◌<◌, ◌≤◌, nat_lt, Bool, true, false, cond, List, [], ◌∷◌, ◌++◌, length, length-append, take, drop, refl, sym, ◌∙◌, ap, subst, arith, append_assoc, slice_range}
use Rattle.std.specs.Prelude.{insert, slice_index}
use Rattle.std.proofs.lemmas.Bool.Decides.{nat_tests}
use Rattle.std.proofs.lemmas.List.{length-drop, length-map, map-append, take-append-drop}
use Rattle.problem_data.specs.declared.visit.Visit.{Visit}
use Rattle.problem_data.specs.declared.visit.Visit.TheVariants.{Client}
use Rattle.routing_model.specs.Routes.{Routes, list_at}
use Rattle.search_model.specs.Edits.{visits_of}
use Rattle.search_model.specs.RouteMoves.{omitted}
use Rattle.gain_model.specs.Growths.{StandAtMostOnce}
use Rattle.gain_model.proofs.Ways.{visits_of-insert}
use Rattle.new_lists.specs.NewLists.{list_of}
use Rattle.star_pairs.specs.declared.pair.Turn.{Turn}
use Rattle.star_pairs.proofs.SplitLists.{IsSplit, index-split, omitted-split, split-at}
use Rattle.route_moves.specs.inside.Stars.{turned_by, turned_list}
use Rattle.route_moves.proofs.CutLists.{cut-length, early-cut, late-cut}

-- a list with a visit at a place before another one that goes, and behind it
abbrev early : List Visit → Visit → ℕ → ℕ → List Visit
early own y goes place = slice_range own 0 place ++ ((y ∷ []) ++ (slice_range own place goes ++ slice_range own (goes + 1) (length own)))

abbrev late : List Visit → Visit → ℕ → ℕ → List Visit
late own y goes place = slice_range own 0 goes ++ (slice_range own (goes + 1) (place + 1) ++ ((y ∷ []) ++ slice_range own (place + 1) (length own)))

abbrev turned : List Visit → Visit → ℕ → ℕ → List Visit
turned own y goes place = cond (nat_lt place goes) (early own y goes place) (late own y goes place)

turned-is : (routes : Routes) (vehicle client : ℕ) (turn : Turn) → list_of routes (turned_list vehicle client turn) ≡ turned (list_at routes vehicle) (Client client) turn.goes turn.place
turned-is routes vehicle client turn = by (nat_lt turn.place turn.goes)
  where
    by : (b : Bool) → list_of routes (turned_by b vehicle client turn) ≡ cond b (early (list_at routes vehicle) (Client client) turn.goes turn.place) (late (list_at routes vehicle) (Client client) turn.goes turn.place)
    by true = refl
    by false = refl

module _ (before : List ℕ) (u : ℕ) (behind : List ℕ) (client place : ℕ) (inside : place ≤ length (before ++ behind)) where
  abbrev i : ℕ
  i = length before

  abbrev y : Visit
  y = Client client

  abbrev zs : List Visit
  zs = visits_of behind

  abbrev A : List Visit
  A = visits_of (before ++ u ∷ behind)

  parts : A ≡ visits_of before ++ Client u ∷ zs
  parts = map-append Client before (u ∷ behind)

  size : length (visits_of before) ≡ i
  size = length-map before Client

  is-early : place < i → early A y i place ≡ insert (visits_of before ++ zs) place y
  is-early low =
      let xs : List Visit = take place (visits_of before) in
      let ys : List Visit = drop place (visits_of before) in
      let cut : xs ++ ys ≡ visits_of before = take-append-drop place (visits_of before) in
      let known = size in
      let first : place ≡ length xs = cut-length place (visits_of before) (omega (arith, known, low)) in
      let rest : length ys ≡ length (visits_of before) - place = length-drop place (visits_of before) in
      let second : i ≡ length xs + length ys = omega (arith, first, rest, known, low) in
      let whole : A ≡ xs ++ (ys ++ Client u ∷ zs) = parts ∙ (ap (λ (ws : List Visit). ws ++ Client u ∷ zs) (sym cut) ∙ append_assoc xs ys (Client u ∷ zs)) in
      let back : xs ++ (ys ++ zs) ≡ visits_of before ++ zs = sym (append_assoc xs ys zs) ∙ ap (λ (ws : List Visit). ws ++ zs) cut in
      subst (λ (W : List Visit). early W y i place ≡ insert (xs ++ (ys ++ zs)) place y) (sym whole) (early-cut xs ys (Client u) zs y place i (length (xs ++ (ys ++ Client u ∷ zs))) first second refl)
      ∙ ap (λ (ws : List Visit). insert ws place y) back

  is-late : i ≤ place → late A y i place ≡ insert (visits_of before ++ zs) place y
  is-late high =
      let n : ℕ = place - i in
      let ys : List Visit = take n zs in
      let es : List Visit = drop n zs in
      let cut : ys ++ es ≡ zs = take-append-drop n zs in
      let known = size in
      let all = length-append before behind in
      let others : length zs ≡ length behind = length-map behind Client in
      let low : n ≤ length zs = omega (arith, others, all, inside, high) in
      let long : n ≡ length ys = cut-length n zs low in
      let first : i ≡ length (visits_of before) = sym size in
      let second : place ≡ length (visits_of before) + length ys = omega (arith, known, long, high) in
      let whole : A ≡ visits_of before ++ Client u ∷ (ys ++ es) = parts ∙ ap (λ (ws : List Visit). visits_of before ++ Client u ∷ ws) (sym cut) in
      subst (λ (W : List Visit). late W y i place ≡ insert (visits_of before ++ (ys ++ es)) place y) (sym whole)
      (late-cut (visits_of before) ys (Client u) es y i place (length (visits_of before ++ Client u ∷ (ys ++ es))) first second refl)
      ∙ ap (λ (ws : List Visit). insert (visits_of before ++ ws) place y) cut

  is-turned : turned A y i place ≡ visits_of (insert (before ++ behind) place client)
  is-turned = by (nat_lt place i) refl ∙ (ap (λ (ws : List Visit). insert ws place y) (sym (map-append Client before behind)) ∙ visits_of-insert (before ++ behind) place client)
    where
      by : (b : Bool) → nat_lt place i ≡ b → cond b (early A y i place) (late A y i place) ≡ insert (visits_of before ++ zs) place y
      by true e = is-early (let l : place < i = grind (arith, nat_tests) in l)
      by false e = is-late (let l : i ≤ place = grind (arith, nat_tests) in l)

abbrev AtSplit : ℕ → ℕ → List ℕ → ℕ → Type 0
AtSplit client place xs k = StandAtMostOnce xs → place < length xs → turned (visits_of xs) (Client client) k place ≡ visits_of (insert (omitted (slice_index xs k) xs) place client)

split-turned : (us : List ℕ) → StandAtMostOnce us → (i client place : ℕ) → i < length us → place < length us →
    turned (visits_of us) (Client client) i place ≡ visits_of (insert (omitted (slice_index us i) us) place client)
split-turned us once i client place in_i inside = by (split-at us i in_i) once inside
  where
    at : (before : List ℕ) (u : ℕ) (behind : List ℕ) → AtSplit client place (before ++ u ∷ behind) (length before)
    at before u behind once' low =
        let a = length-append before (u ∷ behind) in
        let b = length-append before behind in
        is-turned before u behind client place (omega (arith, a, b, low))
        ∙ ap (λ (xs : List ℕ). visits_of (insert xs place client)) (sym (ap (λ (x : ℕ). omitted x (before ++ u ∷ behind)) (index-split before u behind) ∙ omitted-split before u behind (once' u)))

    by : IsSplit us i → AtSplit client place us i
    by s = subst (AtSplit client place us) s.place (subst (λ (xs : List ℕ). AtSplit client place xs (length s.before)) (sym s.whole) (at s.before s.u s.behind))

-- the new list of a turn
pub turned-list : (routes : Routes) (vehicle client : ℕ) (turn : Turn) (us : List ℕ) → list_at routes vehicle ≡ visits_of us → StandAtMostOnce us → turn.goes < length us → turn.place < length us →
    list_of routes (turned_list vehicle client turn) ≡ visits_of (insert (omitted (slice_index us turn.goes) us) turn.place client)
turned-list routes vehicle client turn us whole once in_i inside =
    turned-is routes vehicle client turn ∙ (ap (λ (xs : List Visit). turned xs (Client client) turn.goes turn.place) whole ∙ split-turned us once turn.goes client turn.place in_i inside)
