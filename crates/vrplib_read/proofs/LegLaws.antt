-- Tables of legs: how many legs they have, how large these are, and which they are.
use Rattle.std.proofs.Common.{◌≡◌, ◌==◌, ℕ, ◌*◌, ◌^◌, ◌≤◌, Bool, true, false, cond, List, [], ◌∷◌, get_or, map, refl, sym, ◌∙◌, ap, subst, Option, ℤ, arith}
use Rattle.std.specs.Prelude.{◌-ℤ◌, nat_abs}
use Rattle.std.specs.List.{All}
use Rattle.std.proofs.lemmas.Simd.{map-map}
use Rattle.std.proofs.lemmas.Bool.Decides.{nat_tests}
use Rattle.std.proofs.lemmas.Int.{ints}
use Rattle.std.proofs.lemmas.List.Elements.{All-head, All-tail, All-nil, All-map, All-append}
use Rattle.problem_data.specs.declared.problem.Place.{Place}
use Rattle.problem_data.specs.Valid.{IsValidPlace}
use Rattle.vrp_num.specs.declared.rounding.Rounding.{Rounding}
use Rattle.vrp_num.specs.declared.rounding.Rounding.TheVariants.{Round, Trunc, Dimacs, Exact}
use Rattle.vrp_num.specs.Rounding.{IsDistance, distance, square}
use Rattle.vrp_num.proofs.RoundingLaws.{distance_is, distance_is_one}
use Rattle.vrplib_read.specs.declared.reading.Reading.{Reading}
use Rattle.vrplib_rows.specs.declared.weight_format.WeightFormat.{WeightFormat}
use Rattle.vrplib_model.specs.LineKinds.{Line}
use Rattle.vrplib_model.specs.Values.{is_explicit}
use Rattle.vrplib_model.specs.Entries.{coordinates, counted, nodes}
use Rattle.vrplib_model.specs.inside.FaultlessRows.{IsBetween}
use Rattle.vrplib_model.specs.Legs.{base_leg}
use Rattle.vrplib_read.specs.inside.Stands.{Stands}
use Rattle.vrplib_read.specs.inside.OfText.{known_nodes, known_weights, place_by, place_leg, weight_leg}
use Rattle.vrplib_model.specs.Numbers.{number_at}
use Rattle.vrplib_read.proofs.LegBounds.{leg_within, square_bound}
use Rattle.vrplib_model.proofs.LegTables.{rows_by}
use Rattle.vrplib_read.proofs.RowLaws.{number_within}
use Rattle.vrplib_read.proofs.Standing.{nodes_stand, weights_stand}

pub rows_within : {X Y : Type 0} (b : ℕ) (P : X → Type 0) (Q : Y → Type 0) (f : X → Y → ℕ) → ((x : X) (y : Y) → P x → Q y → f x y ≤ b) →
    (xs : List X) (ys : List Y) → All P xs → All Q ys → All (λ leg. leg ≤ b) (rows_by f xs ys)
rows_within b P Q f small [] ys px qy = All-nil (λ leg. leg ≤ b)
rows_within b P Q f small (x ∷ xs) ys px qy =
    All-append (λ leg. leg ≤ b) (map (f x) ys) (rows_by f xs ys)
    (All-map (λ leg. leg ≤ b) (f x) ys (λ k d within. small x (get_or ys k d) (All-head P x xs px) (qy k d within)))
    (rows_within b P Q f small xs ys (All-tail P x xs px) qy)

pub map_same : {X Y : Type 0} (f g : X → Y) → ((x : X) → f x ≡ g x) → (xs : List X) → map f xs ≡ map g xs
map_same f g same [] = refl
map_same f g same (x ∷ xs) = rw (same x, map_same f g same xs) refl

pub rows_same : {X Y : Type 0} (f g : X → Y → ℕ) → ((x : X) (y : Y) → f x y ≡ g x y) → (xs : List X) (ys : List Y) → rows_by f xs ys ≡ rows_by g xs ys
rows_same f g same [] ys = refl
rows_same f g same (x ∷ xs) ys = rw (map_same (f x) (g x) (same x) ys, rows_same f g same xs ys) refl

rows_of_map : {X Y : Type 0} (f : Y → Y → ℕ) (v : X → Y) (xs ys : List X) → rows_by f (map v xs) (map v ys) ≡ rows_by (λ a b. f (v a) (v b)) xs ys
rows_of_map f v [] ys = refl
rows_of_map f v (x ∷ xs) ys = rw (map-map (f (v x)) v ys, rows_of_map f v xs ys) refl

no_gap : (z : ℤ) → nat_abs (z -ℤ z) ≡ 0
no_gap z = omega (arith, ints)

no_square : (mode : Rounding) (x y : ℤ) → square mode (x, y) (x, y) ≡ 0
no_square Round x y = rw (no_gap x, no_gap y) refl
no_square Trunc x y = rw (no_gap x, no_gap y) refl
no_square Dimacs x y = rw (no_gap x, no_gap y) refl
no_square Exact x y = rw (no_gap x, no_gap y) refl

zero_fits : (mode : Rounding) (x y : ℤ) → IsDistance mode (x, y) (x, y) 0
zero_fits Round x y = rw (no_square Round x y) (omega arith, omega arith)
zero_fits Trunc x y = rw (no_square Trunc x y) (omega arith, omega arith)
zero_fits Dimacs x y = rw (no_square Dimacs x y) (omega arith, omega arith)
zero_fits Exact x y = rw (no_square Exact x y) (omega arith, omega arith)

-- no distance from a place to itself
distance_self : (mode : Rounding) (x y : ℤ) → distance mode (x, y) (x, y) ≡ 0
distance_self mode x y =
    distance_is_one mode (x, y) (x, y) (distance mode (x, y) (x, y)) 0 (distance_is mode (x, y) (x, y) (rw (no_square mode x y) (omega arith))) (zero_fits mode x y)

same_node : (i j : ℕ) → (i == j) ≡ true → i ≡ j
same_node i j e = grind (arith, nat_tests)

leg_by_test : (mode : Rounding) (all : List Line) (i j : ℕ) (b : Bool) → (i == j) ≡ b →
    cond b 0 (place_leg mode (coordinates mode all i) (coordinates mode all j)) ≡ place_leg mode (coordinates mode all i) (coordinates mode all j)
leg_by_test mode all i j false e = refl
leg_by_test mode all i j true e =
    let P : ℕ → Type 0 = λ n. 0 ≡ place_leg mode (coordinates mode all i) (coordinates mode all n) in
    subst P (same_node i j e) (sym (distance_self mode (coordinates mode all i).x (coordinates mode all i).y))

-- the legs by coordinates
pub euclidean_leg_is : (mode : Rounding) (all : List Line) → is_explicit all ≡ false → (i j : ℕ) →
    place_leg mode (coordinates mode all i) (coordinates mode all j) ≡ base_leg mode all i j
unfolding base_leg
euclidean_leg_is mode all e i j = rw e (sym (leg_by_test mode all i j (i == j) refl))

-- the legs that the text gives
pub explicit_leg_is : (r : Reading) (all : List Line) → Stands r.mode all r → is_explicit all ≡ true → (i j : ℕ) →
    weight_leg r.keywords.weight_format (known_nodes r) (known_weights r) i j ≡ base_leg r.mode all i j
unfolding base_leg
explicit_leg_is r all st e i j = rw (e, st.keywords.full, st.keywords.lower, nodes_stand r all st, weights_stand r all st) refl

pub euclidean_rows : (mode : Rounding) (all : List Line) (places : List Place) (legs : List ℕ) → legs ≡ rows_by (place_leg mode) places places →
    places ≡ map (coordinates mode all) (nodes mode all) → is_explicit all ≡ false → legs ≡ rows_by (base_leg mode all) (nodes mode all) (nodes mode all)
euclidean_rows mode all places legs h placed e =
    h ∙ ap (λ ps. rows_by (place_leg mode) ps ps) placed ∙ rows_of_map (place_leg mode) (coordinates mode all) (nodes mode all) (nodes mode all)
    ∙ rows_same (λ i j. place_leg mode (coordinates mode all i) (coordinates mode all j)) (base_leg mode all) (euclidean_leg_is mode all e) (nodes mode all) (nodes mode all)

pub explicit_rows : (r : Reading) (all : List Line) → Stands r.mode all r → (n : ℕ) (weights : List ℤ) (legs : List ℕ) → n ≡ known_nodes r → weights ≡ known_weights r →
    legs ≡ rows_by (weight_leg r.keywords.weight_format n weights) (counted 1 n) (counted 1 n) → is_explicit all ≡ true →
    legs ≡ rows_by (base_leg r.mode all) (nodes r.mode all) (nodes r.mode all)
explicit_rows r all st n weights legs hn hw h e =
    h ∙ ap (λ m. rows_by (weight_leg r.keywords.weight_format m weights) (counted 1 m) (counted 1 m)) hn
    ∙ ap (λ ws. rows_by (weight_leg r.keywords.weight_format (known_nodes r) ws) (counted 1 (known_nodes r)) (counted 1 (known_nodes r))) hw
    ∙ rows_same (weight_leg r.keywords.weight_format (known_nodes r) (known_weights r)) (base_leg r.mode all) (explicit_leg_is r all st e) (counted 1 (known_nodes r)) (counted 1 (known_nodes r))
    ∙ ap (λ m. rows_by (base_leg r.mode all) (counted 1 m) (counted 1 m)) (sym (nodes_stand r all st))

place_small : (mode : Rounding) (a b : Place) → IsValidPlace a → IsValidPlace b → place_leg mode a b ≤ 4 * 10 ^ 9
place_small mode a b va vb =
    let small : square mode (a.x, a.y) (b.x, b.y) ≤ 8 * 10 ^ 30 = square_bound mode (a.x, a.y) (b.x, b.y) (va.x, va.y) (vb.x, vb.y) in
    leg_within mode (a.x, a.y) (b.x, b.y) (place_leg mode a b) (va.x, va.y) (vb.x, vb.y) (distance_is mode (a.x, a.y) (b.x, b.y) (omega (arith, small)))

pub places_within : (mode : Rounding) (places : List Place) → All IsValidPlace places → All (λ leg. leg ≤ 4 * 10 ^ 9) (rows_by (place_leg mode) places places)
places_within mode places valid = rows_within (4 * 10 ^ 9) IsValidPlace IsValidPlace (place_leg mode) (place_small mode) places places valid valid

weight_by_test : (format : Option WeightFormat) (n : ℕ) (weights : List ℤ) (i j : ℕ) → All (IsBetween 0 (4 * 10 ^ 9)) weights → (b : Bool) →
    cond b 0 (number_at (place_by format n i j) weights) ≤ 4 * 10 ^ 9
weight_by_test format n weights i j each true = omega arith
weight_by_test format n weights i j each false = number_within (4 * 10 ^ 9) (place_by format n i j) weights each

abbrev AnyNumber : ℕ → Type 0
AnyNumber n = 0 ≤ n

pub weights_small : (format : Option WeightFormat) (n : ℕ) (weights : List ℤ) (xs ys : List ℕ) → All (IsBetween 0 (4 * 10 ^ 9)) weights →
    All (λ leg. leg ≤ 4 * 10 ^ 9) (rows_by (weight_leg format n weights) xs ys)
weights_small format n weights xs ys each =
    rows_within (4 * 10 ^ 9) AnyNumber AnyNumber (weight_leg format n weights) (λ i j _ _. weight_by_test format n weights i j each (i == j)) xs ys
    (λ k d within. omega arith) (λ k d within. omega arith)
