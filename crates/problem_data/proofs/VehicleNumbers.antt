-- The numbers of the vehicles' types: how many there are, and that each is a type's.
use Rattle.std.proofs.Common.{◌≡◌, ℕ, ◌+◌, ◌<◌, ◌≤◌, List, [], ◌∷◌, ◌++◌, length, get_or, take, replicate, refl, ap, sym, ◌∙◌, add-zero, arith, length-append, All, sum_by, flat_map}
use Rattle.std.specs.List.{enumerate_from}
use Rattle.std.proofs.lemmas.List.{take_more, length-take-le, append-nil, length-replicate}
use Rattle.std.proofs.lemmas.List.Concat.{flat_map-append}
use Rattle.std.proofs.lemmas.List.Sums.{sum_by-cons}
use Rattle.std.proofs.lemmas.List.Elements.{All-nil, All-append, All-replicate, All-get_or}
use Rattle.problem_data.specs.declared.problem.Problem.{Problem}
use Rattle.problem_data.specs.declared.problem.VehicleType.{VehicleType}
use Rattle.problem_data.specs.Limits.{most_vehicles}
use Rattle.problem_data.specs.Places.{vehicle_count, types_of_vehicles, type_of}
use Rattle.problem_data.specs.Valid.{IsValid}

-- the numbers of the vehicles' types, where the first type's number is n
abbrev pub type_numbers : ℕ → List VehicleType → List ℕ
type_numbers n types = flat_map (λ (e : ℕ × VehicleType). replicate e.1.count e.0) (enumerate_from n types)

enumerate_from-push : {X : Type 0} (n : ℕ) (xs : List X) (x : X) → enumerate_from n (xs ++ x ∷ []) ≡ enumerate_from n xs ++ (n + length xs, x) ∷ []
enumerate_from-push n [] x = ap (λ k. (k, x) ∷ []) (sym (add-zero n))
enumerate_from-push n (y ∷ ys) x =
    let counted : n + 1 + length ys ≡ n + length (y ∷ ys) = omega arith in
    ap (λ zs. (n, y) ∷ zs) (enumerate_from-push (n + 1) ys x ∙ ap (λ k. enumerate_from (n + 1) ys ++ (k, x) ∷ []) counted)

type_numbers-push : (types : List VehicleType) (t : VehicleType) → type_numbers 0 (types ++ t ∷ []) ≡ type_numbers 0 types ++ replicate t.count (length types)
type_numbers-push types t =
    let counted : 0 + length types ≡ length types = omega arith in
    let f = λ (e : ℕ × VehicleType). replicate e.1.count e.0 in
    ap (λ es. flat_map f es) (enumerate_from-push 0 types t)
    ∙ flat_map-append f (enumerate_from 0 types) ((0 + length types, t) ∷ [])
    ∙ ap (λ xs. type_numbers 0 types ++ xs) (append-nil (replicate t.count (0 + length types)) ∙ ap (λ k. replicate t.count k) counted)

-- one more type
pub type_numbers_more : (types : List VehicleType) (i : ℕ) (t : VehicleType) → i < length types → t ≡ get_or types i t → type_numbers 0 (take (i + 1) types) ≡ type_numbers 0 (take i types) ++ replicate t.count i
type_numbers_more types i t h e =
    let here : get_or types i t ≡ t = sym e in
    let below : i ≤ length types = omega arith in
    ap (λ ts. type_numbers 0 ts) (take_more types i t h ∙ ap (λ u. take i types ++ u ∷ []) here)
    ∙ type_numbers-push (take i types) t
    ∙ ap (λ k. type_numbers 0 (take i types) ++ replicate t.count k) (length-take-le i types below)

length-type_numbers : (n : ℕ) (types : List VehicleType) → length (type_numbers n types) ≡ sum_by (λ t. t.count) types
length-type_numbers n [] = refl
length-type_numbers n (t ∷ types) =
    length-append (replicate t.count n) (type_numbers (n + 1) types)
    ∙ ap (λ k. k + length (type_numbers (n + 1) types)) (length-replicate t.count n)
    ∙ ap (λ k. t.count + k) (length-type_numbers (n + 1) types)
    ∙ sym (sum_by-cons (λ t. t.count) t types)

All-type_numbers : (n bound : ℕ) (types : List VehicleType) → n + length types ≤ bound → All (λ number. number < bound) (type_numbers n types)
All-type_numbers n bound [] h = All-nil (λ number. number < bound)
All-type_numbers n bound (t ∷ types) h =
    let here : n < bound = omega arith in
    let rest : n + 1 + length types ≤ bound = omega arith in
    All-append (λ number. number < bound) (replicate t.count n) (type_numbers (n + 1) types)
    (All-replicate (λ number. number < bound) t.count n here)
    (All-type_numbers (n + 1) bound types rest)

-- a valid problem has no more vehicles than the limit
pub vehicle_count_limit : (p : Problem) → IsValid p → vehicle_count p ≤ most_vehicles
vehicle_count_limit p valid = rw (length-type_numbers 0 p.types) valid.vehicle_limit

-- each vehicle's type is one of the types
pub type_of_in_range : (p : Problem) (vehicle : ℕ) → vehicle < vehicle_count p → type_of p vehicle < length p.types
type_of_in_range p vehicle h =
    All-get_or (λ number. number < length p.types) (types_of_vehicles p) vehicle 0 h (All-type_numbers 0 (length p.types) p.types (omega arith))
