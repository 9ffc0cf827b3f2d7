-- Lines one after another, and vehicles type by type.
use Rattle.std.proofs.Common.{◌≡◌, ℕ, suc, ◌+◌, ◌<◌, ◌≤◌, Bool, true, false, cond, List, [], ◌∷◌, ◌++◌, length, replicate, refl, ap, sym, ◌∙◌, add-zero, append_assoc, length-append, map, get_or, take, drop, arith}
use Rattle.std.specs.Prelude.{filter, flat_map, zip}
use Rattle.std.specs.List.{enumerate_from}
use Rattle.std.proofs.lemmas.List.{map-append, take_more, drop_more, length-replicate, length-take-le, take-append-drop}
use Rattle.std.proofs.lemmas.List.Elements.{filter-append}
use Rattle.problem_data.specs.declared.problem.Problem.{Problem}
use Rattle.problem_data.specs.declared.problem.VehicleType.{VehicleType}
use Rattle.problem_data.specs.declared.visit.Visit.{Visit}
use Rattle.routing_model.specs.Routes.{Routes, is_used}
use Rattle.vrp_texts.specs.Printed.{route_line, route_lines_from}
use Rattle.solution_write.specs.inside.Lines.{used_of_type}

-- lines of vehicles after lines of others
pub lines-append : (p : Problem) (k : ℕ) (xs ys : List (ℕ × List Visit)) →
    route_lines_from p k (xs ++ ys) ≡ route_lines_from p k xs ++ route_lines_from p (k + length xs) ys
lines-append p k [] ys = ap (λ n. route_lines_from p n ys) (sym (add-zero k))
lines-append p k (x ∷ xs) ys =
    let next : k + 1 + length xs ≡ k + suc (length xs) = omega arith in
    ap (λ lines. route_line p k x ++ lines) (lines-append p (k + 1) xs ys)
    ∙ ap (λ n. route_line p k x ++ (route_lines_from p (k + 1) xs ++ route_lines_from p n ys)) next
    ∙ sym (append_assoc (route_line p k x) (route_lines_from p (k + 1) xs) (route_lines_from p (k + suc (length xs)) ys))

-- vehicles of one type after others
pub used_of_type-append : (type : ℕ) (xs ys : Routes) → used_of_type type (xs ++ ys) ≡ used_of_type type xs ++ used_of_type type ys
used_of_type-append type xs ys =
    ap (map (λ (visits : List Visit). (type, visits))) (filter-append is_used xs ys)
    ∙ map-append (λ (visits : List Visit). (type, visits)) (filter is_used xs) (filter is_used ys)

-- the types of vehicles, from type i on
abbrev pub types_from : ℕ → List VehicleType → List ℕ
types_from i types = flat_map (λ (e : ℕ × VehicleType). replicate e.1.count e.0) (enumerate_from i types)

-- the used ones of the vehicles of these types, numbered from i
abbrev pub used_from : ℕ → List VehicleType → Routes → List (ℕ × List Visit)
used_from i types routes = filter (λ (vehicle : ℕ × List Visit). is_used vehicle.1) (zip (types_from i types) routes)

drop_read : (types : List VehicleType) (i : ℕ) (t : VehicleType) → i < length types → t ≡ get_or types i t → drop i types ≡ t ∷ drop (i + 1) types
drop_read types i t h e = drop_more types i t h ∙ ap (λ (x : VehicleType). x ∷ drop (i + 1) types) (sym e)

at_most_one_more : (type : ℕ) (visits : List Visit) (used : Routes) (n : ℕ) (b : Bool) →
    length (map (λ (v : List Visit). let pair : ℕ × List Visit = (type, v) in pair) used) ≤ n →
    length (map (λ (v : List Visit). let pair : ℕ × List Visit = (type, v) in pair) (cond b (visits ∷ used) used)) ≤ suc n
at_most_one_more type visits used n true h = omega arith
at_most_one_more type visits used n false h = omega arith

one_more : (type : ℕ) (visits : List Visit) (used : Routes) (ys rest : List (ℕ × List Visit)) (b : Bool) →
    ys ≡ map (λ visits. (type, visits)) used ++ rest →
    cond b ((type, visits) ∷ ys) ys ≡ map (λ visits. (type, visits)) (cond b (visits ∷ used) used) ++ rest
one_more type visits used ys rest true e = ap (λ zs. (type, visits) ∷ zs) e
one_more type visits used ys rest false e = e

-- the used ones of a type's vehicles, and those of the vehicles after them
used_split : (type : ℕ) (of_type : Routes) (types : List ℕ) (rest : Routes) →
    filter (λ (vehicle : ℕ × List Visit). is_used vehicle.1) (zip (replicate (length of_type) type ++ types) (of_type ++ rest))
    ≡ used_of_type type of_type ++ filter (λ (vehicle : ℕ × List Visit). is_used vehicle.1) (zip types rest)
used_split type [] types rest = refl
used_split type (visits ∷ of_type) types rest =
    one_more type visits (filter is_used of_type) _ _ (is_used visits) (used_split type of_type types rest)

-- the same at the first of the types
pub used_from-step : (i : ℕ) (t : VehicleType) (types : List VehicleType) (of_type rest : Routes) → length of_type ≡ t.count →
    used_from i (t ∷ types) (of_type ++ rest) ≡ used_of_type i of_type ++ used_from (i + 1) types rest
used_from-step i t types of_type rest e = rw (← e) (used_split i of_type (types_from (i + 1) types) rest)

-- no more vehicles are used than there are
pub length-used_of_type : (type : ℕ) (routes : Routes) → length (used_of_type type routes) ≤ length routes
length-used_of_type type [] = omega arith
length-used_of_type type (visits ∷ routes) = at_most_one_more type visits (filter is_used routes) (length routes) (is_used visits) (length-used_of_type type routes)

-- one more of the vehicles
pub used_of_type-more : (type i : ℕ) (routes : Routes) (visits : List Visit) → i < length routes → visits ≡ get_or routes i visits →
    used_of_type type (take (i + 1) routes) ≡ used_of_type type (take i routes) ++ used_of_type type (visits ∷ [])
used_of_type-more type i routes visits h e =
    let read : take i routes ++ get_or routes i visits ∷ [] ≡ take i routes ++ visits ∷ [] = ap (λ (v : List Visit). take i routes ++ v ∷ []) (sym e) in
    ap (used_of_type type) (take_more routes i visits h ∙ read) ∙ used_of_type-append type (take i routes) (visits ∷ [])

-- their lines
pub lines_more : (p : Problem) (k n : ℕ) (xs ys zs : List (ℕ × List Visit)) (before now later : List ℕ) →
    now ≡ before ++ route_lines_from p k xs → n ≡ k + length xs → later ≡ now ++ route_lines_from p n ys → zs ≡ xs ++ ys →
    later ≡ before ++ route_lines_from p k zs
lines_more p k n xs ys zs before now later e count f split =
    f ∙ ap (λ t. t ++ route_lines_from p n ys) e
    ∙ append_assoc before (route_lines_from p k xs) (route_lines_from p n ys)
    ∙ ap (λ m. before ++ (route_lines_from p k xs ++ route_lines_from p m ys)) count
    ∙ ap (λ t. before ++ t) (sym (lines-append p k xs ys))
    ∙ ap (λ t. before ++ route_lines_from p k t) (sym split)

-- the lines of the vehicles that are left, after one more type
pub lines_left : (p : Problem) (k n : ℕ) (xs ys zs : List (ℕ × List Visit)) (whole now later : List ℕ) →
    now ++ route_lines_from p k zs ≡ whole → n ≡ k + length xs → later ≡ now ++ route_lines_from p k xs → zs ≡ xs ++ ys →
    later ++ route_lines_from p n ys ≡ whole
lines_left p k n xs ys zs whole now later e count f split =
    ap (λ t. t ++ route_lines_from p n ys) f
    ∙ append_assoc now (route_lines_from p k xs) (route_lines_from p n ys)
    ∙ ap (λ m. now ++ (route_lines_from p k xs ++ route_lines_from p m ys)) count
    ∙ ap (λ t. now ++ t) (sym (lines-append p k xs ys))
    ∙ ap (λ t. now ++ route_lines_from p k t) (sym split)
    ∙ e

-- what is left of the types, and of the vehicles
pub used_from-more : (i : ℕ) (types : List VehicleType) (t : VehicleType) (left : Routes) → i < length types → t ≡ get_or types i t →
    t.count ≤ length left →
    used_from i (drop i types) left ≡ used_of_type i (take t.count left) ++ used_from (i + 1) (drop (i + 1) types) (drop t.count left)
used_from-more i types t left h e fits =
    let first : drop i types ≡ t ∷ drop (i + 1) types = drop_read types i t h e in
    ap (λ (ts : List VehicleType). used_from i ts left) first
    ∙ ap (λ (vs : Routes). used_from i (t ∷ drop (i + 1) types) vs) (sym (take-append-drop t.count left))
    ∙ used_from-step i t (drop (i + 1) types) (take t.count left) (drop t.count left) (length-take-le t.count left fits)

-- how many vehicles are left
pub left-more : (i : ℕ) (types : List VehicleType) (t : VehicleType) (n m : ℕ) → i < length types → t ≡ get_or types i t →
    n ≡ length (types_from i (drop i types)) → m + t.count ≡ n → m ≡ length (types_from (i + 1) (drop (i + 1) types))
left-more i types t n m h e is rest =
    let first : drop i types ≡ t ∷ drop (i + 1) types = drop_read types i t h e in
    let all : length (types_from i (drop i types)) ≡ t.count + length (types_from (i + 1) (drop (i + 1) types)) =
    ap (λ (ts : List VehicleType). length (types_from i ts)) first
    ∙ length-append (replicate t.count i) (types_from (i + 1) (drop (i + 1) types))
    ∙ ap (λ k. k + length (types_from (i + 1) (drop (i + 1) types))) (length-replicate t.count i) in
    omega arith
