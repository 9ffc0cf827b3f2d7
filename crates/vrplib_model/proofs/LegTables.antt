-- How many entries a table by rows and columns has.
use Rattle.std.proofs.Common.{◌≡◌, ℕ, ◌+◌, ◌*◌, List, [], ◌∷◌, length, map, ◌∙◌, ap, arith}
use Rattle.std.specs.List.{flat_map}
use Rattle.std.proofs.lemmas.List.{length-append, length-map}

-- a table by rows and columns
abbrev pub rows_by : {X Y : Type 0} → (X → Y → ℕ) → List X → List Y → List ℕ
rows_by f xs ys = flat_map (λ x. map (f x) ys) xs

pub rows_length : {X Y : Type 0} (f : X → Y → ℕ) (xs : List X) (ys : List Y) → length (rows_by f xs ys) ≡ length xs * length ys
rows_length f [] ys = omega arith
rows_length f (x ∷ xs) ys =
    length-append (map (f x) ys) (rows_by f xs ys) ∙ ap (λ n. n + length (rows_by f xs ys)) (length-map ys (f x)) ∙ ap (λ n. length ys + n) (rows_length f xs ys) ∙ omega arith
