-- Examples of words and of names, closed by computation.
use Rattle.std.proofs.Common.{◌≡◌, [], ◌∷◌, refl, codes, Some, None}
use Rattle.command_model.specs.Words.{asked, base_name}

right : asked (codes "--seed" ∷ codes "1" ∷ codes "--max_iterations" ∷ codes "0" ∷ codes "three.vrp" ∷ [])
    ≡ Some (record { seed = 1; iterations = 0; path = codes "three.vrp" })
right = refl

-- a plus and noughts before a number
plus : asked (codes "--seed" ∷ codes "+4294967295" ∷ codes "--max_iterations" ∷ codes "001" ∷ codes "a/b.vrp" ∷ [])
    ≡ Some (record { seed = 4294967295; iterations = 1; path = codes "a/b.vrp" })
plus = refl

none : asked [] ≡ None
none = refl

another_order : asked (codes "--max_iterations" ∷ codes "0" ∷ codes "--seed" ∷ codes "1" ∷ codes "three.vrp" ∷ []) ≡ None
another_order = refl

two_names : asked (codes "--seed" ∷ codes "1" ∷ codes "--max_iterations" ∷ codes "0" ∷ codes "a.vrp" ∷ codes "b.vrp" ∷ []) ≡ None
two_names = refl

seed_too_large : asked (codes "--seed" ∷ codes "4294967296" ∷ codes "--max_iterations" ∷ codes "0" ∷ codes "three.vrp" ∷ []) ≡ None
seed_too_large = refl

most_iterations : asked (codes "--seed" ∷ codes "1" ∷ codes "--max_iterations" ∷ codes "1000000000" ∷ codes "three.vrp" ∷ [])
    ≡ Some (record { seed = 1; iterations = 1000000000; path = codes "three.vrp" })
most_iterations = refl

too_many_iterations : asked (codes "--seed" ∷ codes "1" ∷ codes "--max_iterations" ∷ codes "1000000001" ∷ codes "three.vrp" ∷ []) ≡ None
too_many_iterations = refl

no_number : asked (codes "--seed" ∷ codes "" ∷ codes "--max_iterations" ∷ codes "0" ∷ codes "three.vrp" ∷ []) ≡ None
no_number = refl

option_as_name : asked (codes "--seed" ∷ codes "1" ∷ codes "--max_iterations" ∷ codes "0" ∷ codes "-three.vrp" ∷ []) ≡ None
option_as_name = refl

base : base_name (codes "a/b.c/three.vrp") ≡ codes "three"
base = refl

no_ending : base_name (codes "three.txt") ≡ codes "three.txt"
no_ending = refl

ending_alone : base_name (codes "a/.vrp") ≡ []
ending_alone = refl
