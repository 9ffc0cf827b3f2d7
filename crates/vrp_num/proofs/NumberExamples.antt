-- Examples, closed by computation.
use Rattle.std.proofs.Common.{◌≡◌, [], ◌∷◌, pos, refl, Ok, Err, codes}
use Rattle.vrp_num.specs.declared.rounding.Rounding.TheVariants.{Round, Trunc, Dimacs, Exact}
use Rattle.vrp_num.specs.declared.decimal.NumberFault.TheVariants.{NotNumber, TooLarge, TooFine}
use Rattle.vrp_num.specs.Rounding.{distance}
use Rattle.vrp_num.specs.Root.{root}
use Rattle.vrp_num.specs.DecimalText.{read, parts_of, is_number}
use Rattle.vrp_num.specs.Words.{words, seeded}
use Rattle.vrp_num.specs.Orders.{random_order}

root_17 : root 17 ≡ 4
unfolding root
root_17 = refl

unit_diagonal : distance Exact (pos 0, pos 0) (pos 1000000, pos 1000000) ≡ 1414
unfolding distance
unit_diagonal = refl

half_round : distance Round (pos 0, pos 0) (pos 1500000, pos 2000000) ≡ 3
unfolding distance
half_round = refl

half_trunc : distance Trunc (pos 0, pos 0) (pos 1500000, pos 2000000) ≡ 2
unfolding distance
half_trunc = refl

half_dimacs : distance Dimacs (pos 0, pos 0) (pos 1500000, pos 2000000) ≡ 25
unfolding distance
half_dimacs = refl

half_exact : distance Exact (pos 0, pos 0) (pos 1500000, pos 2000000) ≡ 2500
unfolding distance
half_exact = refl

first_words : words 2 (seeded 1) ≡ 2386648103 ∷ 1236469111 ∷ []
unfolding words
first_words = refl

order : random_order (1 ∷ 2 ∷ 3 ∷ []) (seeded 1) ≡ 2 ∷ 1 ∷ 3 ∷ []
unfolding words
order = refl

fifteen : read (codes "1.5e1") ≡ Ok (record { micro = pos 15000000 })
unfolding read parts_of is_number
fifteen = refl

five : read (codes "5.") ≡ Ok (record { micro = pos 5000000 })
unfolding read parts_of is_number
five = refl

point : read (codes ".") ≡ Err NotNumber
unfolding read parts_of is_number
point = refl

large : read (codes "1e13") ≡ Err TooLarge
unfolding read parts_of is_number
large = refl

fine : read (codes "1e-7") ≡ Err TooFine
unfolding read parts_of is_number
fine = refl

marsaglia : words 1 (record { x = 123456789; y = 362436069; z = 521288629; w = 88675123 }) ≡ 3701687786 ∷ []
unfolding words
marsaglia = refl
