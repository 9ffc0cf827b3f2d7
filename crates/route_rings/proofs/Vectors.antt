-- The vector of a list, one visit after the other.
use Rattle.std.proofs.Common.{◌≡◌, ℕ, suc, ◌+◌, ◌<◌, ◌≤◌, List, [], ◌∷◌, ◌++◌, length, get_or, take, take-suc, sym, ◌∙◌, ap, ap₂, subst, arith, w64, to_z, of_z}
use Rattle.std.specs.Prelude.{ℤ, fold, pos, ◌-ℤ◌, ◌+ℤ◌}
use Rattle.std.proofs.lemmas.Int.{ints}
use Rattle.std.proofs.lemmas.List.Elements.{All-get_or}
use Rattle.std.proofs.lemmas.List.Sums.{fold-append}
use Rattle.std.proofs.lemmas.Option.{unwrap_or-slice_get}
use Rattle.problem_data.specs.declared.problem.Place.{Place}
use Rattle.problem_data.specs.declared.problem.Problem.{Problem}
use Rattle.problem_data.specs.declared.visit.Visit.{Visit}
use Rattle.problem_data.specs.declared.visit.Visit.TheVariants.{Client, Reload}
use Rattle.problem_data.specs.Limits.{most_visits}
use Rattle.problem_data.specs.Valid.{IsValid, IsValidPlace}
use Rattle.routing_model.specs.Routes.{clients_of}
use Rattle.genetic_model.specs.declared.vector.Vector.{Vector}
use Rattle.genetic_model.specs.RouteOrder.{offset, route_vector, vector_sum}
use Rattle.route_rings.specs.inside.Directions.{IsShort, offset_of}
use Rattle.route_rings.proofs.Crossings.{offset-is, offset-short, sum-is, sum-short}

abbrev nowhere : Place
nowhere = record { x = pos 0; y = pos 0 }

-- where a client lies as seen from the first place, as the code has it
module _ (p : Problem) (valid : IsValid p) (places : List Place) (same : places ≡ p.places) (c : ℕ) (there : c < length places) (some : 0 < length places) where
  bounded : (i : ℕ) → i < length places → IsValidPlace (get_or places i nowhere)
  bounded i h = subst (λ (xs : List Place). i < length xs → IsValidPlace (get_or xs i nowhere)) (sym same) (λ within. All-get_or IsValidPlace p.places i nowhere within valid.each_place) h

  abbrev to : Place
  to = get_or places c nowhere

  abbrev from : Place
  from = get_or places 0 nowhere

  -- as it is looked up
  looked-up : record { x = to.x -ℤ from.x; y = to.y -ℤ from.y } ≡ offset p c
  looked-up =
      ap (λ (xs : List Place). record { x = (get_or xs c nowhere).x -ℤ (get_or xs 0 nowhere).x; y = (get_or xs c nowhere).y -ℤ (get_or xs 0 nowhere).y }) same
      ∙ ap₂ (λ (u v : Place). record { x = u.x -ℤ v.x; y = u.y -ℤ v.y }) (sym (unwrap_or-slice_get p.places c nowhere)) (sym (unwrap_or-slice_get p.places 0 nowhere))

  pub offset-found : record { x = to_z w64 (of_z w64 (to_z w64 (of_z w64 to.x) -ℤ to_z w64 (of_z w64 from.x))); y = to_z w64 (of_z w64 (to_z w64 (of_z w64 to.y) -ℤ to_z w64 (of_z w64 from.y))) } ≡ offset p c
  offset-found =
      (λ i. record { x = offset-is to.x from.x (bounded c there).x (bounded 0 some).x i; y = offset-is to.y from.y (bounded c there).y (bounded 0 some).y i }) ∙ looked-up

  pub offset-reach : IsShort 1 (offset p c)
  offset-reach = subst (IsShort 1) looked-up (record { x = offset-short to.x from.x (bounded c there).x (bounded 0 some).x; y = offset-short to.y from.y (bounded c there).y (bounded 0 some).y })

-- one visit more
pub clients-with : (xs : List Visit) (v : Visit) → clients_of (xs ++ v ∷ []) ≡ clients_of xs ++ clients_of (v ∷ [])
clients-with [] (Client c) = λ i. c ∷ []
clients-with [] (Reload d) = λ i. []
clients-with (Client c ∷ xs) v = ap (λ (cs : List ℕ). c ∷ cs) (clients-with xs v)
clients-with (Reload d ∷ xs) v = clients-with xs v

with-nothing : (v : Vector) → vector_sum v (record { x = pos 0; y = pos 0 }) ≡ v
with-nothing v = λ i. record { x = zero v.x i; y = zero v.y i }
  where
    zero : (z : ℤ) → z +ℤ pos 0 ≡ z
    zero z = omega (arith, ints)

module _ (p : Problem) where
  with-one : (xs : List Visit) (v : Visit) → route_vector p (xs ++ v ∷ []) ≡ vector_sum (route_vector p xs) (offset_of p v)
  with-one xs (Client c) =
      ap (fold (λ (s : Vector) (k : ℕ). vector_sum s (offset p k)) (record { x = pos 0; y = pos 0 })) (clients-with xs (Client c))
      ∙ fold-append (λ (s : Vector) (k : ℕ). vector_sum s (offset p k)) (record { x = pos 0; y = pos 0 }) (clients_of xs) (c ∷ [])
  with-one xs (Reload d) =
      ap (fold (λ (s : Vector) (k : ℕ). vector_sum s (offset p k)) (record { x = pos 0; y = pos 0 })) (clients-with xs (Reload d))
      ∙ (fold-append (λ (s : Vector) (k : ℕ). vector_sum s (offset p k)) (record { x = pos 0; y = pos 0 }) (clients_of xs) []
      ∙ sym (with-nothing (route_vector p xs)))

  -- the sum so far with the next visit's offset, as the code has it
  module _ (visits : List Visit) (k : ℕ) (v : Visit) (inside : k < length visits) (is : get_or visits k (Client 0) ≡ v) (few : length visits ≤ most_visits) (sum off : Vector)
      (so_far : sum ≡ route_vector p (take k visits)) (short : IsShort k sum) (next : off ≡ offset_of p v) (step : IsShort 1 off) where
    abbrev found : Vector
    found = record { x = to_z w64 (of_z w64 (to_z w64 (of_z w64 sum.x) +ℤ to_z w64 (of_z w64 off.x))); y = to_z w64 (of_z w64 (to_z w64 (of_z w64 sum.y) +ℤ to_z w64 (of_z w64 off.y))) }

    exact : found ≡ vector_sum sum off
    exact = λ i. record { x = sum-is k sum.x off.x (omega arith) short.x step.x i; y = sum-is k sum.y off.y (omega arith) short.y step.y i }

    pub grown : found ≡ route_vector p (take (k + 1) visits)
    grown =
        exact
        ∙ (ap₂ vector_sum so_far next
        ∙ (sym (with-one (take k visits) v)
        ∙ (ap (λ (w : Visit). route_vector p (take k visits ++ w ∷ [])) (sym is)
        ∙ (ap (route_vector p) (sym (take-suc visits k (Client 0) inside)) ∙ ap (λ (n : ℕ). route_vector p (take n visits)) (suc-is k)))))
      where
        suc-is : (n : ℕ) → suc n ≡ n + 1
        suc-is n = omega arith

    pub grown-short : IsShort (k + 1) found
    grown-short = subst (IsShort (k + 1)) (sym exact) (record { x = sum-short k sum.x off.x short.x step.x; y = sum-short k sum.y off.y short.y step.y })
