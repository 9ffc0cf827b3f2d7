-- No client stands twice in the new lists of a lawful plan.
use Rattle.std.proofs.Common.{◌≡◌, ◌≢◌, ℕ, ◌+◌, ◌<◌, ◌≤◌, true, List, [], ◌∷◌, length, get_or, set, refl, sym, ◌∙◌, ap, arith, length-set}
use Rattle.std.proofs.lemmas.List.{get_or-set_other, get_or-set_same}
use Rattle.std.proofs.lemmas.List.Sums.{sum_by-cons, sum_by-set}
use Rattle.problem_data.specs.declared.problem.Problem.{Problem}
use Rattle.problem_data.specs.declared.visit.Visit.{Visit}
use Rattle.routing_model.specs.Lawful.{is_lawful}
use Rattle.routing_model.specs.Routes.{Routes, visit_count}
use Rattle.search_model.proofs.ClientPlaces.{times_in}
use Rattle.search_model.proofs.RunMoves.{lawful-once}

module _ (p : Problem) (routes : Routes) where
  pub once-one : (a : ℕ) (xs : List Visit) → a < length routes → is_lawful p (set routes a xs) ≡ true → (c : ℕ) → visit_count (xs ∷ []) c ≤ 1
  once-one a xs in_a lawful c =
      let new : Routes = set routes a xs in
      let long : length new ≡ length routes = length-set routes a xs in
      let sum = sum_by-set (times_in c) new a [] [] (omega arith) in
      let here : times_in c (get_or new a []) ≡ times_in c xs = ap (times_in c) (get_or-set_same routes a xs [] in_a) in
      let lists = sum_by-cons (times_in c) xs [] in
      let once : visit_count new c ≤ 1 = lawful-once p new lawful c in
      let none : times_in c [] ≡ 0 = refl in
      let none' : visit_count [] c ≡ 0 = refl in
      omega (arith, sum, here, lists, once)

  pub once-two : (a b : ℕ) (xs ys : List Visit) → a < length routes → b < length routes → b ≢ a → is_lawful p (set (set routes a xs) b ys) ≡ true → (c : ℕ) → visit_count (xs ∷ ys ∷ []) c ≤ 1
  once-two a b xs ys in_a in_b apart lawful c =
      let first : Routes = set routes a xs in
      let new : Routes = set first b ys in
      let less : Routes = set new b [] in
      let long : length first ≡ length routes = length-set routes a xs in
      let long' : length new ≡ length first = length-set first b ys in
      let long'' : length less ≡ length new = length-set new b [] in
      let sum = sum_by-set (times_in c) new b [] [] (omega arith) in
      let sum' = sum_by-set (times_in c) less a [] [] (omega arith) in
      let there : times_in c (get_or new b []) ≡ times_in c ys = ap (times_in c) (get_or-set_same first b ys [] (omega arith)) in
      let here : times_in c (get_or less a []) ≡ times_in c xs =
      ap (times_in c) (get_or-set_other new b a [] [] (λ e. apart (sym e)) ∙ (get_or-set_other first b a ys [] (λ e. apart (sym e)) ∙ get_or-set_same routes a xs [] in_a)) in
      let lists = sum_by-cons (times_in c) xs (ys ∷ []) in
      let lists' = sum_by-cons (times_in c) ys [] in
      let once : visit_count new c ≤ 1 = lawful-once p new lawful c in
      let none : times_in c [] ≡ 0 = refl in
      let none' : visit_count [] c ≡ 0 = refl in
      omega (arith, sum, sum', here, there, lists, lists', once)
