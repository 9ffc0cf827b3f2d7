-- The marks of the groups met, one client after the other.
use Rattle.std.proofs.Common.{◌≡◌, ◌≢◌, ◌∙◌, sym, refl, ap, ap₂, ℕ, zero, suc, ◌+◌, ◌≤◌, ◌<◌, ◌||◌, ◌&&◌, ◌==◌, Bool, true, false, cond, List, [], ◌∷◌, ◌++◌, length, map, All, IsTrue, Option, Some, None, get_or, replicate, arith}
use Rattle.std.specs.List.{range_with_len, list_any}
use Rattle.std.specs.Prelude.{is_none}
use Rattle.std.proofs.Math.ListN.{set}
use Rattle.std.proofs.lemmas.Bool.Decides.{nat_tests}
use Rattle.std.proofs.lemmas.List.{set-get_or}
use Rattle.std.proofs.lemmas.List.Elements.{All-get_or}
use Rattle.std.proofs.lemmas.List.Folds.{list_any-append}
use Rattle.std.proofs.lemmas.List.FromFn.{length-map-range_with_len, get_or-map-range_with_len}
use Rattle.problem_data.specs.declared.problem.Problem.{Problem}
use Rattle.problem_data.specs.Places.{client_at, group_at, is_client_place}
use Rattle.problem_data.specs.Valid.{IsValid, IsValidGroup}
use Rattle.routing_model.specs.Lawful.{is_required_group}
use Rattle.random_model.specs.Groups.{is_same_group, shares_group}
use Rattle.random_model.specs.RandomSolution.{chosen, passed_over, by_draw, choice_in, choice_of}
use Rattle.random_plans.specs.inside.Choices.{group_marks, is_group_met, choice_by_group}

pub length-group_marks : (p : Problem) (met : List ℕ) → length (group_marks p met) ≡ length p.groups
unfolding group_marks
length-group_marks p met = length-map-range_with_len (is_group_met p met) 0 (length p.groups)

no_marks : (p : Problem) (a n : ℕ) → map (is_group_met p []) (range_with_len a n) ≡ replicate n false
no_marks p a zero = refl
no_marks p a (suc n) = ap (λ (l : List Bool). false ∷ l) (no_marks p (a + 1) n)

-- at first no group is met
pub group_marks-none : (p : Problem) → group_marks p [] ≡ replicate (length p.groups) false
unfolding group_marks
group_marks-none p = no_marks p 0 (length p.groups)

pub mark_of : (p : Problem) (met : List ℕ) (group : ℕ) (d : Bool) → group < length p.groups → get_or (group_marks p met) group d ≡ is_group_met p met group
unfolding group_marks
mark_of p met group d h = get_or-map-range_with_len (is_group_met p met) 0 (length p.groups) group group d h (omega arith)

-- one more client met
met_more : (p : Problem) (met : List ℕ) (c group : ℕ) → is_group_met p (met ++ c ∷ []) group ≡ (is_group_met p met group || (is_same_group (Some group) (client_at p c).group || false))
met_more p met c group = list_any-append (λ d. is_same_group (Some group) (client_at p d).group) met (c ∷ [])

or_false : (b : Bool) → (b || (false || false)) ≡ b
or_false true = refl
or_false false = refl

or_true : (b : Bool) → (b || (true || false)) ≡ true
or_true true = refl
or_true false = refl

met_other : (p : Problem) (met : List ℕ) (c group : ℕ) → is_same_group (Some group) (client_at p c).group ≡ false → is_group_met p (met ++ c ∷ []) group ≡ is_group_met p met group
met_other p met c group e = met_more p met c group ∙ ap (λ (b : Bool). is_group_met p met group || (b || false)) e ∙ or_false (is_group_met p met group)

met_own : (p : Problem) (met : List ℕ) (c group : ℕ) → is_same_group (Some group) (client_at p c).group ≡ true → is_group_met p (met ++ c ∷ []) group ≡ true
met_own p met c group e = met_more p met c group ∙ ap (λ (b : Bool). is_group_met p met group || (b || false)) e ∙ or_true (is_group_met p met group)

module _ (f g : ℕ → Bool) where
  map_same : (a n : ℕ) → ((k : ℕ) → a ≤ k → f k ≡ g k) → map f (range_with_len a n) ≡ map g (range_with_len a n)
  map_same a zero h = refl
  map_same a (suc n) h = ap₂ (λ (b : Bool) (l : List Bool). b ∷ l) (h a (omega arith)) (map_same (a + 1) n (λ k l. h k (omega arith)))

  map_set : (a n i : ℕ) → i < n → f (a + i) ≡ true → ((k : ℕ) → k ≢ a + i → f k ≡ g k) → map f (range_with_len a n) ≡ set (map g (range_with_len a n)) i true
  map_set a zero i h e other = absurd (omega arith)
  map_set a (suc n) zero h e other =
      let here : a + 0 ≡ a = omega arith in
      ap₂ (λ (b : Bool) (l : List Bool). b ∷ l) (sym (ap f here) ∙ e) (map_same (a + 1) n (λ k l. other k (λ q. omega arith)))
  map_set a (suc n) (suc i) h e other =
      let next : a + 1 + i ≡ a + suc i = omega arith in
      ap₂ (λ (b : Bool) (l : List Bool). b ∷ l) (other a (λ q. omega arith))
      (map_set (a + 1) n i (omega arith) (ap f next ∙ e) (λ k q. other k (λ r. q (r ∙ sym next))))

-- a client without a group changes no mark
pub group_marks-alone : (p : Problem) (met : List ℕ) (c : ℕ) → (client_at p c).group ≡ None → group_marks p (met ++ c ∷ []) ≡ group_marks p met
unfolding group_marks
group_marks-alone p met c e =
    map_same (is_group_met p (met ++ c ∷ [])) (is_group_met p met) 0 (length p.groups)
    (λ k l. met_other p met c k (ap (is_same_group (Some k)) e))

other_group : (k group : ℕ) → k ≢ group → (k == group) ≡ false
other_group k group h = grind (arith, nat_tests)

own_group : (group : ℕ) → (group == group) ≡ true
own_group group = grind (arith, nat_tests)

-- a client of a group marks it
pub group_marks-more : (p : Problem) (met : List ℕ) (c group : ℕ) → (client_at p c).group ≡ Some group → group < length p.groups →
    group_marks p (met ++ c ∷ []) ≡ set (group_marks p met) group true
unfolding group_marks
group_marks-more p met c group e h =
    let zero-plus : 0 + group ≡ group = omega arith in
    map_set (is_group_met p (met ++ c ∷ [])) (is_group_met p met) 0 (length p.groups) group h
    (ap (is_group_met p (met ++ c ∷ [])) zero-plus ∙ met_own p met c group (ap (is_same_group (Some group)) e ∙ own_group group))
    (λ k q. met_other p met c k (ap (is_same_group (Some k)) e ∙ other_group k group (λ r. q (r ∙ sym zero-plus))))

-- a mark that is set already
pub set_again : (marks : List Bool) (group : ℕ) (d : Bool) → get_or marks group d ≡ true → set marks group true ≡ marks
set_again marks group d e = ap (set marks group) (sym e) ∙ set-get_or marks group d

-- the choice for a client of a group, by the marks
pub choice-grouped : (p : Problem) (met : List ℕ) (c group : ℕ) → (client_at p c).group ≡ Some group → group < length p.groups →
    choice_by_group p (group_marks p met) group ≡ choice_of p met c
choice-grouped p met c group e h =
    let same : list_any (shares_group p c) met ≡ is_group_met p met group = ap (λ (o : Option ℕ). list_any (λ d. is_same_group o (client_at p d).group) met) e in
    ap (λ (b : Bool). cond b passed_over (cond (is_required_group p (group_at p group)) chosen by_draw)) (mark_of p met group false h ∙ sym same)
    ∙ sym (ap (choice_in p met c) e)

-- the choice for a client without a group
pub choice-alone : (p : Problem) (met : List ℕ) (c : ℕ) (b : Bool) → (client_at p c).group ≡ None → ((client_at p c).prize == 0) ≡ b →
    choice_of p met c ≡ cond b chosen by_draw
choice-alone p met c b e q =
    ap (choice_in p met c) e ∙ ap₂ (λ (o : Option ℕ) (t : Bool). cond (is_none o && t) chosen by_draw) e q

-- a group's members are clients
pub members-clients : (p : Problem) (group : ℕ) (d : List ℕ) → IsValid p → group < length p.groups → All (λ place. IsTrue (is_client_place p place)) (get_or p.groups group d)
members-clients p group d valid h = let one : IsValidGroup p (get_or p.groups group d) = All-get_or (IsValidGroup p) p.groups group d h valid.each_group in one.clients
