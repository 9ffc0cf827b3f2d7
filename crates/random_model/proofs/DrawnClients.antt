-- What the walk over the clients chooses of those that it meets.
use Rattle.std.proofs.Common.{◌≡◌, ◌∙◌, sym, refl, ap, subst, ℕ, ◌+◌, ◌≤◌, ◌&&◌, ◌||◌, ◌==◌, ◌⊎◌, inl, inr, ⊎_elim, Bool, true, false, cond, List, [], ◌∷◌, ◌++◌, fold, count_by, Option, Some, None, arith, append_assoc}
use Rattle.std.specs.List.{list_all, list_any}
use Rattle.std.specs.Prelude.{is_none}
use Rattle.std.proofs.lemmas.Bool.{and_from, and_parts, both_ways, cases_Bool, eqb-true, false_from_ne_true, or_cases, or_right}
use Rattle.std.proofs.lemmas.List.{append-nil}
use Rattle.std.proofs.lemmas.List.Folds.{list_all-append, list_any-append}
use Rattle.std.proofs.lemmas.List.Sums.{sum_by_push}
use Rattle.problem_data.specs.declared.problem.Problem.{Problem}
use Rattle.problem_data.specs.Places.{client_at, group_at}
use Rattle.routing_model.specs.Lawful.{is_required, is_required_group}
use Rattle.vrp_num.specs.Words.{State}
use Rattle.random_model.specs.Draws.{below}
use Rattle.random_model.specs.Groups.{is_same_group, shares_group}
use Rattle.random_model.specs.RandomSolution.{Choice, chosen, passed_over, by_draw, Walk, choice_in, choice_of, walked_by, walk_step, walk}

-- whether a client is of a group
abbrev pub is_of_group : Problem → ℕ → ℕ → Bool
is_of_group p group c = is_same_group (Some group) (client_at p c).group

-- what holds of the clients met and of those chosen of them
pub record IsDrawn (p : Problem) (met picked : List ℕ) : Type 0 where
  -- a test that all pass that were met, all pass that are chosen
  pub within : (test : ℕ → Bool) → list_all test met ≡ true → list_all test picked ≡ true
  -- none is chosen more often than it was met
  pub fewer : (test : ℕ → Bool) → count_by test picked ≤ count_by test met
  -- each required client that was met is chosen
  pub required : (c : ℕ) → is_required p c ≡ true → list_any (λ d. d == c) met ≡ true → list_any (λ d. d == c) picked ≡ true
  -- of a group at most one is chosen
  pub one : (group : ℕ) → count_by (is_of_group p group) picked ≤ cond (list_any (is_of_group p group) met) 1 0
  -- and of a required group one of those met
  pub some : (group : ℕ) → is_required_group p (group_at p group) ≡ true → list_any (is_of_group p group) met ≡ true → list_any (is_of_group p group) picked ≡ true

-- what has to hold where a client is chosen, or isn't, after those met
record MayPick (p : Problem) (met : List ℕ) (c : ℕ) (pick : Bool) : Type 0 where
  not_required : pick ≡ false → is_required p c ≡ false
  first : pick ≡ true → (group : ℕ) → is_of_group p group c ≡ true → list_any (is_of_group p group) met ≡ false
  later : pick ≡ false → (group : ℕ) → is_of_group p group c ≡ true → is_required_group p (group_at p group) ≡ true → list_any (is_of_group p group) met ≡ true

or_false : (b : Bool) → (b || false) ≡ b
or_false true = refl
or_false false = refl

and_true : (b : Bool) → (b && true) ≡ b
and_true true = refl
and_true false = refl

-- tests of a list with one more element
module _ (test : ℕ → Bool) (xs : List ℕ) (c : ℕ) where
  all_more : list_all test (xs ++ c ∷ []) ≡ (list_all test xs && test c)
  all_more = list_all-append test xs (c ∷ []) ∙ ap (λ (b : Bool). list_all test xs && b) (and_true (test c))

  any_more : list_any test (xs ++ c ∷ []) ≡ (list_any test xs || test c)
  any_more = list_any-append test xs (c ∷ []) ∙ ap (λ (b : Bool). list_any test xs || b) (or_false (test c))

  count_more : count_by test (xs ++ c ∷ []) ≡ count_by test xs + cond (test c) 1 0
  count_more = sum_by_push (λ d. cond (test d) 1 0) xs c

drawn-none : (p : Problem) → IsDrawn p [] []
drawn-none p = record {
  within = λ test h. refl;
  fewer = λ test. omega arith;
  required = λ c r h. h;
  one = λ group. omega arith;
  some = λ group r h. h;
}

-- one more of a group
one_more : (n : ℕ) (any b : Bool) → n ≤ cond any 1 0 → (b ≡ true → any ≡ false) → n + cond b 1 0 ≤ cond (any || b) 1 0
one_more n true true h first = let e : true ≡ false = first refl in cc
one_more n true false h first = omega arith
one_more n false true h first = omega arith
one_more n false false h first = omega arith

-- none more of it
none_more : (n : ℕ) (any b : Bool) → n ≤ cond any 1 0 → n ≤ cond (any || b) 1 0
none_more n true b h = h
none_more n false true h = omega arith
none_more n false false h = h

module _ (p : Problem) (met picked : List ℕ) (c : ℕ) (drawn : IsDrawn p met picked) where
  drawn-chosen : MayPick p met c true → IsDrawn p (met ++ c ∷ []) (picked ++ c ∷ [])
  drawn-chosen may = record {
    within = λ test h.
        let both = and_parts (list_all test met) (test c) (sym (all_more test met c) ∙ h) in
        all_more test picked c ∙ and_from (list_all test picked) (test c) (drawn.within test both.0) both.1;
    fewer = λ test. rw (count_more test met c, count_more test picked c) (let few = drawn.fewer test in omega arith);
    required = λ d r h. any_more (λ e. e == d) picked c ∙ more _ _ (c == d) (drawn.required d r) (sym (any_more (λ e. e == d) met c) ∙ h);
    one = λ group. rw (count_more (is_of_group p group) picked c, any_more (is_of_group p group) met c)
        (one_more _ _ (is_of_group p group c) (drawn.one group) (may.first refl group));
    some = λ group r h.
        any_more (is_of_group p group) picked c
        ∙ more _ _ (is_of_group p group c) (drawn.some group r) (sym (any_more (is_of_group p group) met c) ∙ h);
  }
    where
      more : (a b own : Bool) → (a ≡ true → b ≡ true) → (a || own) ≡ true → (b || own) ≡ true
      more true b own h e = ap (λ (t : Bool). t || own) (h refl)
      more false b own h e = or_right b own e

  drawn-passed : MayPick p met c false → IsDrawn p (met ++ c ∷ []) picked
  drawn-passed may = record {
    within = λ test h. drawn.within test (and_parts (list_all test met) (test c) (sym (all_more test met c) ∙ h)).0;
    fewer = λ test. rw (count_more test met c) (let few = drawn.fewer test in omega arith);
    required = λ d r h.
        ⊎_elim (drawn.required d r)
        (λ e. absurd (both_ways (is_required p d) (ap (is_required p) (sym (eqb-true c d e)) ∙ may.not_required refl) r))
        (or_cases (list_any (λ e. e == d) met) (c == d) (sym (any_more (λ e. e == d) met c) ∙ h));
    one = λ group. rw (any_more (is_of_group p group) met c) (none_more _ _ (is_of_group p group c) (drawn.one group));
    some = λ group r h.
        ⊎_elim (drawn.some group r)
        (λ e. drawn.some group r (may.later refl group e r))
        (or_cases (list_any (is_of_group p group) met) (is_of_group p group c) (sym (any_more (is_of_group p group) met c) ∙ h));
  }

module _ (p : Problem) (met : List ℕ) (c : ℕ) where
  -- one that may not be passed over is the first of its group
  first-of_group : (o : Option ℕ) → (client_at p c).group ≡ o → (choice_in p met c o ≡ passed_over → ⊥) →
      (group : ℕ) → is_same_group (Some group) o ≡ true → list_any (is_of_group p group) met ≡ false
  first-of_group None e h group own = absurd (both_ways false refl own)
  first-of_group (Some g) e h group own = by (cases_Bool (list_any (is_of_group p g) met))
    where
      same : list_any (shares_group p c) met ≡ list_any (is_of_group p g) met
      same = ap (λ (o : Option ℕ). list_any (λ d. is_same_group o (client_at p d).group) met) e

      by : (list_any (is_of_group p g) met ≡ true) ⊎ (list_any (is_of_group p g) met ≡ false) → list_any (is_of_group p group) met ≡ false
      by (inl t) = absurd (h (ap (λ (b : Bool). cond b passed_over (cond (is_required_group p (group_at p g)) chosen by_draw)) (same ∙ t)))
      by (inr t) = ap (λ k. list_any (is_of_group p k) met) (eqb-true group g own) ∙ t

  -- one that may not be chosen isn't required
  not_chosen-not_required : (o : Option ℕ) → (client_at p c).group ≡ o → (choice_in p met c o ≡ chosen → ⊥) → is_required p c ≡ false
  not_chosen-not_required None e h = false_from_ne_true (is_required p c) (λ t. h (ap (λ (b : Bool). cond b chosen by_draw) t))
  not_chosen-not_required (Some g) e h = ap (λ (o : Option ℕ). is_none o && ((client_at p c).prize == 0)) e

  -- and it is not the first of a required group
  not_chosen-later : (o : Option ℕ) → (client_at p c).group ≡ o → (choice_in p met c o ≡ chosen → ⊥) →
      (group : ℕ) → is_same_group (Some group) o ≡ true → is_required_group p (group_at p group) ≡ true → list_any (is_of_group p group) met ≡ true
  not_chosen-later None e h group own r = absurd (both_ways false refl own)
  not_chosen-later (Some g) e h group own r = by (cases_Bool (list_any (is_of_group p g) met))
    where
      same : list_any (shares_group p c) met ≡ list_any (is_of_group p g) met
      same = ap (λ (o : Option ℕ). list_any (λ d. is_same_group o (client_at p d).group) met) e

      here : group ≡ g
      here = eqb-true group g own

      by : (list_any (is_of_group p g) met ≡ true) ⊎ (list_any (is_of_group p g) met ≡ false) → list_any (is_of_group p group) met ≡ true
      by (inl t) = ap (λ k. list_any (is_of_group p k) met) here ∙ t
      by (inr t) =
          absurd (h (ap (λ (b : Bool). cond b passed_over (cond (is_required_group p (group_at p g)) chosen by_draw)) (same ∙ t)
          ∙ ap (λ (b : Bool). cond b chosen by_draw) (sym (ap (λ k. is_required_group p (group_at p k)) here) ∙ r)))

  may-choose : (choice_of p met c ≡ passed_over → ⊥) → MayPick p met c true
  may-choose h = record {
    not_required = λ e. absurd (both_ways true e refl);
    first = λ e. first-of_group (client_at p c).group refl h;
    later = λ e. absurd (both_ways true e refl);
  }

  may-pass : (choice_of p met c ≡ chosen → ⊥) → MayPick p met c false
  may-pass h = record {
    not_required = λ e. not_chosen-not_required (client_at p c).group refl h;
    first = λ e. absurd (both_ways false refl e);
    later = λ e. not_chosen-later (client_at p c).group refl h;
  }

-- one step keeps it
drawn-walked_by : (p : Problem) (w : Walk) (c : ℕ) (choice : Choice) → choice_of p w.met c ≡ choice → IsDrawn p w.met w.picked →
    IsDrawn p (walked_by choice w c).met (walked_by choice w c).picked
drawn-walked_by p w c chosen e drawn = drawn-chosen p w.met w.picked c drawn (may-choose p w.met c (λ t. cc))
drawn-walked_by p w c passed_over e drawn = drawn-passed p w.met w.picked c drawn (may-pass p w.met c (λ t. cc))
drawn-walked_by p w c by_draw e drawn = by ((below 2 w.state).value == 1)
  where
    by : (b : Bool) → IsDrawn p (w.met ++ c ∷ []) (cond b (w.picked ++ c ∷ []) w.picked)
    by true = drawn-chosen p w.met w.picked c drawn (may-choose p w.met c (λ t. cc))
    by false = drawn-passed p w.met w.picked c drawn (may-pass p w.met c (λ t. cc))

-- a step meets its client
pub met_by : (choice : Choice) (w : Walk) (c : ℕ) → (walked_by choice w c).met ≡ w.met ++ c ∷ []
met_by chosen w c = refl
met_by passed_over w c = refl
met_by by_draw w c = refl

drawn-fold : (p : Problem) (order : List ℕ) (w : Walk) → IsDrawn p w.met w.picked → IsDrawn p (w.met ++ order) (fold (walk_step p) w order).picked
drawn-fold p [] w drawn = subst (λ (met : List ℕ). IsDrawn p met w.picked) (sym (append-nil w.met)) drawn
drawn-fold p (c ∷ order) w drawn =
    subst (λ (met : List ℕ). IsDrawn p met (fold (walk_step p) (walk_step p w c) order).picked)
    (ap (λ (l : List ℕ). l ++ order) (met_by (choice_of p w.met c) w c) ∙ append_assoc w.met (c ∷ []) order)
    (drawn-fold p order (walk_step p w c) (drawn-walked_by p w c (choice_of p w.met c) refl drawn))

-- what a walk over an order chooses of it
pub drawn-walk : (p : Problem) (order : List ℕ) (s : State) → IsDrawn p order (walk p order s).picked
drawn-walk p order s = drawn-fold p order (record { met = []; picked = []; state = s }) (drawn-none p)
