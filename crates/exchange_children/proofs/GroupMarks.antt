-- Marks of clients' groups, one visit after the other.
use Rattle.std.proofs.Common.{◌≡◌, ◌≢◌, ◌∙◌, ℕ, ◌+◌, ◌<◌, ◌||◌, Bool, true, false, List, [], ◌∷◌, ◌++◌, Option, Some, None, length, get_or, set, take, refl, sym, ap, subst, append_assoc, arith}
use Rattle.std.specs.Prelude.{nat_eq}
use Rattle.std.specs.List.{list_any}
use Rattle.std.proofs.lemmas.Bool.Decides.{nat_tests}
use Rattle.std.proofs.lemmas.List.Folds.{list_any-append}
use Rattle.std.proofs.lemmas.List.{append-nil, get_or-set_other, get_or-set_same, length-set, take_more}
use Rattle.problem_data.specs.declared.problem.Problem.{Problem}
use Rattle.problem_data.specs.declared.visit.Visit.{Visit}
use Rattle.problem_data.specs.declared.visit.Visit.TheVariants.{Client, Reload}
use Rattle.problem_data.specs.Places.{client_at}
use Rattle.routing_model.specs.Routes.{clients_of}
use Rattle.random_model.specs.Groups.{is_same_group}
use Rattle.route_rings.proofs.Vectors.{clients-with}
use Rattle.exchange_children.specs.inside.Clashing.{AreGroupMarks, group_marked, with_group}

or-false : (b : Bool) → (b || false) ≡ b
or-false true = refl
or-false false = refl

or-true : (b : Bool) → (b || true) ≡ true
or-true true = refl
or-true false = refl

module _ (p : Problem) where
  pub length-group_marked : (marks : List Bool) (v : Visit) → length (group_marked p marks v) ≡ length marks
  length-group_marked marks (Client c) = by (client_at p c).group
    where
      by : (o : Option ℕ) → length (with_group marks o) ≡ length marks
      by None = refl
      by (Some group) = length-set marks group true
  length-group_marked marks (Reload d) = refl

  abbrev in_group : ℕ → ℕ → Bool
  in_group g c = is_same_group (Some g) (client_at p c).group

  any-with : (g : ℕ) (clients : List ℕ) (c : ℕ) (o : Option ℕ) → (client_at p c).group ≡ o → list_any (in_group g) (clients ++ c ∷ []) ≡ (list_any (in_group g) clients || is_same_group (Some g) o)
  any-with g clients c o e =
      list_any-append (in_group g) clients (c ∷ [])
      ∙ (ap (λ (b : Bool). list_any (in_group g) clients || b) (or-false (in_group g c)) ∙ ap (λ (x : Option ℕ). list_any (in_group g) clients || is_same_group (Some g) x) e)

  -- one client more
  mark-client : (marks : List Bool) (clients : List ℕ) (c : ℕ) (o : Option ℕ) → (client_at p c).group ≡ o → AreGroupMarks p marks clients → AreGroupMarks p (with_group marks o) (clients ++ c ∷ [])
  mark-client marks clients c None e are g inside = are g inside ∙ (sym (or-false (list_any (in_group g) clients)) ∙ sym (any-with g clients c None e))
  mark-client marks clients c (Some group) e are g inside = by (nat_eq g group) refl
    where
      long : g < length marks
      long = let same = length-set marks group true in omega arith

      same : (m n : ℕ) → nat_eq m n ≡ true → m ≡ n
      same m n h = grind (arith, nat_tests)

      other : (m n : ℕ) → nat_eq m n ≡ false → m ≢ n
      other m n h k = grind (arith, nat_tests)

      by : (b : Bool) → nat_eq g group ≡ b → get_or (set marks group true) g false ≡ list_any (in_group g) (clients ++ c ∷ [])
      by true h =
          ap (λ (i : ℕ). get_or (set marks i true) g false) (sym (same g group h))
          ∙ (get_or-set_same marks g true false long
          ∙ (sym (or-true (list_any (in_group g) clients)) ∙ (ap (λ (b : Bool). list_any (in_group g) clients || b) (sym h) ∙ sym (any-with g clients c (Some group) e))))
      by false h =
          get_or-set_other marks group g true false (other g group h)
          ∙ (are g long
          ∙ (sym (or-false (list_any (in_group g) clients)) ∙ (ap (λ (b : Bool). list_any (in_group g) clients || b) (sym h) ∙ sym (any-with g clients c (Some group) e))))

  mark-visit : (marks : List Bool) (clients : List ℕ) (v : Visit) → AreGroupMarks p marks clients → AreGroupMarks p (group_marked p marks v) (clients ++ clients_of (v ∷ []))
  mark-visit marks clients (Client c) are = mark-client marks clients c (client_at p c).group refl are
  mark-visit marks clients (Reload d) are = subst (AreGroupMarks p marks) (sym (append-nil clients)) are

  -- the marks of a list's first visits, and one visit more
  pub mark-more : (marks : List Bool) (clients : List ℕ) (visits : List Visit) (k : ℕ) → k < length visits → AreGroupMarks p marks (clients ++ clients_of (take k visits)) →
      AreGroupMarks p (group_marked p marks (get_or visits k (Client 0))) (clients ++ clients_of (take (k + 1) visits))
  mark-more marks clients visits k inside are =
      subst (AreGroupMarks p (group_marked p marks (get_or visits k (Client 0)))) whole (mark-visit marks (clients ++ clients_of (take k visits)) (get_or visits k (Client 0)) are)
    where
      whole : (clients ++ clients_of (take k visits)) ++ clients_of (get_or visits k (Client 0) ∷ []) ≡ clients ++ clients_of (take (k + 1) visits)
      whole =
          append_assoc clients (clients_of (take k visits)) (clients_of (get_or visits k (Client 0) ∷ []))
          ∙ ap (λ (xs : List ℕ). clients ++ xs) (sym (clients-with (take k visits) (get_or visits k (Client 0))) ∙ ap clients_of (sym (take_more visits k (Client 0) inside)))
