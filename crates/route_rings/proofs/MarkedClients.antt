-- Marks of clients, one visit after the other.
use Rattle.std.proofs.Common.{◌≡◌, ◌≢◌, ℕ, suc, ◌+◌, ◌<◌, Bool, true, false, ◌||◌, List, [], ◌∷◌, ◌++◌, length, get_or, set, take, take-suc, refl, sym, ◌∙◌, ap, subst, append_assoc, arith}
use Rattle.std.specs.Prelude.{nat_eq}
use Rattle.std.proofs.lemmas.Bool.Decides.{nat_tests}
use Rattle.std.proofs.lemmas.List.Folds.{list_any-append}
use Rattle.std.proofs.lemmas.List.{get_or-set_other, get_or-set_same, length-set}
use Rattle.list_words.specs.Lists.{is_in}
use Rattle.problem_data.specs.declared.visit.Visit.{Visit}
use Rattle.problem_data.specs.declared.visit.Visit.TheVariants.{Client, Reload}
use Rattle.routing_model.specs.Routes.{clients_of}
use Rattle.route_rings.specs.Marks.{AreMarks}
use Rattle.route_rings.specs.inside.Marking.{marked}
use Rattle.route_rings.proofs.Vectors.{clients-with}

pub is_in-append : (xs ys : List ℕ) (n : ℕ) → is_in (xs ++ ys) n ≡ (is_in xs n || is_in ys n)
is_in-append xs ys n = list_any-append (nat_eq n) xs ys

-- one client more
mark-client : (marks : List Bool) (clients : List ℕ) (p : ℕ) → AreMarks marks clients → AreMarks (set marks p true) (clients ++ p ∷ [])
mark-client marks clients p are c inside = by (nat_eq c p) refl
  where
    long : c < length marks
    long = let same = length-set marks p true in omega arith

    same : (m n : ℕ) → nat_eq m n ≡ true → m ≡ n
    same m n h = grind (arith, nat_tests)

    other : (m n : ℕ) → nat_eq m n ≡ false → m ≢ n
    other m n h e = grind (arith, nat_tests)

    or-true : (b : Bool) → (b || true) ≡ true
    or-true true = refl
    or-true false = refl

    or-false : (b : Bool) → (b || false) ≡ b
    or-false true = refl
    or-false false = refl

    by : (b : Bool) → nat_eq c p ≡ b → get_or (set marks p true) c false ≡ is_in (clients ++ p ∷ []) c
    by true e =
        ap (λ (i : ℕ). get_or (set marks i true) c false) (sym (same c p e))
        ∙ (get_or-set_same marks c true false long
        ∙ (sym (or-true (is_in clients c)) ∙ (ap (λ (b : Bool). is_in clients c || (b || false)) (sym e) ∙ sym (is_in-append clients (p ∷ []) c))))
    by false e =
        get_or-set_other marks p c true false (other c p e)
        ∙ (are c long ∙ (sym (or-false (is_in clients c)) ∙ (ap (λ (b : Bool). is_in clients c || (b || false)) (sym e) ∙ sym (is_in-append clients (p ∷ []) c))))

mark-visit : (marks : List Bool) (clients : List ℕ) (v : Visit) → AreMarks marks clients → AreMarks (marked marks v) (clients ++ clients_of (v ∷ []))
mark-visit marks clients (Client p) are = mark-client marks clients p are
mark-visit marks clients (Reload d) are = subst (AreMarks marks) (sym (none clients)) are
  where
    none : (xs : List ℕ) → xs ++ [] ≡ xs
    none [] = refl
    none (x ∷ xs) = ap (λ (ys : List ℕ). x ∷ ys) (none xs)

-- the marks of a list's first visits, and one visit more
pub mark-more : (marks : List Bool) (clients : List ℕ) (visits : List Visit) (k : ℕ) → k < length visits → AreMarks marks (clients ++ clients_of (take k visits)) →
    AreMarks (marked marks (get_or visits k (Client 0))) (clients ++ clients_of (take (k + 1) visits))
mark-more marks clients visits k inside are =
    subst (AreMarks (marked marks (get_or visits k (Client 0)))) whole (mark-visit marks (clients ++ clients_of (take k visits)) (get_or visits k (Client 0)) are)
  where
    suc-is : (n : ℕ) → suc n ≡ n + 1
    suc-is n = omega arith

    whole : (clients ++ clients_of (take k visits)) ++ clients_of (get_or visits k (Client 0) ∷ []) ≡ clients ++ clients_of (take (k + 1) visits)
    whole =
        append_assoc clients (clients_of (take k visits)) (clients_of (get_or visits k (Client 0) ∷ []))
        ∙ ap (λ (xs : List ℕ). clients ++ xs)
        (sym (clients-with (take k visits) (get_or visits k (Client 0))) ∙ (ap clients_of (sym (take-suc visits k (Client 0) inside)) ∙ ap (λ (n : ℕ). clients_of (take n visits)) (suc-is k)))
