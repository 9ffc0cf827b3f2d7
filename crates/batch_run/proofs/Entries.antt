-- What a list of names and bytes holds after a look-up, a change and a new entry.
use Rattle.std.proofs.Common.{◌≡◌, ◌≢◌, ℕ, zero, suc, ◌+◌, ◌<◌, Bool, true, false, cond, List, [], ◌∷◌, ◌++◌, length, get_or, set, Option, Some, None, refl, sym, ap, subst, ◌∙◌, arith, Decides}
use Rattle.std.specs.List.{position, position_from}
use Rattle.std.specs.Str.{bytes_eq}
use Rattle.std.proofs.lemmas.Iterator.Adapters.{position_from-zero}
use Rattle.std.proofs.lemmas.List.Quantifiers.{position-Some}
use Rattle.std.proofs.lemmas.Slice.Eq.{bytes_eq-Decides}
use Rattle.outside_model.specs.Holding.{Holding, held_outside, held_among}
use Rattle.outside_model.specs.Files.{IsStored}

-- a name with its bytes
abbrev pub Entry : Type 0
Entry = List ℕ × List ℕ

-- the test that a look-up of a name makes
abbrev pub names : List ℕ → Entry → Bool
names name entry = bytes_eq entry.0 name

-- what a list of entries holds
abbrev pub holding : Bool → List Entry → Holding
holding is_open entries = record { entries = entries; is_open = is_open }

same_text : (a : List ℕ) → bytes_eq a a ≡ true
same_text a = (bytes_eq-Decides a a).1 refl

other_text : (a b : List ℕ) → b ≢ a → bytes_eq a b ≡ false
other_text a b differ = elim (bytes_eq a b) as (λ v. Decides v (a ≡ b) → v ≡ false) [ true ↦ λ d. absurd (differ (sym (d.0 refl))) | false ↦ λ d. refl ] (bytes_eq-Decides a b)

-- a look-up that passes over the first entry goes on in the rest
passed_over : {X : Type 0} (b : Bool) (i : ℕ) (r : Option ℕ) (v h o : Option X) → cond b (Some i) r ≡ None → (r ≡ None → h ≡ o) → cond b v h ≡ o
passed_over true i r v h o none rest = absurd (cc)
passed_over false i r v h o none rest = rest none

absent_from : (is_open : Bool) (i : ℕ) (xs : List Entry) (name : List ℕ) → position_from (names name) i xs ≡ None → held_among is_open xs name ≡ held_outside is_open
absent_from is_open i [] name none = refl
absent_from is_open i (e ∷ xs) name none =
    passed_over (bytes_eq e.0 name) i (position_from (names name) (i + 1) xs) (Some e.1) (held_among is_open xs name) (held_outside is_open) none (absent_from is_open (i + 1) xs name)

-- a list without the name holds what is outside it
pub held_where_absent : (is_open : Bool) (xs : List Entry) (name : List ℕ) → position (names name) xs ≡ None → held_among is_open xs name ≡ held_outside is_open
held_where_absent is_open xs name none = absent_from is_open 0 xs name (sym (position_from-zero (names name) xs) ∙ none)

held_at_index : (o : Bool) (xs : List Entry) (i : ℕ) (d : Entry) (name : List ℕ) → i < length xs → names name (get_or xs i d) ≡ true → ((k : ℕ) → k < i → names name (get_or xs k d) ≡ false) → held_among o xs name ≡ Some (get_or xs i d).1
held_at_index o [] i d name within here before = absurd (omega arith)
held_at_index o (e ∷ xs) zero d name within here before = rw here refl
held_at_index o (e ∷ xs) (suc i) d name within here before =
    rw (before 0 (omega arith)) (held_at_index o xs i d name (omega arith) here (λ k below. before (suc k) (omega arith)))

-- the first entry of a name gives its bytes
pub held_where_found : (o : Bool) (xs : List Entry) (i : ℕ) (x : Entry) (name : List ℕ) → position (names name) xs ≡ Some i → x ≡ get_or xs i x → held_among o xs name ≡ Some x.1
held_where_found o xs i x name found here =
    let at = position-Some (names name) xs i x found in
    held_at_index o xs i x name at.0 at.1 at.2 ∙ ap (λ (e : Entry). Some e.1) (sym here)

held_at_change : (o : Bool) (xs : List Entry) (i : ℕ) (d : Entry) (key bytes name : List ℕ) → i < length xs → bytes_eq key name ≡ true → ((k : ℕ) → k < i → names name (get_or xs k d) ≡ false) → held_among o (set xs i (key, bytes)) name ≡ Some bytes
held_at_change o [] i d key bytes name within here before = absurd (omega arith)
held_at_change o (e ∷ xs) zero d key bytes name within here before = rw here refl
held_at_change o (e ∷ xs) (suc i) d key bytes name within here before =
    rw (before 0 (omega arith)) (held_at_change o xs i d key bytes name (omega arith) here (λ k below. before (suc k) (omega arith)))

held_beside_change : (o : Bool) (xs : List Entry) (i : ℕ) (d : Entry) (key bytes other : List ℕ) → bytes_eq key other ≡ false → bytes_eq (get_or xs i d).0 other ≡ false → held_among o (set xs i (key, bytes)) other ≡ held_among o xs other
held_beside_change o [] zero d key bytes other new_differs old_differs = refl
held_beside_change o [] (suc i) d key bytes other new_differs old_differs = refl
held_beside_change o (e ∷ xs) zero d key bytes other new_differs old_differs = rw (new_differs, old_differs) refl
held_beside_change o (e ∷ xs) (suc i) d key bytes other new_differs old_differs =
    ap (λ rest. cond (bytes_eq e.0 other) (Some e.1) rest) (held_beside_change o xs i d key bytes other new_differs old_differs)

-- the bytes of the first entry of a name are replaced
pub stored_at : (o : Bool) (xs : List Entry) (i : ℕ) (x : Entry) (name bytes : List ℕ) → position (names name) xs ≡ Some i → x ≡ get_or xs i x → IsStored (holding o xs) (holding o (set xs i (x.0, bytes))) name bytes
stored_at o xs i x name bytes found here =
    let at = position-Some (names name) xs i x found in
    let named : bytes_eq x.0 name ≡ true = subst (λ (e : Entry). names name e ≡ true) (sym here) at.1 in
    let text : x.0 ≡ name = (bytes_eq-Decides x.0 name).0 named in
    record {
      stored = held_at_change o xs i x x.0 bytes name at.0 named at.2;
      others = λ other differ.
          let apart : bytes_eq x.0 other ≡ false = other_text x.0 other (λ e. differ (e ∙ text)) in
          held_beside_change o xs i x x.0 bytes other apart (subst (λ (e : Entry). names other e ≡ false) here apart);
    }

held_at_end : (o : Bool) (i : ℕ) (xs : List Entry) (name bytes : List ℕ) → position_from (names name) i xs ≡ None → held_among o (xs ++ (name, bytes) ∷ []) name ≡ Some bytes
held_at_end o i [] name bytes none = rw (same_text name) refl
held_at_end o i (e ∷ xs) name bytes none =
    passed_over (bytes_eq e.0 name) i (position_from (names name) (i + 1) xs) (Some e.1) (held_among o (xs ++ (name, bytes) ∷ []) name) (Some bytes) none (held_at_end o (i + 1) xs name bytes)

held_beside_end : (o : Bool) (xs : List Entry) (name bytes other : List ℕ) → bytes_eq name other ≡ false → held_among o (xs ++ (name, bytes) ∷ []) other ≡ held_among o xs other
held_beside_end o [] name bytes other differs = rw differs refl
held_beside_end o (e ∷ xs) name bytes other differs =
    ap (λ rest. cond (bytes_eq e.0 other) (Some e.1) rest) (held_beside_end o xs name bytes other differs)

-- a name that has no entry gets one
pub stored_at_end : (o : Bool) (xs : List Entry) (key name bytes : List ℕ) → key ≡ name → position (names name) xs ≡ None → IsStored (holding o xs) (holding o (xs ++ (key, bytes) ∷ [])) name bytes
stored_at_end o xs key name bytes same none =
    subst (λ (k : List ℕ). IsStored (holding o xs) (holding o (xs ++ (k, bytes) ∷ [])) name bytes) (sym same) (record {
      stored = held_at_end o 0 xs name bytes (sym (position_from-zero (names name) xs) ∙ none);
      others = λ other differ. held_beside_end o xs name bytes other (other_text name other differ);
    })
