-- What a memory tells after a move of one vehicle or two.
use Rattle.std.proofs.Common.{◌≡◌, ◌∙◌, ◌⊎◌, inl, inr, ℕ, zero, suc, ◌+◌, ◌<◌, ◌≤◌, Bool, true, false, not, ◌&&◌, ◌||◌, cond, List, length, get_or, set, Option, Some, None, refl, sym, ap, arith, subst, get_or-set_same, get_or-set_other}
use Rattle.std.specs.Prelude.{zip, slice_index_or, ◌==◌}
use Rattle.std.specs.List.{list_any}
use Rattle.std.proofs.lemmas.Bool.{cases_eq, cases_lt}
use Rattle.std.proofs.lemmas.Bool.Decides.{nat_tests}
use Rattle.std.proofs.lemmas.List.{get_or_past, length-set}
use Rattle.problem_data.specs.declared.problem.Problem.{Problem}
use Rattle.problem_data.specs.declared.visit.Visit.{Visit}
use Rattle.routing_model.specs.Routes.{Routes, has_client, is_same_list, list_at}
use Rattle.search_model.specs.Basis.{Part, client_part, is_on_changed_list, is_same_vehicle, list_part, touches, unused_part, visited_part}
use Rattle.search_model.specs.Edits.{unused_vehicle}
use Rattle.descent_memory.specs.Memories.{IsMemoryOf, MemoryState, Moments, last_count}
use Rattle.descent_memory.specs.Touching.{Follows, IsUntouchedPart, after_move, renewed, renewed_all, touched_clients, touched_lists}
use Rattle.descent_memory.proofs.Touching.{clients_kept, clients_length, clients_touched, none_changed, same_list, written_kept, written_touched}

-- a memory after it was told of the least unused vehicles of the first types
record IsTold (p : Problem) (plan : Routes) (n : ℕ) (old new : MemoryState) : Type 0 where
  pub clock : new.clock ≡ old.clock
  pub tried : new.tried ≡ old.tried
  pub moments : new.moments ≡ old.moments
  pub clients : new.touches.clients ≡ old.touches.clients
  pub lists : new.touches.lists ≡ old.touches.lists
  pub types : length new.touches.types ≡ length old.touches.types
  pub as_many : length new.unused ≡ length old.unused
  pub unused : (type : ℕ) → type < n → slice_index_or new.unused type None ≡ unused_vehicle p plan type
  pub later : (type : ℕ) → n ≤ type → slice_index_or new.unused type None ≡ slice_index_or old.unused type None
  pub touched : (type : ℕ) → ((type < n) × (get_or new.touches.types type last_count ≡ old.clock))
      ⊎ ((get_or new.touches.types type last_count ≡ get_or old.touches.types type last_count) × (type < n → is_same_vehicle (slice_index_or old.unused type None) (unused_vehicle p plan type) ≡ true))

same_option : (o q : Option ℕ) → is_same_vehicle o q ≡ true → o ≡ q
same_option None None h = refl
same_option None (Some j) h = cc
same_option (Some i) None h = cc
same_option (Some i) (Some j) h = ap (λ n. Some n) (is_number i j h)
  where
    is_number : (m n : ℕ) → (m == n) ≡ true → m ≡ n
    is_number m n h = grind (arith, nat_tests)

told_more : (p : Problem) (plan : Routes) (n : ℕ) (old new : MemoryState) → n < length old.unused → n < length old.touches.types → IsTold p plan n old new → IsTold p plan (suc n) old (renewed n (unused_vehicle p plan n) new)
told_more p plan n old new lu lt t = by (is_same_vehicle (slice_index_or new.unused n None) (unused_vehicle p plan n)) refl
  where
    before : slice_index_or new.unused n None ≡ slice_index_or old.unused n None
    before = t.later n (omega arith)

    by : (s : Bool) → is_same_vehicle (slice_index_or new.unused n None) (unused_vehicle p plan n) ≡ s →
        IsTold p plan (suc n) old (cond s new (record new { unused = set new.unused n (unused_vehicle p plan n); touches = record new.touches { types = set new.touches.types n new.clock } }))
    by true e = record {
      clock = t.clock;
      tried = t.tried;
      moments = t.moments;
      clients = t.clients;
      lists = t.lists;
      types = t.types;
      as_many = t.as_many;
      unused = λ type l. unused_at type l (cases_eq type n);
      later = λ type l. t.later type (omega arith);
      touched = λ type. touched_at type (t.touched type) (cases_eq type n);
    }
      where
        same : slice_index_or new.unused n None ≡ unused_vehicle p plan n
        same = same_option (slice_index_or new.unused n None) (unused_vehicle p plan n) e

        unused_at : (type : ℕ) → type < suc n → (type ≡ n) ⊎ (type ≡ n → ⊥) → slice_index_or new.unused type None ≡ unused_vehicle p plan type
        unused_at type l (inl k) = subst (λ z. slice_index_or new.unused z None ≡ unused_vehicle p plan z) (sym k) same
        unused_at type l (inr k) = t.unused type (less type l k)
          where
            less : (type : ℕ) → type < suc n → (type ≡ n → ⊥) → type < n
            less type l k = omega arith

        touched_at : (type : ℕ) → ((type < n) × (get_or new.touches.types type last_count ≡ old.clock))
            ⊎ ((get_or new.touches.types type last_count ≡ get_or old.touches.types type last_count) × (type < n → is_same_vehicle (slice_index_or old.unused type None) (unused_vehicle p plan type) ≡ true)) →
            (type ≡ n) ⊎ (type ≡ n → ⊥) →
            ((type < suc n) × (get_or new.touches.types type last_count ≡ old.clock))
            ⊎ ((get_or new.touches.types type last_count ≡ get_or old.touches.types type last_count) × (type < suc n → is_same_vehicle (slice_index_or old.unused type None) (unused_vehicle p plan type) ≡ true))
        touched_at type (inl k) c = inl (omega arith, k.1)
        touched_at type (inr k) (inl c) = inr (
          k.0,
          λ l. subst (λ z. is_same_vehicle (slice_index_or old.unused z None) (unused_vehicle p plan z) ≡ true) (sym c)
              (subst (λ (o : Option ℕ). is_same_vehicle o (unused_vehicle p plan n) ≡ true) before e),
        )
        touched_at type (inr k) (inr c) = inr (k.0, λ l. k.1 (less type l c))
          where
            less : (type : ℕ) → type < suc n → (type ≡ n → ⊥) → type < n
            less type l k = omega arith
    by false e = record {
      clock = t.clock;
      tried = t.tried;
      moments = t.moments;
      clients = t.clients;
      lists = t.lists;
      types = length-set new.touches.types n new.clock ∙ t.types;
      as_many = length-set new.unused n (unused_vehicle p plan n) ∙ t.as_many;
      unused = λ type l. unused_at type l (cases_eq type n);
      later = λ type l. get_or-set_other new.unused n type (unused_vehicle p plan n) None (apart type l) ∙ t.later type (omega arith);
      touched = λ type. touched_at type (t.touched type) (cases_eq type n);
    }
      where
        apart : (type : ℕ) → suc n ≤ type → type ≡ n → ⊥
        apart type l e = omega arith

        less : (type : ℕ) → type < suc n → (type ≡ n → ⊥) → type < n
        less type l k = omega arith

        unused_at : (type : ℕ) → type < suc n → (type ≡ n) ⊎ (type ≡ n → ⊥) → slice_index_or (set new.unused n (unused_vehicle p plan n)) type None ≡ unused_vehicle p plan type
        unused_at type l (inl k) = subst (λ z. slice_index_or (set new.unused n (unused_vehicle p plan n)) z None ≡ unused_vehicle p plan z) (sym k)
            (get_or-set_same new.unused n (unused_vehicle p plan n) None (rw t.as_many lu))
        unused_at type l (inr k) = get_or-set_other new.unused n type (unused_vehicle p plan n) None k ∙ t.unused type (less type l k)

        touched_at : (type : ℕ) → ((type < n) × (get_or new.touches.types type last_count ≡ old.clock))
            ⊎ ((get_or new.touches.types type last_count ≡ get_or old.touches.types type last_count) × (type < n → is_same_vehicle (slice_index_or old.unused type None) (unused_vehicle p plan type) ≡ true)) →
            (type ≡ n) ⊎ (type ≡ n → ⊥) →
            ((type < suc n) × (get_or (set new.touches.types n new.clock) type last_count ≡ old.clock))
            ⊎ ((get_or (set new.touches.types n new.clock) type last_count ≡ get_or old.touches.types type last_count) × (type < suc n → is_same_vehicle (slice_index_or old.unused type None) (unused_vehicle p plan type) ≡ true))
        touched_at type k (inl c) = inl (
          omega arith,
          subst (λ z. get_or (set new.touches.types n new.clock) z last_count ≡ old.clock) (sym c)
              (get_or-set_same new.touches.types n new.clock last_count (rw t.types lt) ∙ t.clock),
        )
        touched_at type (inl k) (inr c) = inl (omega arith, get_or-set_other new.touches.types n type new.clock last_count c ∙ k.1)
        touched_at type (inr k) (inr c) = inr (get_or-set_other new.touches.types n type new.clock last_count c ∙ k.0, λ l. k.1 (less type l c))

told_all : (p : Problem) (plan : Routes) (n : ℕ) (old : MemoryState) → n ≤ length old.unused → n ≤ length old.touches.types → IsTold p plan n old (renewed_all p plan n old)
told_all p plan zero old lu lt = record {
  clock = refl;
  tried = refl;
  moments = refl;
  clients = refl;
  lists = refl;
  types = refl;
  as_many = refl;
  unused = λ type l. absurd (omega arith);
  later = λ type l. refl;
  touched = λ type. inr (refl, λ l. absurd (omega arith));
}
told_all p plan (suc n) old lu lt = told_more p plan n old (renewed_all p plan n old) (omega arith) (omega arith) (told_all p plan n old (omega arith) (omega arith))

-- the touches of a move's lists, before and after it
touched-clock : (routes : Routes) (first : ℕ) (second : Option ℕ) (m : MemoryState) → (touched_lists routes first second m).clock ≡ m.clock
touched-clock routes first None m = refl
touched-clock routes first (Some v) m = refl

touched-tried : (routes : Routes) (first : ℕ) (second : Option ℕ) (m : MemoryState) → (touched_lists routes first second m).tried ≡ m.tried
touched-tried routes first None m = refl
touched-tried routes first (Some v) m = refl

touched-moments : (routes : Routes) (first : ℕ) (second : Option ℕ) (m : MemoryState) → (touched_lists routes first second m).moments ≡ m.moments
touched-moments routes first None m = refl
touched-moments routes first (Some v) m = refl

pub touched-types : (routes : Routes) (first : ℕ) (second : Option ℕ) (m : MemoryState) → (touched_lists routes first second m).touches.types ≡ m.touches.types
touched-types routes first None m = refl
touched-types routes first (Some v) m = refl

pub touched-unused : (routes : Routes) (first : ℕ) (second : Option ℕ) (m : MemoryState) → (touched_lists routes first second m).unused ≡ m.unused
touched-unused routes first None m = refl
touched-unused routes first (Some v) m = refl

touched-length : (routes : Routes) (first : ℕ) (second : Option ℕ) (m : MemoryState) → length (touched_lists routes first second m).touches.clients ≡ length m.touches.clients
touched-length routes first None m = clients_length m.clock (list_at routes first) m.touches.clients
touched-length routes first (Some v) m =
    clients_length m.clock (list_at routes v) (touched_clients m.clock (list_at routes first) m.touches.clients) ∙ clients_length m.clock (list_at routes first) m.touches.clients

pub touched-list_count : (routes : Routes) (first : ℕ) (second : Option ℕ) (m : MemoryState) → length (touched_lists routes first second m).touches.lists ≡ length m.touches.lists
touched-list_count routes first None m = length-set m.touches.lists first m.clock
touched-list_count routes first (Some v) m = length-set (set m.touches.lists first m.clock) v m.clock ∙ length-set m.touches.lists first m.clock

touched-lists_kept : (routes : Routes) (first : ℕ) (second : Option ℕ) (m : MemoryState) (v n : ℕ) → n ≤ m.clock → get_or (touched_lists routes first second m).touches.lists v last_count < n → get_or m.touches.lists v last_count < n
touched-lists_kept routes first None m v n a h = written_kept m.touches.lists first m.clock v n a h
touched-lists_kept routes first (Some k) m v n a h =
    written_kept m.touches.lists first m.clock v n a (written_kept (set m.touches.lists first m.clock) k m.clock v n a h)

-- no list of theirs is untouched
touched-lists_apart : (routes : Routes) (first : ℕ) (second : Option ℕ) (m : MemoryState) (v n : ℕ) → n ≤ m.clock → n ≤ last_count → (v ≡ first) ⊎ (Some v ≡ second) →
    get_or (touched_lists routes first second m).touches.lists v last_count < n → ⊥
touched-lists_apart routes first None m v n a b (inl e) h = written_touched m.touches.lists v m.clock n a b (subst (λ z. get_or (set m.touches.lists z m.clock) v last_count < n) (sym e) h)
touched-lists_apart routes first None m v n a b (inr e) h = absurd (no e)
  where
    no : Some v ≡ None → ⊥
    no z = cc
touched-lists_apart routes first (Some k) m v n a b (inl e) h =
    written_touched m.touches.lists v m.clock n a b
    (subst (λ z. get_or (set m.touches.lists z m.clock) v last_count < n) (sym e) (written_kept (set m.touches.lists first m.clock) k m.clock v n a h))
touched-lists_apart routes first (Some k) m v n a b (inr e) h =
    let s : v ≡ k = cc in
    written_touched (set m.touches.lists first m.clock) v m.clock n a b (subst (λ z. get_or (set (set m.touches.lists first m.clock) z m.clock) v last_count < n) (sym s) h)

touched-kept : (routes : Routes) (first : ℕ) (second : Option ℕ) (m : MemoryState) (c n : ℕ) → n ≤ m.clock → get_or (touched_lists routes first second m).touches.clients c last_count < n → get_or m.touches.clients c last_count < n
touched-kept routes first None m c n a h = clients_kept m.clock (list_at routes first) m.touches.clients c n a h
touched-kept routes first (Some v) m c n a h =
    clients_kept m.clock (list_at routes first) m.touches.clients c n a (clients_kept m.clock (list_at routes v) (touched_clients m.clock (list_at routes first) m.touches.clients) c n a h)

-- a client that is untouched after lists were touched is on none of them
touched-apart : (routes : Routes) (first : ℕ) (second : Option ℕ) (m : MemoryState) (c n : ℕ) → n ≤ m.clock → n ≤ last_count → get_or (touched_lists routes first second m).touches.clients c last_count < n →
    (k : ℕ) → (k ≡ first) ⊎ (Some k ≡ second) → has_client c (list_at routes k) ≡ false
touched-apart routes first second m c n a b h k on = by_answer (has_client c (list_at routes k)) refl (λ e. by second h on e)
  where
    by_answer : (t : Bool) → has_client c (list_at routes k) ≡ t → (has_client c (list_at routes k) ≡ true → ⊥) → t ≡ false
    by_answer true e never = absurd (never e)
    by_answer false e never = refl

    by : (second : Option ℕ) → get_or (touched_lists routes first second m).touches.clients c last_count < n → (k ≡ first) ⊎ (Some k ≡ second) → has_client c (list_at routes k) ≡ true → ⊥
    by None h (inl e) i = clients_touched m.clock (list_at routes first) m.touches.clients c n a b (subst (λ z. has_client c (list_at routes z) ≡ true) e i) h
    by None h (inr e) i = absurd (no e)
      where
        no : Some k ≡ None → ⊥
        no z = cc
    by (Some v) h (inl e) i =
        clients_touched m.clock (list_at routes first) m.touches.clients c n a b (subst (λ z. has_client c (list_at routes z) ≡ true) e i)
        (clients_kept m.clock (list_at routes v) (touched_clients m.clock (list_at routes first) m.touches.clients) c n a h)
    by (Some v) h (inr e) i =
        let s : k ≡ v = cc in
        clients_touched m.clock (list_at routes v) (touched_clients m.clock (list_at routes first) m.touches.clients) c n a b (subst (λ z. has_client c (list_at routes z) ≡ true) s i) h

-- whether a vehicle is a second one
is_second : (k : ℕ) (o : Option ℕ) → (Some k ≡ o) ⊎ (Some k ≡ o → ⊥)
is_second k None = inr (λ z. no z)
  where
    no : Some k ≡ None → ⊥
    no z = cc
is_second k (Some v) = by (cases_eq k v)
  where
    by : (k ≡ v) ⊎ (k ≡ v → ⊥) → (Some k ≡ Some v) ⊎ (Some k ≡ Some v → ⊥)
    by (inl e) = inl (ap (λ z. Some z) e)
    by (inr n) = inr (λ z. n (inner z))
      where
        inner : Some k ≡ Some v → k ≡ v
        inner z = cc

module _ (p : Problem) (before made : Routes) (first : ℕ) (second : Option ℕ) (m : MemoryState) (long : length made ≡ length before)
    (elsewhere : (k : ℕ) → (k ≡ first → ⊥) → (Some k ≡ second → ⊥) → list_at made k ≡ list_at before k) (memory : IsMemoryOf p before m) (counted : m.clock ≤ last_count) where
  -- the memory as the old lists were touched, and then the new ones
  abbrev once : MemoryState
  once = touched_lists before first second m

  abbrev twice : MemoryState
  twice = touched_lists made first second (touched_lists before first second m)

  told : IsTold p made (length p.types) twice (after_move p before made first second m)
  told = told_all p made (length p.types) twice
      (rw (touched-unused made first second once, touched-unused before first second m, memory.as_many) (omega arith))
      (rw (touched-types made first second once, touched-types before first second m, memory.types) (omega arith))

  pub after-clock : (after_move p before made first second m).clock ≡ m.clock
  after-clock = let t = told in t.clock ∙ touched-clock made first second once ∙ touched-clock before first second m

  pub after-tried : (after_move p before made first second m).tried ≡ m.tried
  after-tried = let t = told in t.tried ∙ touched-tried made first second once ∙ touched-tried before first second m

  pub after-moments : (after_move p before made first second m).moments ≡ m.moments
  after-moments = let t = told in t.moments ∙ touched-moments made first second once ∙ touched-moments before first second m

  -- it is one of the plan that was made
  pub after-memory : IsMemoryOf p made (after_move p before made first second m)
  after-memory = let t = told in record {
    counted = rw after-clock counted;
    moments = ap (λ (ms : Moments). length ms.clients) after-moments ∙ memory.moments;
    pairs = ap (λ (ms : Moments). length ms.pairs) after-moments ∙ memory.pairs;
    clients = ap (λ (xs : List ℕ). length xs) t.clients ∙ touched-length made first second once ∙ touched-length before first second m ∙ memory.clients;
    types = t.types ∙ ap (λ (xs : List ℕ). length xs) (touched-types made first second once ∙ touched-types before first second m) ∙ memory.types;
    lists = ap (λ (xs : List ℕ). length xs) t.lists ∙ touched-list_count made first second once ∙ touched-list_count before first second m ∙ memory.lists;
    as_many = t.as_many ∙ ap (λ (xs : List (Option ℕ)). length xs) (touched-unused made first second once ∙ touched-unused before first second m) ∙ memory.as_many;
    unused = λ type l. t.unused type l;
  }

  client_twice : (c n : ℕ) → get_or (after_move p before made first second m).touches.clients c last_count < n → get_or twice.touches.clients c last_count < n
  client_twice c n h = let t = told in subst (λ (xs : List ℕ). get_or xs c last_count < n) t.clients h

  client_once : (c n : ℕ) → n ≤ m.clock → get_or twice.touches.clients c last_count < n → get_or once.touches.clients c last_count < n
  client_once c n a h = touched-kept made first second once c n (rw (touched-clock before first second m) a) h

  -- an untouched client is on no list that changed
  client_apart : (c n : ℕ) → n ≤ m.clock → get_or (after_move p before made first second m).touches.clients c last_count < n → list_any (is_on_changed_list c) (zip before made) ≡ false
  client_apart c n a h = none_changed c before made long each
    where
      b : n ≤ last_count
      b = omega arith

      of_side : (k : ℕ) → (k ≡ first) ⊎ (Some k ≡ second) → is_on_changed_list c (list_at before k, list_at made k) ≡ false
      of_side k on = none (is_same_list (list_at before k) (list_at made k)) (has_client c (list_at before k)) (has_client c (list_at made k))
          (touched-apart before first second m c n a b (client_once c n a (client_twice c n h)) k on)
          (touched-apart made first second once c n (rw (touched-clock before first second m) a) b (client_twice c n h) k on)
        where
          none : (s t u : Bool) → t ≡ false → u ≡ false → (not s && (t || u)) ≡ false
          none true t u e f = refl
          none false true u e f = cc
          none false false true e f = cc
          none false false false e f = refl

      of_other : (k : ℕ) → (k ≡ first → ⊥) → (Some k ≡ second → ⊥) → is_on_changed_list c (list_at before k, list_at made k) ≡ false
      of_other k x y = same (list_at before k) (list_at made k) (elsewhere k x y)
        where
          same : (xs ys : List Visit) → ys ≡ xs → is_on_changed_list c (xs, ys) ≡ false
          same xs ys e = subst (λ (zs : List Visit). is_on_changed_list c (xs, zs) ≡ false) (sym e) (rw (same_list xs) refl)

      each : (k : ℕ) → is_on_changed_list c (list_at before k, list_at made k) ≡ false
      each k = by (cases_eq k first) (is_second k second)
        where
          by : (k ≡ first) ⊎ (k ≡ first → ⊥) → (Some k ≡ second) ⊎ (Some k ≡ second → ⊥) → is_on_changed_list c (list_at before k, list_at made k) ≡ false
          by (inl e) y = of_side k (inl e)
          by (inr x) (inl e) = of_side k (inr e)
          by (inr x) (inr y) = of_other k x y

  list_twice : (v n : ℕ) → get_or (after_move p before made first second m).touches.lists v last_count < n → get_or twice.touches.lists v last_count < n
  list_twice v n h = let t = told in subst (λ (xs : List ℕ). get_or xs v last_count < n) t.lists h

  list_once : (v n : ℕ) → n ≤ m.clock → get_or twice.touches.lists v last_count < n → get_or once.touches.lists v last_count < n
  list_once v n a h = touched-lists_kept made first second once v n (rw (touched-clock before first second m) a) h

  -- an untouched list is the same
  list_apart : (v n : ℕ) → n ≤ m.clock → get_or (after_move p before made first second m).touches.lists v last_count < n → is_same_list (list_at before v) (list_at made v) ≡ true
  list_apart v n a h = by (cases_eq v first) (is_second v second)
    where
      of_side : (v ≡ first) ⊎ (Some v ≡ second) → ⊥
      of_side on = touched-lists_apart before first second m v n a (omega arith) on (list_once v n a (list_twice v n h))

      by : (v ≡ first) ⊎ (v ≡ first → ⊥) → (Some v ≡ second) ⊎ (Some v ≡ second → ⊥) → is_same_list (list_at before v) (list_at made v) ≡ true
      by (inl e) y = absurd (of_side (inl e))
      by (inr x) (inl e) = absurd (of_side (inr e))
      by (inr x) (inr y) = subst (λ (xs : List Visit). is_same_list (list_at before v) xs ≡ true) (sym (elsewhere v x y)) (same_list (list_at before v))

  -- an untouched type has the same least unused vehicle
  type_apart : (t n : ℕ) → n ≤ m.clock → get_or (after_move p before made first second m).touches.types t last_count < n →
      (is_same_vehicle (unused_vehicle p before t) (unused_vehicle p made t) ≡ true) × (get_or m.touches.types t last_count < n)
  type_apart t n a h = by (let f = told in f.touched t) (cases_lt t (length p.types))
    where
      f : IsTold p made (length p.types) twice (after_move p before made first second m)
      f = told

      past : length p.types ≤ t → ⊥
      past l =
          let e : get_or (after_move p before made first second m).touches.types t last_count ≡ last_count =
          get_or_past (after_move p before made first second m).touches.types t last_count (rw (let g = after-memory in g.types) l) in
          omega arith

      old_types : twice.touches.types ≡ m.touches.types
      old_types = touched-types made first second once ∙ touched-types before first second m

      old_unused : slice_index_or twice.unused t None ≡ slice_index_or m.unused t None
      old_unused = ap (λ (xs : List (Option ℕ)). slice_index_or xs t None) (touched-unused made first second once ∙ touched-unused before first second m)

      by : ((t < length p.types) × (get_or (after_move p before made first second m).touches.types t last_count ≡ twice.clock))
          ⊎ ((get_or (after_move p before made first second m).touches.types t last_count ≡ get_or twice.touches.types t last_count) × (t < length p.types → is_same_vehicle (slice_index_or twice.unused t None) (unused_vehicle p made t) ≡ true)) →
          (t < length p.types) ⊎ (length p.types ≤ t) →
          (is_same_vehicle (unused_vehicle p before t) (unused_vehicle p made t) ≡ true) × (get_or m.touches.types t last_count < n)
      by k (inr l) = absurd (past l)
      by (inl k) (inl l) =
          let e : get_or (after_move p before made first second m).touches.types t last_count ≡ m.clock = k.1 ∙ touched-clock made first second once ∙ touched-clock before first second m in
          absurd (omega arith)
      by (inr k) (inl l) = (
        subst (λ (o : Option ℕ). is_same_vehicle o (unused_vehicle p made t) ≡ true) (old_unused ∙ memory.unused t l) (k.1 l),
        subst (λ (xs : List ℕ). get_or xs t last_count < n) old_types (subst (λ z. z < n) k.0 h),
      )

  pub after-follows : Follows p before made m.touches (after_move p before made first second m).touches m.clock
  after-follows = record { touched = λ part n a e h. touched part n a e h; kept = λ part n a h. kept part n a h }
    where
      no : (b : Bool) → b ≡ true → b ≡ false → ⊥
      no true e f = cc
      no false e f = cc

      touched : (part : Part) (n : ℕ) → n ≤ m.clock → touches p before made part ≡ true → IsUntouchedPart (after_move p before made first second m).touches n part → ⊥
      touched (client_part c) n a e h = no (list_any (is_on_changed_list c) (zip before made)) e (client_apart c n a h)
      touched (unused_part t) n a e h = let r = type_apart t n a h in no (not (is_same_vehicle (unused_vehicle p before t) (unused_vehicle p made t))) e (ap not r.0)
      touched (list_part v) n a e h = no (not (is_same_list (list_at before v) (list_at made v))) e (ap not (list_apart v n a h))
      touched (visited_part c) n a e h = h

      kept : (part : Part) (n : ℕ) → n ≤ m.clock → IsUntouchedPart (after_move p before made first second m).touches n part → IsUntouchedPart m.touches n part
      kept (client_part c) n a h = touched-kept before first second m c n a (client_once c n a (client_twice c n h))
      kept (unused_part t) n a h = let r = type_apart t n a h in r.1
      kept (list_part v) n a h = touched-lists_kept before first second m v n a (list_once v n a (list_twice v n h))
      kept (visited_part c) n a h = h

-- as many types as before are known to a memory that was told of one
pub renewed-unused : (t : ℕ) (v : Option ℕ) (m : MemoryState) → length (renewed t v m).unused ≡ length m.unused
renewed-unused t v m = by (is_same_vehicle (slice_index_or m.unused t None) v)
  where
    by : (s : Bool) → length (cond s m (record m { unused = set m.unused t v; touches = record m.touches { types = set m.touches.types t m.clock } })).unused ≡ length m.unused
    by true = refl
    by false = length-set m.unused t v

pub renewed-types : (t : ℕ) (v : Option ℕ) (m : MemoryState) → length (renewed t v m).touches.types ≡ length m.touches.types
renewed-types t v m = by (is_same_vehicle (slice_index_or m.unused t None) v)
  where
    by : (s : Bool) → length (cond s m (record m { unused = set m.unused t v; touches = record m.touches { types = set m.touches.types t m.clock } })).touches.types ≡ length m.touches.types
    by true = refl
    by false = length-set m.touches.types t m.clock

pub renewed-lists : (t : ℕ) (v : Option ℕ) (m : MemoryState) → (renewed t v m).touches.lists ≡ m.touches.lists
renewed-lists t v m = by (is_same_vehicle (slice_index_or m.unused t None) v)
  where
    by : (s : Bool) → (cond s m (record m { unused = set m.unused t v; touches = record m.touches { types = set m.touches.types t m.clock } })).touches.lists ≡ m.touches.lists
    by true = refl
    by false = refl

-- one more type
pub renew_more : (p : Problem) (plan : Routes) (n : ℕ) (m0 m m' : MemoryState) (v : Option ℕ) → m' ≡ renewed n v m → v ≡ unused_vehicle p plan n → m ≡ renewed_all p plan n m0 → m' ≡ renewed_all p plan (n + 1) m0
renew_more p plan n m0 m m' v e f g =
    let s : suc n ≡ n + 1 = omega arith in
    e ∙ ap (λ (o : Option ℕ). renewed n o m) f ∙ ap (λ (z : MemoryState). renewed n (unused_vehicle p plan n) z) g ∙ ap (λ k. renewed_all p plan k m0) s

pub renew_unused : (n k : ℕ) (v : Option ℕ) (m m' : MemoryState) → m' ≡ renewed n v m → length m.unused ≡ k → length m'.unused ≡ k
renew_unused n k v m m' e f = ap (λ (z : MemoryState). length z.unused) e ∙ renewed-unused n v m ∙ f

pub renew_types : (n k : ℕ) (v : Option ℕ) (m m' : MemoryState) → m' ≡ renewed n v m → length m.touches.types ≡ k → length m'.touches.types ≡ k
renew_types n k v m m' e f = ap (λ (z : MemoryState). length z.touches.types) e ∙ renewed-types n v m ∙ f
