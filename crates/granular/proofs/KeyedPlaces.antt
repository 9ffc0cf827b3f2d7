-- The keys of some clients by the numbers of all pairs, and those of the clients from one on.
use Rattle.std.proofs.Common.{◌≡◌, ◌∙◌, sym, refl, ap, ap₂, ℕ, zero, suc, ◌+◌, ◌*◌, ◌<◌, ◌≤◌, ◌==◌, Bool, true, false, cond, List, [], ◌∷◌, ◌++◌, length, map, append_assoc, arith, get_or}
use Rattle.std.specs.Prelude.{filter, min, not}
use Rattle.std.specs.List.{range_with_len}
use Rattle.std.proofs.lemmas.List.{append-nil}
use Rattle.std.proofs.lemmas.Bool.Decides.{nat_tests}
use Rattle.problem_data.specs.declared.problem.Problem.{Problem}
use Rattle.problem_data.specs.Places.{depot_count}
use Rattle.search_model.specs.Neighbours.{proximity}
use Rattle.granular.specs.declared.proximity.Proximity.{Proximity}
use Rattle.granular.specs.Pairs.{all_nears, keys_among, keys_of}
use Rattle.granular.proofs.PairRange.{entry-is}

-- how near two clients are, by a square table of how far one is after another
abbrev pub nearer_way : List ℕ → ℕ → ℕ → ℕ → ℕ
nearer_way nears n i o = min (get_or nears (i * n + o) 0) (get_or nears (o * n + i) 0)

-- the others among some clients, each with its place behind that number
abbrev pub keys_by : List ℕ → ℕ → ℕ → ℕ → List ℕ → List (ℕ × ℕ)
keys_by nears n first i others = map (λ o. (nearer_way nears n i o, first + o)) (filter (λ o. not (o == i)) others)

keys-first : (nears : List ℕ) (n first i o : ℕ) (others : List ℕ) (is_it : Bool) → (o == i) ≡ is_it →
    keys_by nears n first i (o ∷ others) ≡ cond is_it (keys_by nears n first i others) ((nearer_way nears n i o, first + o) ∷ keys_by nears n first i others)
keys-first nears n first i o others true e = rw e refl
keys-first nears n first i o others false e = rw e refl

-- the client itself is passed over
pub keys-skipped : (nears : List ℕ) (n first i o m : ℕ) (keys all : List (ℕ × ℕ)) → (o == i) ≡ true →
    keys ++ keys_by nears n first i (range_with_len o (suc m)) ≡ all → keys ++ keys_by nears n first i (range_with_len (o + 1) m) ≡ all
keys-skipped nears n first i o m keys all is h =
    ap (λ (t : List (ℕ × ℕ)). keys ++ t) (sym (keys-first nears n first i o (range_with_len (o + 1) m) true is)) ∙ h

-- another client is taken
pub keys-taken : (nears : List ℕ) (n first i o m : ℕ) (keys all : List (ℕ × ℕ)) → (o == i) ≡ false →
    keys ++ keys_by nears n first i (range_with_len o (suc m)) ≡ all →
    (keys ++ (nearer_way nears n i o, first + o) ∷ []) ++ keys_by nears n first i (range_with_len (o + 1) m) ≡ all
keys-taken nears n first i o m keys all is h =
    let rest : List (ℕ × ℕ) = keys_by nears n first i (range_with_len (o + 1) m) in
    append_assoc keys ((nearer_way nears n i o, first + o) ∷ []) rest
    ∙ ap (λ (t : List (ℕ × ℕ)). keys ++ t) (sym (keys-first nears n first i o (range_with_len (o + 1) m) false is)) ∙ h

-- nothing is left
pub keys-none : (nears : List ℕ) (n first i o m : ℕ) (keys all : List (ℕ × ℕ)) → m ≡ 0 →
    keys ++ keys_by nears n first i (range_with_len o m) ≡ all → keys ≡ all
keys-none nears n first i o m keys all e h =
    sym (ap (λ (k : ℕ). keys ++ keys_by nears n first i (range_with_len o k)) e ∙ append-nil keys) ∙ h

one-more : (near : ℕ → ℕ) (number client place : ℕ) (same : Bool) (keys : List (ℕ × ℕ)) (places : List ℕ) → (place == client) ≡ same → number ≡ near place →
    keys ≡ map (λ o. (near o, o)) (filter (λ o. not (o == client)) places) →
    cond same keys ((number, place) ∷ keys) ≡ map (λ o. (near o, o)) (filter (λ o. not (o == client)) (place ∷ places))
one-more near number client place true keys places e f h = rw e h
one-more near number client place false keys places e f h = rw e (ap₂ (λ (k : ℕ) (l : List (ℕ × ℕ)). (k, place) ∷ l) f h)

same-test : (first i o : ℕ) → (first + o == first + i) ≡ (o == i)
same-test first i o = grind (arith, nat_tests)

-- the keys of clients by their places
keys-places : (p : Problem) (weights : Proximity) (i o m : ℕ) → i < length p.clients → o + m ≤ length p.clients →
    keys_by (all_nears p weights) (length p.clients) (depot_count p) i (range_with_len o m)
    ≡ keys_among p weights (depot_count p + i) (range_with_len (depot_count p + o) m)
keys-places p weights i o zero h k = refl
keys-places p weights i o (suc m) h k =
    let first : ℕ = depot_count p in
    let n : ℕ = length p.clients in
    let nears : List ℕ = all_nears p weights in
    let client : ℕ = first + i in
    let near : ℕ → ℕ = proximity p weights.wait weights.warp client in
    let there = entry-is p weights i o 0 h (omega arith) in
    let back = entry-is p weights o i 0 (omega arith) h in
    let behind : first + (o + 1) ≡ first + o + 1 = omega arith in
    let rest : keys_by nears n first i (range_with_len (o + 1) m) ≡ keys_among p weights client (range_with_len (first + o + 1) m) =
    keys-places p weights i (o + 1) m h (omega arith) ∙ ap (λ (s : ℕ). keys_among p weights client (range_with_len s m)) behind in
    keys-first nears n first i o (range_with_len (o + 1) m) (o == i) refl
    ∙ one-more near (nearer_way nears n i o) client (first + o) (o == i) (keys_by nears n first i (range_with_len (o + 1) m)) (range_with_len (first + o + 1) m)
    (same-test first i o) (ap₂ min there back) rest

-- all clients' keys
pub keys-are : (p : Problem) (weights : Proximity) (i : ℕ) → i < length p.clients →
    keys_by (all_nears p weights) (length p.clients) (depot_count p) i (range_with_len 0 (length p.clients)) ≡ keys_of p weights (depot_count p + i)
keys-are p weights i h =
    let from : depot_count p + 0 ≡ depot_count p = omega arith in
    keys-places p weights i 0 (length p.clients) h (omega arith)
    ∙ ap (λ (s : ℕ). keys_among p weights (depot_count p + i) (range_with_len s (length p.clients))) from
