-- The neighbour lists of a problem name places that are there.
use Rattle.std.proofs.Common.{◌⊎◌, inl, inr, ℕ, ◌==◌, ◌<◌, ◌≤◌, Bool, true, false, not, List, [], ◌∷◌, All, length, map, replicate, get_or, arith, cond}
use Rattle.std.specs.Prelude.{filter}
use Rattle.std.specs.List.{range_with_len}
use Rattle.std.proofs.lemmas.Bool.{cases_lt}
use Rattle.std.proofs.lemmas.List.{get_or_past}
use Rattle.std.proofs.lemmas.List.Elements.{All-append, All-cons, All-filter, All-from_get_or, All-get_or, All-head, All-map, All-nil, All-replicate, All-tail, All-take}
use Rattle.std.proofs.lemmas.List.FromFn.{get_or-range_with_len, length-range_with_len}
use Rattle.std.proofs.lemmas.Option.{unwrap_or-slice_get}
use Rattle.list_words.specs.Order.{put_in_order, sorted_by}
use Rattle.problem_data.specs.declared.problem.Problem.{Problem}
use Rattle.problem_data.specs.Places.{client_places, depot_count, place_count}
use Rattle.search_model.specs.Neighbours.{is_nearer, neighbours, neighbours_of}
use Rattle.local_search.specs.Descents.{NamesPlaces}

-- what holds of all items holds of all of them in order
module _ {X : Type 0} (P : X → Type 0) (before : X → X → Bool) where
  put_in : (x : X) (ys : List X) → P x → All P ys → All P (put_in_order before x ys)
  put_in x [] h k = All-cons P x [] h k
  put_in x (y ∷ ys) h k = by (before y x) (put_in x ys h (All-tail P y ys k))
    where
      by : (t : Bool) → All P (put_in_order before x ys) → All P (cond t (y ∷ put_in_order before x ys) (x ∷ y ∷ ys))
      by true later = All-cons P y (put_in_order before x ys) (All-head P y ys k) later
      by false later = All-cons P x (y ∷ ys) h k

  sorted_in : (xs : List X) → All P xs → All P (sorted_by before xs)
  sorted_in [] h = h
  sorted_in (x ∷ xs) h = put_in x (sorted_by before xs) (All-head P x xs h) (sorted_in xs (All-tail P x xs h))

module _ (p : Problem) where
  abbrev IsThere : ℕ → Type 0
  IsThere place = place < place_count p

  clients_there : All IsThere (client_places p)
  clients_there = All-from_get_or IsThere (client_places p) 0 (λ i l. here i (rw length-range_with_len at l))
    where
      here : (i : ℕ) → i < length p.clients → get_or (range_with_len (depot_count p) (length p.clients)) i 0 < place_count p
      here i l = rw (get_or-range_with_len (depot_count p) (length p.clients) i 0 l) (omega arith)

  near_there : (k wait warp client : ℕ) → All IsThere (neighbours_of p k wait warp client)
  near_there k wait warp client =
      let others : List ℕ = filter (λ other. not (other == client)) (client_places p) in
      All-take IsThere k (sorted_by (is_nearer p wait warp client) others)
      (sorted_in IsThere (is_nearer p wait warp client) others
      (All-filter (λ other. not (other == client)) IsThere (client_places p) clients_there))

  all_there : (k wait warp : ℕ) → All (All IsThere) (neighbours p k wait warp)
  all_there k wait warp =
      All-append (All IsThere) (replicate (depot_count p) []) (map (neighbours_of p k wait warp) (client_places p))
      (All-replicate (All IsThere) (depot_count p) [] (All-nil IsThere))
      (All-map (All IsThere) (neighbours_of p k wait warp) (client_places p) (λ i d l. near_there k wait warp (get_or (client_places p) i d)))

  pub neighbours-name_places : (k wait warp : ℕ) → NamesPlaces p (neighbours p k wait warp)
  neighbours-name_places k wait warp client =
      rw (unwrap_or-slice_get (neighbours p k wait warp) client []) (by (cases_lt client (length (neighbours p k wait warp))))
    where
      by : (client < length (neighbours p k wait warp)) ⊎ (length (neighbours p k wait warp) ≤ client) → All IsThere (get_or (neighbours p k wait warp) client [])
      by (inl l) = All-get_or (All IsThere) (neighbours p k wait warp) client [] l (all_there k wait warp)
      by (inr l) = rw (get_or_past (neighbours p k wait warp) client [] l) (All-nil IsThere)
