-- The clients of some vehicles, one vehicle after the other.
use Rattle.std.proofs.Common.{◌≡◌, ◌∙◌, ℕ, ◌+◌, ◌<◌, Bool, true, false, cond, List, [], ◌∷◌, ◌++◌, filter, length, get_or, take, sym, ap, arith}
use Rattle.std.specs.List.{range_with_len}
use Rattle.std.proofs.lemmas.Grind.{flat_map-append}
use Rattle.std.proofs.lemmas.List.{append-nil, take_more}
use Rattle.std.proofs.lemmas.List.Elements.{filter-append}
use Rattle.routing_model.specs.Routes.{Routes, clients_of, clients_of_vehicles, list_at}
use Rattle.route_rings.proofs.Counting.{range-next}

module _ (routes : Routes) where
  one-more : (vehicles : List ℕ) (v : ℕ) → clients_of_vehicles routes (vehicles ++ v ∷ []) ≡ clients_of_vehicles routes vehicles ++ clients_of (list_at routes v)
  one-more vehicles v =
      flat_map-append (λ u. clients_of (list_at routes u)) vehicles (v ∷ [])
      ∙ ap (λ (cs : List ℕ). clients_of_vehicles routes vehicles ++ cs) (append-nil (clients_of (list_at routes v)))

  -- the first vehicles of some, and one more
  pub taken-next : (vehicles : List ℕ) (k : ℕ) → k < length vehicles →
      clients_of_vehicles routes (take k vehicles) ++ clients_of (list_at routes (get_or vehicles k 0)) ≡ clients_of_vehicles routes (take (k + 1) vehicles)
  taken-next vehicles k inside = sym (ap (clients_of_vehicles routes) (take_more vehicles k 0 inside) ∙ one-more (take k vehicles) (get_or vehicles k 0))

  module _ (test : ℕ → Bool) (k : ℕ) where
    filter-next : (b : Bool) → test k ≡ b → filter test (range_with_len 0 (k + 1)) ≡ filter test (range_with_len 0 k) ++ cond b (k ∷ []) []
    filter-next b e =
        ap (filter test) (range-next 0 k k (omega arith))
        ∙ (filter-append test (range_with_len 0 k) (k ∷ []) ∙ ap (λ (b : Bool). filter test (range_with_len 0 k) ++ cond b (k ∷ []) []) e)

    -- those of the first vehicles that pass a test, and one more that passes it
    pub passed-next : test k ≡ true →
        clients_of_vehicles routes (filter test (range_with_len 0 k)) ++ clients_of (list_at routes k) ≡ clients_of_vehicles routes (filter test (range_with_len 0 (k + 1)))
    passed-next e = sym (ap (clients_of_vehicles routes) (filter-next true e) ∙ one-more (filter test (range_with_len 0 k)) k)

    -- and one that doesn't
    pub passed-same : test k ≡ false → clients_of_vehicles routes (filter test (range_with_len 0 k)) ≡ clients_of_vehicles routes (filter test (range_with_len 0 (k + 1)))
    passed-same e = sym (ap (clients_of_vehicles routes) (filter-next false e ∙ append-nil (filter test (range_with_len 0 k))))
