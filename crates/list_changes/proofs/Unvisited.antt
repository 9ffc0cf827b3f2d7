-- A client that isn't visited has no vehicle.
use Rattle.std.proofs.Common.{◌≡◌, ℕ, ◌+◌, Bool, true, false, ◌||◌, cond, List, [], ◌∷◌, refl, ◌∙◌, ap, None, Some}
use Rattle.std.specs.List.{list_any, position_from}
use Rattle.routing_model.specs.Routes.{Routes, has_client, is_visited}
use Rattle.search_model.specs.Edits.{position_of, vehicle_of}
use Rattle.search_model.proofs.PutMoves.{position-none}

or-first : (a b : Bool) → (a || b) ≡ false → a ≡ false
or-first true b h = cc
or-first false b h = refl

or-second : (a b : Bool) → (a || b) ≡ false → b ≡ false
or-second true b h = cc
or-second false b h = h

nowhere : {X : Type 0} (q : X → Bool) (n : ℕ) (xs : List X) → list_any q xs ≡ false → position_from q n xs ≡ None
nowhere q n [] none = refl
nowhere q n (x ∷ xs) none =
    ap (λ (b : Bool). cond b (Some n) (position_from q (n + 1) xs)) (or-first (q x) (list_any q xs) none) ∙ nowhere q (n + 1) xs (or-second (q x) (list_any q xs) none)

pub unvisited : (routes : Routes) (client : ℕ) → is_visited routes client ≡ false → vehicle_of routes client ≡ None
unvisited routes client none = nowhere (has_client client) 0 routes none

pub no-place : (routes : Routes) (client : ℕ) → position_of routes client ≡ None → vehicle_of routes client ≡ None
no-place routes client none = unvisited routes client (position-none routes client none)
