-- Sides of proposals: of a route, and with one view more.
use Rattle.std.proofs.Common.{◌≡◌, ◌≢◌, ℕ, ◌+◌, ◌<◌, ◌⊎◌, inl, inr, Bool, true, false, List, [], ◌∷◌, ◌++◌, length, get_or, refl, sym, ◌∙◌, ap, subst, arith, Option, None, Some, Result, Ok, Err}
use Rattle.std.specs.Prelude.{◌↔◌, IsOk, OnErr, OnOk}
use Rattle.std.proofs.lemmas.List.{get_or_append_left, get_or_push, length-append}
use Rattle.std.proofs.lemmas.List.Elements.{All-get_or, All-nil, All-push}
use Rattle.problem_data.specs.declared.problem.Problem.{Problem}
use Rattle.problem_data.specs.declared.problem.VehicleType.{VehicleType}
use Rattle.problem_data.specs.declared.visit.Visit.{Visit}
use Rattle.problem_data.specs.Places.{type_at, type_of, vehicle_count}
use Rattle.problem_data.specs.Valid.{IsValidType}
use Rattle.routing_model.specs.Listed.{IsListed, type_of_vehicle}
use Rattle.trips.specs.WholeRoutes.{IsWhole}
use Rattle.trips.specs.declared.whole_route.WholeRoute.{WholeRoute}
use Rattle.route_cache.specs.Lending.{IsLendable}
use Rattle.route_cache.specs.Routes.{RouteState, ViewState}
use Rattle.penalty_cost.specs.declared.proposed_side.ProposedSide.{ProposedSide}
use Rattle.penalty_cost.specs.Proposals.{MayComeNext}
use Rattle.penalty_cost.specs.inside.ProposedSides.{IsProposedSide, IsSecond, state_of}
use Rattle.penalty_cost.specs.inside.Sides.{IsSide}
use Rattle.joined_views.specs.Views.{ArePlaced}

none-placed : (p : Problem) (vehicle : ℕ) → ArePlaced p vehicle []
none-placed p vehicle = record {
  lendable = All-nil IsLendable;
  same = All-nil (λ (v : ViewState). v.problem ≡ p);
  begins = λ i none h. absurd (omega arith);
  own_start = λ i none h. absurd (omega arith);
  ends = λ i none h. absurd (omega arith);
  own_end = λ i none h. absurd (omega arith);
}

-- of a route, without a view
pub new-side : (route : RouteState) (p : Problem) → p ≡ route.problem → (vehicle : ℕ) → vehicle ≡ route.vehicle → vehicle < vehicle_count route.problem →
    (t : VehicleType) → t ≡ type_at p (type_of p vehicle) → IsValidType p t → (whole : WholeRoute) → IsWhole route.problem (type_of_vehicle route.problem route.vehicle) route.visits whole →
    (visits : List Visit) → visits ≡ route.visits → IsListed route.problem route.visits → (views : List ViewState) → views ≡ [] → IsSide route.problem vehicle t whole visits views
new-side route p is_problem vehicle is_vehicle in_range t is_type allowed whole is_whole visits is_visits listed views none =
    let typed : t ≡ type_of_vehicle route.problem vehicle = is_type ∙ ap (λ (q : Problem). type_at q (type_of q vehicle)) is_problem in
    record {
      in_range = in_range;
      is_type = typed;
      allowed = subst (λ (q : Problem). IsValidType q t) is_problem allowed;
      listed = rw is_visits listed;
      is_whole = rw (typed, is_vehicle, is_visits) is_whole;
      placed = rw none (none-placed route.problem vehicle);
    }

at-or-before : (i n : ℕ) → i < n + 1 → (i < n) ⊎ (i ≡ n)
at-or-before i n h = grind arith

long-more : (views : List ViewState) (view : ViewState) → length (views ++ view ∷ []) ≡ length views + 1
long-more views view = length-append views (view ∷ [])

module _ (p : Problem) (vehicle : ℕ) (list : List Visit) (views : List ViewState) (view : ViewState) (placed : ArePlaced p vehicle views) (lendable : IsLendable view)
    (next : MayComeNext p (record { vehicle = vehicle; list = list; views = views }) view) where
  at : (i : ℕ) (none : ViewState) → i < length (views ++ view ∷ []) → ((i < length views) × (get_or (views ++ view ∷ []) i none ≡ get_or views i none)) ⊎ ((i ≡ length views) × (get_or (views ++ view ∷ []) i none ≡ view))
  at i none h = elim (at-or-before i (length views) (let long = long-more views view in omega arith)) as
      (λ _. ((i < length views) × (get_or (views ++ view ∷ []) i none ≡ get_or views i none)) ⊎ ((i ≡ length views) × (get_or (views ++ view ∷ []) i none ≡ view))) [
        | inl before ↦ inl (before, grind (arith, get_or_append_left))
        | inr here ↦ inr (here, grind (arith, get_or_push))
      ]

  pub placed-more : ArePlaced p vehicle (views ++ view ∷ [])
  placed-more = record {
    lendable = All-push IsLendable views view placed.lendable lendable;
    same = All-push (λ (v : ViewState). v.problem ≡ p) views view placed.same next.problem;
    begins = λ i none h starts. elim (at i none h) as (λ _. i ≡ 0) [
      | inl before ↦ placed.begins i none before.0 (ap (λ (v : ViewState). v.starts) (sym before.1) ∙ starts)
      | inr here ↦ here.0 ∙ ap (λ (vs : List ViewState). length vs) (next.first (ap (λ (v : ViewState). v.starts) (sym here.1) ∙ starts))
    ];
    own_start = λ i none h starts. elim (at i none h) as (λ _. (get_or (views ++ view ∷ []) i none).vehicle ≡ Some vehicle) [
      | inl before ↦ ap (λ (v : ViewState). v.vehicle) before.1 ∙ placed.own_start i none before.0 (ap (λ (v : ViewState). v.starts) (sym before.1) ∙ starts)
      | inr here ↦ ap (λ (v : ViewState). v.vehicle) here.1 ∙ next.own_start (ap (λ (v : ViewState). v.starts) (sym here.1) ∙ starts)
    ];
    ends = λ i none h ends. elim (at i none h) as (λ _. i + 1 ≡ length (views ++ view ∷ [])) [
      | inl before ↦ absurd (never (get_or views i none).ends (All-get_or (λ (v : ViewState). v.ends ≡ false) views i none before.0 next.goes_on) (ap (λ (v : ViewState). v.ends) (sym before.1) ∙ ends))
      | inr here ↦ ap (λ (n : ℕ). n + 1) here.0 ∙ sym (long-more views view)
    ];
    own_end = λ i none h ends. elim (at i none h) as (λ _. (get_or (views ++ view ∷ []) i none).vehicle ≡ Some vehicle) [
      | inl before ↦ ap (λ (v : ViewState). v.vehicle) before.1 ∙ placed.own_end i none before.0 (ap (λ (v : ViewState). v.ends) (sym before.1) ∙ ends)
      | inr here ↦ ap (λ (v : ViewState). v.vehicle) here.1 ∙ next.own_end (ap (λ (v : ViewState). v.ends) (sym here.1) ∙ ends)
    ];
  }
    where
      never : (b : Bool) → b ≡ false → b ≡ true → ⊥
      never b h k = cc

-- with one view more, where there is room
pub pushed-side : {X Y : Type 0} (p : Problem) (old new : ProposedSide) (view : ViewState) (result : Result X Y) → IsProposedSide p old → MayComeNext p (state_of old) view → IsLendable view →
    IsOk result ↔ (length old.views.items < 8) → OnOk result (new.views.items ≡ old.views.items ++ view ∷ []) → OnErr result (new.views.items ≡ old.views.items) →
    new.vehicle ≡ old.vehicle → new.vehicle_type ≡ old.vehicle_type → new.whole ≡ old.whole → new.visits ≡ old.visits → IsProposedSide p new
pushed-side {X} {Y} p old new view result side next lendable room ok err vehicle vehicle_type whole visits = by result room ok err
  where
    kept : (views : List ViewState) → ArePlaced p old.vehicle views → IsSide p old.vehicle old.vehicle_type.now old.whole old.visits.now views
    kept views placed = record {
      in_range = side.is_side.in_range;
      is_type = side.is_side.is_type;
      allowed = side.is_side.allowed;
      listed = side.is_side.listed;
      is_whole = side.is_side.is_whole;
      placed = placed;
    }

    moved : (views : List ViewState) → ArePlaced p old.vehicle views → new.views.items ≡ views → IsSide p new.vehicle new.vehicle_type.now new.whole new.visits.now new.views.items
    moved views placed is = rw (vehicle, vehicle_type, whole, visits, is) (kept views placed)

    by : (r : Result X Y) → IsOk r ↔ (length old.views.items < 8) → OnOk r (new.views.items ≡ old.views.items ++ view ∷ []) → OnErr r (new.views.items ≡ old.views.items) → IsProposedSide p new
    by (Ok value) room ok err = record {
      is_side = moved (old.views.items ++ view ∷ []) (placed-more p old.vehicle old.visits.now old.views.items view side.is_side.placed lendable next) ok;
      room =
          let long = long-more old.views.items view in
          let less = room.0 refl in
          let same = ap (λ (vs : List ViewState). length vs) ok in
          omega arith;
    }
    by (Err fault) room ok err = record {
      is_side = moved old.views.items side.is_side.placed err;
      room = let same = ap (λ (vs : List ViewState). length vs) err in omega (arith, side.room);
    }

-- the other side stays a second one
pub second-kept : (p : Problem) (old new : ProposedSide) (second : Option ProposedSide) → new.vehicle ≡ old.vehicle → IsSecond p old second → IsSecond p new second
second-kept p old new None same h = h
second-kept p old new (Some second) same h = (h.0, (λ e. h.1 (e ∙ same)))

pub apart-still : (new old other : ℕ) → new ≡ old → old ≢ other → new ≢ other
apart-still new old other same h = λ e. h (sym same ∙ e)
