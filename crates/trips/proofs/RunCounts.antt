-- The runs of a list are in range, and their prizes.
use Rattle.std.proofs.Common.{◌≡◌, ℕ, ◌+◌, ◌-◌, ◌*◌, ◌≤◌, Bool, true, false, ◌&&◌, List, [], ◌∷◌, ◌++◌, length, drop, refl, ◌∙◌, ap, arith, sum_by, slice_range}
use Rattle.std.specs.Prelude.{All, IsTrue}
use Rattle.std.specs.List.{list_all}
use Rattle.std.proofs.lemmas.List.{length-drop, length-take}
use Rattle.std.proofs.lemmas.List.Elements.{All-cons, All-drop, All-nil, All-take}
use Rattle.std.proofs.lemmas.List.Sums.{sum_by-append, sum_by-cons}
use Rattle.problem_data.specs.declared.problem.Problem.{Problem}
use Rattle.problem_data.specs.declared.problem.VehicleType.{VehicleType}
use Rattle.problem_data.specs.declared.visit.Visit.{Visit}
use Rattle.problem_data.specs.declared.visit.Visit.TheVariants.{Client, Reload}
use Rattle.problem_data.specs.Limits.{largest, most_visits}
use Rattle.problem_data.specs.Places.{client_at}
use Rattle.problem_data.specs.Valid.{IsValid, IsValidType}
use Rattle.routing_model.specs.Lawful.{names_place}
use Rattle.routing_model.specs.Routes.{clients_of}
use Rattle.trips.specs.Laws.{IsInRange}
use Rattle.trips.specs.Runs.{Run}
use Rattle.trips.proofs.Quantities.{valid_client_at}
use Rattle.routing_model.specs.Listed.{IsListed}
use Rattle.trips.specs.RunSegments.{prizes_of}

never : IsTrue false → ⊥
never h = cc

both-true : (a b : Bool) → IsTrue (a && b) → IsTrue a × IsTrue b
both-true true true h = (h, h)
both-true true false h = absurd (never h)
both-true false b h = absurd (never h)

-- what a test of all says of each
pub all-named : (p : Problem) (visits : List Visit) → IsTrue (list_all (names_place p) visits) → All (λ visit. IsTrue (names_place p visit)) visits
all-named p [] h = All-nil (λ (visit : Visit). IsTrue (names_place p visit))
all-named p (visit ∷ visits) h =
    let k = both-true (names_place p visit) (list_all (names_place p) visits) h in
    All-cons (λ (visit : Visit). IsTrue (names_place p visit)) visit visits k.0 (all-named p visits k.1)

pub named-listed : (p : Problem) (visits : List Visit) → IsListed p visits → All (λ visit. IsTrue (names_place p visit)) visits
named-listed p visits h = all-named p visits h.named

-- a run of a listed list is in range
pub run-in_range : (p : Problem) (t : VehicleType) (visits : List Visit) (starts : Bool) (first end : ℕ) (ends : Bool) → IsValid p → IsValidType p t → IsListed p visits →
    IsInRange p t (record { starts = starts; visits = slice_range visits first end; ends = ends })
run-in_range p t visits starts first end ends valid allowed listed = record {
  is_run = record {
    valid = valid;
    allowed = allowed;
    named = All-take (λ (visit : Visit). IsTrue (names_place p visit)) (end - first) (drop first visits)
        (All-drop (λ (visit : Visit). IsTrue (names_place p visit)) first visits (named-listed p visits listed));
  };
  few =
      let a = length-take (end - first) (drop first visits) in
      let b = length-drop first visits in
      omega (arith, listed.few);
}

-- prizes
clients-append : (xs ys : List Visit) → clients_of (xs ++ ys) ≡ clients_of xs ++ clients_of ys
clients-append [] ys = refl
clients-append (Client place ∷ xs) ys = ap (λ (zs : List ℕ). place ∷ zs) (clients-append xs ys)
clients-append (Reload depot ∷ xs) ys = clients-append xs ys

pub prizes-append : (p : Problem) (xs ys : List Visit) → prizes_of p (xs ++ ys) ≡ prizes_of p xs + prizes_of p ys
prizes-append p xs ys =
    ap (λ (clients : List ℕ). sum_by (λ place. (client_at p place).prize) clients) (clients-append xs ys)
    ∙ sum_by-append (λ (place : ℕ). (client_at p place).prize) (clients_of xs) (clients_of ys)

-- the prizes of some visits
prizes-bound : (p : Problem) (visits : List Visit) → IsValid p → prizes_of p visits ≤ length visits * largest
prizes-bound p [] valid = omega arith
prizes-bound p (Client place ∷ visits) valid =
    let rest = prizes-bound p visits valid in
    let c = valid_client_at p place valid in
    let a = sum_by-cons (λ (place : ℕ). (client_at p place).prize) place (clients_of visits) in
    omega (arith, c.prize)
prizes-bound p (Reload depot ∷ visits) valid = let rest = prizes-bound p visits valid in omega arith

-- the prizes of a run in range
pub prizes-run : (p : Problem) (t : VehicleType) (run : Run) → IsInRange p t run → prizes_of p run.visits ≤ most_visits * largest
prizes-run p t run h = let a = prizes-bound p run.visits h.is_run.valid in omega (arith, h.few)
