-- How far it is over a run that another list lends.
use Rattle.std.proofs.Common.{◌≡◌, ℕ, ◌+◌, ◌<◌, ◌≤◌, List, length, refl, sym, ◌∙◌, ap, arith, slice_range}
use Rattle.std.proofs.lemmas.List.{append-nil}
use Rattle.problem_data.specs.declared.problem.Problem.{Problem}
use Rattle.problem_data.specs.declared.problem.VehicleType.{VehicleType}
use Rattle.problem_data.specs.declared.visit.Visit.{Visit}
use Rattle.problem_data.specs.Places.{leg_distance}
use Rattle.routing_model.proofs.Paths.{path, path_end, through}
use Rattle.route_cache.specs.Marks.{place_along}
use Rattle.list_changes.specs.Layouts.{lent_layout, runs_of}
use Rattle.list_changes.specs.Ways.{way_by}
use Rattle.list_changes.proofs.WayLaws.{ends-at_last, path-from_first}

-- the way over a lent run: the leg to its first visit, from there to its last one, and the leg behind it
pub lent-way : (p : Problem) (t t' : VehicleType) (visits lender : List Visit) (left right i j come inner last profile : ℕ) → i < j → j ≤ length lender → profile ≡ t.profile →
    come ≡ leg_distance p profile (place_along t visits left) (place_along t' lender (i + 1)) →
    ((from : ℕ) → leg_distance p profile from (place_along t' lender (i + 1)) + inner ≤ path (leg_distance p profile) from (slice_range lender i j)) →
    last ≡ leg_distance p profile (place_along t' lender j) (place_along t visits (right + 1)) →
    come + inner + last ≤ way_by p t visits (lent_layout left right i j) (runs_of lender (lent_layout left right i j))
lent-way p t t' visits lender left right i j come inner last profile order inside own is_come within is_last =
    let run : List Visit = slice_range lender i j in
    let from : ℕ = place_along t visits left in
    let to : ℕ = place_along t visits (right + 1) in
    let least = within from in
    let end : path_end from run ≡ place_along t' lender j = ends-at_last p t' lender i j order inside from in
    let behind : leg_distance p profile (path_end from run) to ≡ leg_distance p profile (place_along t' lender j) to = ap (λ (place : ℕ). leg_distance p profile place to) end in
    let whole : way_by p t visits (lent_layout left right i j) (runs_of lender (lent_layout left right i j)) ≡ path (leg_distance p profile) from run + leg_distance p profile (path_end from run) to =
    ap (λ (xs : List Visit). through (leg_distance p t.profile) from xs to) (append-nil run) ∙ ap (λ (n : ℕ). through (leg_distance p n) from run to) (sym own) in
    omega (arith, least, behind, whole, is_come, is_last)

-- it is no less than the leg to the first visit
pub lent-near : (p : Problem) (t t' : VehicleType) (visits lender : List Visit) (left right i j come profile : ℕ) → i < j → j ≤ length lender → profile ≡ t.profile →
    come ≡ leg_distance p profile (place_along t visits left) (place_along t' lender (i + 1)) →
    come ≤ way_by p t visits (lent_layout left right i j) (runs_of lender (lent_layout left right i j))
lent-near p t t' visits lender left right i j come profile order inside own is_come =
    let way = lent-way p t t' visits lender left right i j come 0 (leg_distance p profile (place_along t' lender j) (place_along t visits (right + 1))) profile order inside own is_come
    (λ from. let h = path-from_first p t' lender i j order inside (leg_distance p profile) from in omega arith) refl in
    omega arith
