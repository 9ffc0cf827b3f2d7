-- Whether a vehicle may reload as a list does that is its own first visits and a run of another vehicle's.
use Rattle.std.proofs.Common.{◌≡◌, ℕ, ◌+◌, ◌<◌, ◌≤◌, true, false, List, ◌++◌, length, sym, ◌∙◌, ap, arith, slice_range}
use Rattle.std.specs.List.{list_all}
use Rattle.problem_data.specs.declared.problem.VehicleType.{VehicleType}
use Rattle.problem_data.specs.declared.visit.Visit.{Visit}
use Rattle.problem_data.specs.Places.{type_at, type_of, vehicle_count}
use Rattle.routing_model.specs.Lawful.{is_allowed, reloads_as_allowed}
use Rattle.routing_model.specs.Listed.{type_of_vehicle}
use Rattle.routing_model.specs.Routes.{list_at}
use Rattle.route_cache.specs.Marks.{reloads_in}
use Rattle.route_cache.proofs.Slices.{slice-all, slice-split}
use Rattle.move_core.specs.Searches.{IsSound, SearchState}
use Rattle.list_changes.specs.declared.layout.Span.{Span}
use Rattle.list_changes.specs.Layouts.{IsSpan, span_of}
use Rattle.tail_changes.specs.Reloading.{may_have, taken}
use Rattle.list_changes.proofs.AllowedLists.{by-depots, none-comes, part-allowed, plan-allowed, too-many}

module _ (s : SearchState) (sound : IsSound s) (vehicle left lender : ℕ) (span : Span) (in_range : vehicle < vehicle_count s.problem) (lender_in_range : lender < vehicle_count s.problem)
    (inside : left ≤ length (list_at s.routes vehicle)) (lent : IsSpan (list_at s.routes lender) span) where
  abbrev own : List Visit
  own = list_at s.routes vehicle

  abbrev first : List Visit
  first = slice_range own 0 left

  abbrev run : List Visit
  run = span_of (list_at s.routes lender) span

  abbrev t : VehicleType
  t = type_of_vehicle s.problem vehicle

  allowed : (v : ℕ) → v < vehicle_count s.problem → reloads_as_allowed (type_of_vehicle s.problem v) (list_at s.routes v) ≡ true
  allowed v there = let each = sound.one_list_each in plan-allowed s.problem s.routes v sound.lawful (omega arith)

  -- its own list, cut
  own-allowed : reloads_as_allowed t (first ++ slice_range own left (length own)) ≡ true
  own-allowed =
      let whole : own ≡ first ++ slice_range own left (length own) = sym (slice-all own (length own) (omega arith)) ∙ slice-split own 0 left (length own) (omega arith) inside in
      ap (reloads_as_allowed t) (sym whole) ∙ allowed vehicle in_range

  pub take-none : reloads_in run ≡ 0 → may_have s vehicle (taken s.routes vehicle left lender span) ≡ true
  take-none none = none-comes t first (slice_range own left (length own)) run own-allowed none

  pub take-too-many : t.reloads < reloads_in first + reloads_in run → may_have s vehicle (taken s.routes vehicle left lender span) ≡ false
  take-too-many more = too-many t first (slice_range own left (length own)) run own-allowed more

  pub take-by-depots : reloads_in first + reloads_in run ≤ t.reloads → may_have s vehicle (taken s.routes vehicle left lender span) ≡ list_all (is_allowed t) run
  take-by-depots few = by-depots t first (slice_range own left (length own)) run own-allowed few

  -- the lender's type is the same
  pub take-same : reloads_in first + reloads_in run ≤ t.reloads → type_of s.problem vehicle ≡ type_of s.problem lender → may_have s vehicle (taken s.routes vehicle left lender span) ≡ true
  take-same few same =
      let other : List Visit = list_at s.routes lender in
      let order = lent.in_order in
      let within = lent.in_list in
      let whole : other ≡ slice_range other 0 span.first ++ (run ++ slice_range other span.end (length other)) =
      sym (slice-all other (length other) (omega arith))
      ∙ slice-split other 0 span.first (length other) (omega arith) (omega arith)
      ∙ ap (λ (xs : List Visit). slice_range other 0 span.first ++ xs) (slice-split other span.first span.end (length other) order within) in
      take-by-depots few
      ∙ part-allowed t (slice_range other 0 span.first) run (slice_range other span.end (length other))
      (ap (reloads_as_allowed t) (sym whole) ∙ ap (λ (n : ℕ). reloads_as_allowed (type_at s.problem n) other) same ∙ allowed lender lender_in_range)
