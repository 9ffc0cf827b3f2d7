-- What the segments of a start, an end and a reload stand for.
use Rattle.std.proofs.Common.{◌≡◌, ℕ, [], ◌∷◌, refl, sym, subst}
use Rattle.std.specs.Prelude.{pos}
use Rattle.problem_data.specs.declared.problem.Depot.{Depot}
use Rattle.problem_data.specs.declared.problem.Window.{Window}
use Rattle.problem_data.specs.Places.{depot_at, leg_duration}
use Rattle.routing_model.specs.Stops.{met, stop_at}
use Rattle.segments.specs.Duration.{StandsForNothing}
use Rattle.trips.specs.declared.piece.Piece.{Piece}
use Rattle.trips.specs.declared.middle.Middle.{Middle}
use Rattle.trips.specs.declared.trip_segment.TripSegment.TheVariants.{Open, Split}
use Rattle.trips.specs.Runs.{Stretch}
use Rattle.trips.specs.inside.DepotStops.{StandsAtDepot}
use Rattle.trips.specs.Standing.{StandsForEnd, StandsForReload, StandsForStart, StandsForStretch}

-- a stretch of one stop at a depot
abbrev alone : ℕ → Window → ℕ → Stretch
alone depot window service = record { stops = stop_at depot 0 window service ∷ []; clients = [] }

pub stands-start : (depot : Depot) (window : Window) (piece : Piece) → StandsAtDepot window depot.service piece → StandsForStart depot window (Open piece)
stands-start depot window piece h p t at_depot in_window = record {
  only = alone t.start (met (depot_at p t.start).window t.shift) (depot_at p t.start).service;
  uncut = refl;
  stands =
      let there : alone t.start window depot.service ≡ alone t.start (met (depot_at p t.start).window t.shift) (depot_at p t.start).service =
      λ i. alone t.start (sym in_window i) (sym at_depot i).service in
      subst (StandsForStretch p t piece) there (h p t t.start);
}

pub stands-end : (window : Window) (piece : Piece) → StandsAtDepot window 0 piece → StandsForEnd window (Open piece)
stands-end window piece h p t in_window = record {
  only = alone t.end (met (depot_at p t.end).window t.shift) 0;
  uncut = refl;
  stands =
      let there : alone t.end window 0 ≡ alone t.end (met (depot_at p t.end).window t.shift) 0 = λ i. alone t.end (sym in_window i) 0 in
      subst (StandsForStretch p t piece) there (h p t t.end);
}

pub stands-reload : (depot : Depot) (head : Piece) (middle : Middle) (tail : Piece) → StandsAtDepot depot.window 0 head → StandsForNothing middle.duration → middle.excess ≡ pos 0 →
    StandsAtDepot depot.window depot.service tail → StandsForReload depot (Split head middle tail)
stands-reload depot head middle tail arrives nothing no_excess departs p t place at_depot = record {
  first = alone place (depot_at p place).window 0;
  between = [];
  last = alone place (depot_at p place).window (depot_at p place).service;
  cut = refl;
  stands_head = subst (λ (d : Depot). StandsForStretch p t head (alone place d.window 0)) (sym at_depot) (arrives p t place);
  stands_middle = record { duration = nothing (leg_duration p t.profile); excess = no_excess };
  stands_tail = subst (λ (d : Depot). StandsForStretch p t tail (alone place d.window d.service)) (sym at_depot) (departs p t place);
}
