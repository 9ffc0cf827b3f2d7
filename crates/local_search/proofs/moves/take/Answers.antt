use Rattle.std.proofs.Common.{◌≡◌, ◌<◌, sym, subst}
use Rattle.problem_data.specs.Places.{vehicle_count}
use Rattle.move_core.specs.Searches.{SearchState}
use Rattle.std.specs.Prelude.{IfSome}
use Rattle.local_search.specs.inside.Kits.{with_present_lists}
use Rattle.local_search.proofs.MadePlans.{first_in, made-present, second_in, side_vehicle}
use Rattle.local_search.proofs.moves.take.Goals as goal

pub changed_both-requires-clause-first : goal.changed_both-requires-clause-first
changed_both-requires-clause-first g c =
    subst (λ (s : SearchState). c.vehicles-first.result.0 < vehicle_count s.problem) (sym c.in_ok-apply.ensures.ok)
    (first_in c.args.gain c.args.search.now.routes (vehicle_count c.args.search.now.problem) c.vehicles-first.result.0 c.requires.gain.within c.soundness.ensures.one_list_each c.vehicles-first.ensures.first)

pub changed_both-requires-clause-second : goal.changed_both-requires-clause-second
changed_both-requires-clause-second g c =
    subst (λ (s : SearchState). IfSome c.vehicles-first.result.1 (λ v. v < vehicle_count s.problem)) (sym c.in_ok-apply.ensures.ok)
    (second_in c.args.gain c.args.search.now.routes (vehicle_count c.args.search.now.problem) c.vehicles-first.result.1 c.requires.gain.within c.soundness.ensures.one_list_each c.vehicles-first.ensures.second)

pub returns-clause-fits : goal.returns-clause-fits
returns-clause-fits g c =
    let e : with_present_lists c.apply.new.self.routes c.vehicles-first.result.0 c.vehicles-first.result.1 c.args.search.now.routes ≡ c.apply.new.self.routes =
    rw (c.in_ok-apply.ensures.ok, c.vehicles-first.ensures.first, c.vehicles-first.ensures.second, side_vehicle c.args.gain.second) (made-present c.args.gain c.args.search.now.routes c.requires.gain.within) in
    λ k d h. rw e at (c.changed_both.ensures.fits c.args.search.now.routes (rw c.in_ok-apply.ensures.ok (c.applied_at.ensures.fits _ _ _ c.requires.fits)) k d h)
