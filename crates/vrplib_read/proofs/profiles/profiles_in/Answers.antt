use Rattle.std.proofs.Common.{◌≡◌, true, false, arith}
use Rattle.std.proofs.lemmas.Grind.{common_steps}
use Rattle.std.proofs.lemmas.Option.{MatchOption-at_none, MatchOption-at_some}
use Rattle.problem_data.specs.declared.problem.Profile.{Profile}
use Rattle.vrplib_read.specs.inside.OfText.{scaled_profile}
use Rattle.vrplib_model.specs.WholeText.{has_long_leg}
use Rattle.vrplib_read.proofs.RowLaws.{map_taken}
use Rattle.vrplib_read.proofs.ProfileLaws.{any_got, none_taken, profile_row}
use Rattle.vrplib_read.proofs.profiles.profiles_in.Goals as goal

pub scaled_profile-requires-clause-row : goal.scaled_profile-requires-clause-row
scaled_profile-requires-clause-row c =
    let rows = c.args.rows.now in
    profile_row rows.section rows.nodes c.row.result.now c.requires.rows c.row.ensures.bounds

pub returns-in-None : goal.returns-in-None
returns-in-None c =
    let made = scaled_profile c.args.size c.args.base.now c.row.result.now in
    let Q : Profile → Type 0 = λ profile. (profile ≡ made) × (has_long_leg made ≡ false) in
    any_got has_long_leg (scaled_profile c.args.size c.args.base.now) c.args.rows.now.rows c.loop-k.k c.row.result.now c.row.ensures.row
    (MatchOption-at_none (has_long_leg made ≡ true) Q c.in-None.is c.in_ok-profile.ensures)

pub loop-k-preserved : goal.loop-k-preserved
loop-k-preserved c =
    let made = scaled_profile c.args.size c.args.base.now c.row.result.now in
    let Q : Profile → Type 0 = λ profile. (profile ≡ made) × (has_long_leg made ≡ false) in
    let said : Q c.in-Some.profile = MatchOption-at_some (has_long_leg made ≡ true) Q c.in-Some.profile c.in-Some.is c.in_ok-profile.ensures in
    record {
      made = grind (arith, common_steps, said.0, map_taken (scaled_profile c.args.size c.args.base.now) c.args.rows.now.rows c.loop-k.k c.row.result.now c.row.ensures.row);
      short = none_taken has_long_leg (scaled_profile c.args.size c.args.base.now) c.args.rows.now.rows c.loop-k.k c.row.result.now c.row.ensures.row c.loop-k.invariant.short said.1;
    }
