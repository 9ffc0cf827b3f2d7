-- The problem of each accepted text is valid.
use Rattle.std.proofs.Common.{◌≡◌, ℕ, List, [], length, map, refl, sym, ◌∙◌, subst, arith, Option, Some, None, Ok}
use Rattle.std.specs.List.{All}
use Rattle.std.specs.Str.Lines.{lines}
use Rattle.std.proofs.lemmas.List.{length-map}
use Rattle.problem_data.specs.declared.problem.Problem.{Problem}
use Rattle.problem_data.specs.Valid.{IsValidProfile, IsValid}
use Rattle.vrp_num.specs.declared.rounding.Rounding.{Rounding}
use Rattle.vrplib_model.specs.declared.refusal.Refusal.{Refusal}
use Rattle.vrplib_model.specs.declared.rule.Rule.{Rule}
use Rattle.vrplib_model.specs.LineKinds.{Line}
use Rattle.vrplib_model.specs.Values.{node_count}
use Rattle.vrplib_model.specs.WholeText.{whole_fault}
use Rattle.vrplib_model.specs.Meaning.{problem_of}
use Rattle.vrplib_model.specs.Reading.{lines_onto, first_fault, whole_answer, answer, read}
use Rattle.vrplib_model.specs.Laws.{AcceptedIsValid}
use Rattle.vrplib_model.specs.Entries.{nodes, coordinates}
use Rattle.vrplib_model.specs.Legs.{profiles}
use Rattle.vrplib_model.proofs.SoundLines.{AreRead, good-start, lines-read}
use Rattle.vrplib_model.proofs.WholeFacts.{PassesWhole, passes-whole, few-nodes, length-counted}
use Rattle.vrplib_model.proofs.ValidPlaces.{places-valid, depots-valid, clients-valid}
use Rattle.vrplib_model.proofs.ValidLegs.{profiles-valid, some-profile, few-profiles}
use Rattle.vrplib_model.proofs.ValidFleet.{some-type, few-types, few-vehicles, types-valid}
use Rattle.vrplib_model.proofs.ValidGroups.{count-places, count-depots, count-clients, groups-valid, few-groups, grouped}

places-count : (mode : Rounding) (all : List Line) → length (map (coordinates mode all) (nodes mode all)) ≡ node_count mode all
places-count mode all = length-map (nodes mode all) (coordinates mode all) ∙ length-counted 1 (node_count mode all)

-- what faultless lines mean that pass as a whole
pub problem-valid : (mode : Rounding) (all : List Line) → AreRead mode all → PassesWhole mode all → IsValid (problem_of mode all)
unfolding problem_of
problem-valid mode all read passes =
    let count = count-places mode all passes in
    let depots = count-depots mode all in
    let clients = count-clients mode all in
    record {
      places = places-count mode all ∙ sym count;
      place_limit = omega (arith, count, few-nodes mode all);
      some_depot = omega (arith, depots, passes.some_depot);
      some_client = omega (arith, clients, passes.some_client);
      some_type = some-type mode all read;
      type_limit = few-types mode all read;
      vehicle_limit = few-vehicles mode all read;
      some_profile = some-profile mode all read;
      profile_limit = few-profiles mode all read;
      group_limit = few-groups mode all read;
      each_place = places-valid mode all read;
      each_depot = depots-valid mode all read;
      each_client = clients-valid mode all read;
      each_type = types-valid mode all read passes;
      each_profile = subst (λ (n : ℕ). All (IsValidProfile n) (profiles mode all)) (sym count) (profiles-valid mode all passes);
      each_group = groups-valid mode all read passes;
      grouped = grouped mode all read passes;
    }

-- an accepted text has no fault
pub record IsAccepted (first : Option Refusal) (whole : Option Rule) (meant p : Problem) : Type 0 where
  pub each_line : first ≡ None
  pub as_whole : whole ≡ None
  pub same : meant ≡ p

accepted : (first : Option Refusal) (whole : Option Rule) (meant p : Problem) → answer first (whole_answer whole meant) ≡ Ok p → IsAccepted first whole meant p
accepted None None meant p e = record { each_line = refl; as_whole = refl; same = cc }
accepted None (Some rule) meant p e = absurd (cc)
accepted (Some refusal) whole meant p e = absurd (cc)

pub accepted-valid : AcceptedIsValid
unfolding read
accepted-valid mode text p e =
    let all = lines_onto [] (lines text) in
    let h = accepted (first_fault mode [] (lines text)) (whole_fault mode all) (problem_of mode all) p e in
    subst IsValid h.same (problem-valid mode all (lines-read mode (lines text) [] (good-start mode) h.each_line) (passes-whole mode all h.as_whole))
