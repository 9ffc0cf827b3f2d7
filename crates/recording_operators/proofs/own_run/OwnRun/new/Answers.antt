use Rattle.std.proofs.Common.{subst, sym}
use Rattle.local_search.specs.Descents.{NamesPlaces}
use Rattle.local_search.proofs.NearPlaces.{neighbours-name_places}
use Rattle.recording_operators.proofs.own_run.OwnRun.new.Goals as goal

pub populate-requires : goal.populate-requires
populate-requires g c =
    let p = c.args.given.now in
    let near = c.args.params.neighbourhood in
    record {
      own = record {
        in_range = c.requires;
        near = subst (NamesPlaces p) (sym c.in_ok-near.ensures) (neighbours-name_places p near.nb_granular near.weight_wait_time near.weight_time_warp);
        kept = c.new-2.ensures.kept p;
      };
    }
