-- What candidates change, from what their moves make: the vehicles can have the lists of a lawful plan.
use Rattle.std.proofs.Common.{◌≢◌, ℕ, ◌<◌, List, [], ◌∷◌}
use Rattle.std.specs.Prelude.{All}
use Rattle.problem_data.specs.declared.visit.Visit.{Visit}
use Rattle.problem_data.specs.Places.{vehicle_count}
use Rattle.routing_model.specs.Routes.{list_at}
use Rattle.search_model.specs.declared.candidate.Candidate.{Candidate}
use Rattle.move_core.specs.Searches.{IsSound, SearchState}
use Rattle.new_lists.proofs.MadeLists.{listed-first, listed-one, listed-second}
use Rattle.list_changes.specs.declared.change.Change.TheVariants.{One, Two}
use Rattle.list_changes.specs.declared.layout.Layout.{Layout}
use Rattle.list_changes.specs.Changes.{new_list}
use Rattle.list_changes.specs.Layouts.{IsLayout}
use Rattle.list_changes.specs.Moves.{IsMove, IsVehicleOf, Makes}

module _ (s : SearchState) (sound : IsSound s) where
  -- one new list, and two
  module _ (candidate : Candidate) (a : ℕ) (in_a : a < vehicle_count s.problem) where
    pub move-one : (layout : Layout) → IsLayout (list_at s.routes a) (list_at s.routes a) layout → Makes s candidate (One a layout) → All (IsVehicleOf s candidate) (a ∷ []) → IsMove s candidate (One a layout)
    move-one layout laid moves own = record {
      laid = record { in_range = in_a; lender_in_range = in_a; laid = laid; listed = listed-one s sound a (new_list s.routes a a layout) in_a moves.lawful };
      makes = moves;
      own = own;
    }

    module _ (b : ℕ) (in_b : b < vehicle_count s.problem) (apart : b ≢ a) (one two : Layout) where
      abbrev A : List Visit
      A = new_list s.routes a b one

      abbrev B : List Visit
      B = new_list s.routes b a two

      pub move-two : IsLayout (list_at s.routes a) (list_at s.routes b) one → IsLayout (list_at s.routes b) (list_at s.routes a) two →
          Makes s candidate (Two a b one two) → All (IsVehicleOf s candidate) (a ∷ b ∷ []) → IsMove s candidate (Two a b one two)
      move-two first second moves own = record {
        laid = record {
          apart = apart;
          first_side = record { in_range = in_a; lender_in_range = in_b; laid = first; listed = listed-first s sound a b A B in_a apart moves.lawful };
          second_side = record { in_range = in_b; lender_in_range = in_a; laid = second; listed = listed-second s sound a b A B in_b moves.lawful };
        };
        makes = moves;
        own = own;
      }
