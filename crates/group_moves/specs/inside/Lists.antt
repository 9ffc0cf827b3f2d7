-- The one new list that a candidate makes, by few legs.
use Rattle.std.specs.Prelude.{◌≤◌}
use Rattle.search_model.specs.declared.candidate.Candidate.{Candidate}
use Rattle.move_core.specs.Searches.{SearchState}
use Rattle.new_lists.specs.declared.new_list.NewList.{NewList}
use Rattle.new_lists.specs.declared.new_list.NewLists.TheVariants.{One}
use Rattle.new_lists.specs.Moves.{MakesLists}
use Rattle.new_lists.specs.Reads.{list_reads}

-- a candidate makes the plan with the new list, and six legs tell what that improves
pub record MakesList (s : SearchState) (candidate : Candidate) (list : NewList) : Type 0 where
  pub makes : MakesLists s candidate (One list)
  pub few : list_reads s list ≤ 6
