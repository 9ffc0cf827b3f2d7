-- The new lists of a change, by parts of a plan.
use Rattle.std.specs.Prelude.{ℕ}
use Rattle.gain_model.specs.declared.part.Part.TheVariants.{Run}
use Rattle.new_lists.specs.declared.new_list.NewList.{NewList}
use Rattle.new_lists.specs.declared.new_list.NewLists.{NewLists}
use Rattle.new_lists.specs.declared.new_list.NewLists.TheVariants as lists
use Rattle.list_changes.specs.declared.change.Change.{Change}
use Rattle.list_changes.specs.declared.change.Change.TheVariants.{One, Two}
use Rattle.list_changes.specs.declared.layout.Layout.{Layout}

-- a vehicle's new list, by runs of a lender's list
abbrev pub laid_list : ℕ → ℕ → Layout → NewList
laid_list vehicle lender layout = record {
  vehicle = vehicle;
  left = layout.left;
  one = Run lender layout.one.first layout.one.end;
  two = Run lender layout.two.first layout.two.end;
  three = Run lender layout.three.first layout.three.end;
  right = layout.right;
}

-- those of a change
abbrev pub lists_of : Change → NewLists
lists_of (One vehicle layout) = lists.One (laid_list vehicle vehicle layout)
lists_of (Two first second one two) = lists.Two (laid_list first second one) (laid_list second first two)
