-- New lists, by parts of two lists.
use Rattle.std.specs.Prelude.{ℕ, ◌≤◌, ◌==◌, Bool, ◌&&◌, List, ◌++◌, length, slice_range}
use Rattle.problem_data.specs.declared.visit.Visit.{Visit}
use Rattle.list_changes.specs.declared.layout.Layout.{Layout}
use Rattle.list_changes.specs.declared.layout.Span.{Span}

-- some visits of a list
abbrev pub span_of : List Visit → Span → List Visit
span_of visits span = slice_range visits span.first span.end

-- up to three runs of a list, one behind the other
abbrev pub runs_of : List Visit → Layout → List Visit
runs_of lender layout = span_of lender layout.one ++ (span_of lender layout.two ++ span_of lender layout.three)

-- the first visits of a list, the runs of another one, and the last visits of the first
abbrev pub laid_out : List Visit → List Visit → Layout → List Visit
laid_out own lender layout =
    slice_range own 0 layout.left ++ (span_of lender layout.one ++ (span_of lender layout.two ++ (span_of lender layout.three ++ slice_range own layout.right (length own))))

-- a run is there
pub record IsSpan (visits : List Visit) (span : Span) : Type 0 where
  pub in_order : span.first ≤ span.end
  pub in_list : span.end ≤ length visits

-- all parts are there
pub record IsLayout (own lender : List Visit) (layout : Layout) : Type 0 where
  pub in_order : layout.left ≤ layout.right
  pub right : layout.right ≤ length own
  pub one : IsSpan lender layout.one
  pub two : IsSpan lender layout.two
  pub three : IsSpan lender layout.three

-- whether a run has no visits, and whether a new list has none where its vehicle's own list has so many
abbrev pub has_none : Span → Bool
has_none span = span.first == span.end

abbrev pub has_no_visit : Layout → ℕ → Bool
has_no_visit layout size = (layout.left == 0) && ((layout.right == size) && (has_none layout.one && (has_none layout.two && has_none layout.three)))

-- a list with a run of another one in the place of some visits, and without these
abbrev pub lent_layout : ℕ → ℕ → ℕ → ℕ → Layout
lent_layout left right first end =
    record { left = left; one = record { first = first; end = end }; two = record { first = 0; end = 0 }; three = record { first = 0; end = 0 }; right = right }

abbrev pub left_layout : ℕ → ℕ → Layout
left_layout left right = lent_layout left right 0 0
