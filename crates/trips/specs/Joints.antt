-- What is left out where two lists are joined, so that the whole is tidy.
use Rattle.std.specs.Prelude.{◌≡◌, ◌-◌, Option, Some, None, Bool, true, false, not, ◌&&◌, List, [], ◌∷◌, ◌++◌, length, take, drop, IsTrue, if◌then◌else◌}
use Rattle.problem_data.specs.declared.visit.Visit.{Visit}
use Rattle.problem_data.specs.declared.visit.Visit.TheVariants.{Client, Reload}
use Rattle.routing_model.specs.Tidy.{is_tidy, tidied}
use Rattle.trips.specs.declared.joint.Joint.{Joint}
use Rattle.trips.specs.declared.joint.Joint.TheVariants.{Keep, DropLeft, DropRight}

-- whether a client stands there
abbrev pub is_some_client : Option Visit → Bool
is_some_client None = false
is_some_client (Some (Client place)) = true
is_some_client (Some (Reload depot)) = false

-- whether a reload stands there
abbrev pub is_some_reload : Option Visit → Bool
is_some_reload None = false
is_some_reload (Some (Client place)) = false
is_some_reload (Some (Reload depot)) = true

-- whether nothing stands there
abbrev pub is_nothing : Option Visit → Bool
is_nothing None = true
is_nothing (Some visit) = false

-- a reload goes where no client stands directly before it, or nothing comes behind it
abbrev pub joint_of : Option Visit → Option Visit → Joint
joint_of left right =
    if is_some_reload right && not (is_some_client left) then DropRight
    else (if is_some_reload left && is_nothing right then DropLeft else Keep)

-- the first visit, if there is one
abbrev pub first_visit : List Visit → Option Visit
first_visit [] = None
first_visit (visit ∷ rest) = Some visit

-- the last visit, if there is one
abbrev pub last_visit : List Visit → Option Visit
last_visit [] = None
last_visit (visit ∷ []) = Some visit
last_visit (visit ∷ next ∷ rest) = last_visit (next ∷ rest)

-- the two lists as one, without the visit that is left out
abbrev pub joined_by : Joint → List Visit → List Visit → List Visit
joined_by Keep left right = left ++ right
joined_by DropLeft left right = take (length left - 1) left ++ right
joined_by DropRight left right = left ++ drop 1 right

-- The beginning of a tidy list and the ending of another: as one they are tidied where the visit that their joint names is left out.
abbrev pub JointsTidy : Type 0
JointsTidy = (left right cut_behind cut_before : List Visit) → IsTrue (is_tidy (left ++ cut_behind)) → IsTrue (is_tidy (cut_before ++ right)) →
    tidied (left ++ right) ≡ joined_by (joint_of (last_visit left) (first_visit right)) left right
