-- The new lists of a candidate, from the lawful plan that it makes: the vehicles can have the lists of such a plan.
use Rattle.std.proofs.Common.{◌≡◌, ◌≢◌, ℕ, ◌<◌, ◌≤◌, true, List, [], ◌∷◌, get_or, length, set, sym, ◌∙◌, subst, arith, Some}
use Rattle.std.specs.Prelude.{All}
use Rattle.std.proofs.lemmas.List.{get_or-set_other, get_or-set_same, length-set}
use Rattle.std.proofs.lemmas.List.Elements.{All-cons, All-get_or, All-nil}
use Rattle.problem_data.specs.declared.visit.Visit.{Visit}
use Rattle.problem_data.specs.Places.{vehicle_count}
use Rattle.routing_model.specs.Lawful.{is_lawful}
use Rattle.routing_model.specs.Listed.{IsListed}
use Rattle.routing_model.specs.Routes.{Routes, list_at}
use Rattle.search_model.specs.declared.candidate.Candidate.{Candidate}
use Rattle.search_model.specs.Moves.{moved}
use Rattle.gain_model.specs.declared.part.Part.{Part}
use Rattle.route_cache.proofs.LawfulLists.{lawful-listed}
use Rattle.move_core.specs.Searches.{IsSound, SearchState}
use Rattle.new_lists.specs.declared.new_list.NewList.{NewList}
use Rattle.new_lists.specs.declared.new_list.NewLists.TheVariants.{One, Two}
use Rattle.new_lists.specs.Moves.{IsVehicleOf, MakesLists}
use Rattle.new_lists.specs.NewLists.{IsPart, list_of, list_with_part, plan_of}

-- the positions and the parts of a new list are there
pub record HasItsParts (s : SearchState) (list : NewList) : Type 0 where
  pub in_range : list.vehicle < vehicle_count s.problem
  pub left : list.left ≤ length (list_at s.routes list.vehicle)
  pub right : list.right ≤ length (list_at s.routes list.vehicle)
  pub one : IsPart s list.one
  pub two : IsPart s list.two
  pub three : IsPart s list.three

-- of a list with one part
pub has-part : (s : SearchState) (v left : ℕ) (part : Part) (right : ℕ) → v < vehicle_count s.problem → left ≤ length (list_at s.routes v) → right ≤ length (list_at s.routes v) → IsPart s part →
    HasItsParts s (list_with_part v left part right)
has-part s v left part right in_range left_in right_in is = record {
  in_range = in_range;
  left = left_in;
  right = right_in;
  one = is;
  two = record { in_range = in_range; in_order = omega arith; in_list = omega arith };
  three = record { in_range = in_range; in_order = omega arith; in_list = omega arith };
}

module _ (s : SearchState) (sound : IsSound s) where
  listed-at : (routes : Routes) (vehicle : ℕ) → vehicle < length routes → is_lawful s.problem routes ≡ true → IsListed s.problem (get_or routes vehicle [])
  listed-at routes vehicle there lawful = All-get_or (IsListed s.problem) routes vehicle [] there (lawful-listed s.problem routes sound.valid lawful)

  pub listed-one : (a : ℕ) (xs : List Visit) → a < vehicle_count s.problem → is_lawful s.problem (set s.routes a xs) ≡ true → IsListed s.problem xs
  listed-one a xs in_a lawful =
      let each = sound.one_list_each in
      let long = length-set s.routes a xs in
      subst (IsListed s.problem) (get_or-set_same s.routes a xs [] (omega arith)) (listed-at (set s.routes a xs) a (omega arith) lawful)

  pub listed-second : (a b : ℕ) (xs ys : List Visit) → b < vehicle_count s.problem → is_lawful s.problem (set (set s.routes a xs) b ys) ≡ true → IsListed s.problem ys
  listed-second a b xs ys in_b lawful =
      let each = sound.one_list_each in
      let long = length-set s.routes a xs in
      let long' = length-set (set s.routes a xs) b ys in
      subst (IsListed s.problem) (get_or-set_same (set s.routes a xs) b ys [] (omega arith)) (listed-at (set (set s.routes a xs) b ys) b (omega arith) lawful)

  pub listed-first : (a b : ℕ) (xs ys : List Visit) → a < vehicle_count s.problem → b ≢ a → is_lawful s.problem (set (set s.routes a xs) b ys) ≡ true → IsListed s.problem xs
  listed-first a b xs ys in_a apart lawful =
      let each = sound.one_list_each in
      let long = length-set s.routes a xs in
      let long' = length-set (set s.routes a xs) b ys in
      subst (IsListed s.problem) (get_or-set_other (set s.routes a xs) b a ys [] (λ e. apart (sym e)) ∙ get_or-set_same s.routes a xs [] (omega arith))
      (listed-at (set (set s.routes a xs) b ys) a (omega arith) lawful)

  -- one new list, and two
  module _ (candidate : Candidate) where
    pub makes-one : (list : NewList) → HasItsParts s list → moved s.problem s.weights s.routes candidate ≡ Some (plan_of s.routes (One list)) →
        is_lawful s.problem (plan_of s.routes (One list)) ≡ true → IsVehicleOf s candidate list.vehicle → MakesLists s candidate (One list)
    makes-one list has makes lawful own = record {
      new = record {
        in_range = has.in_range;
        left = has.left;
        right = has.right;
        one = has.one;
        two = has.two;
        three = has.three;
        listed = listed-one list.vehicle (list_of s.routes list) has.in_range lawful;
      };
      makes = makes;
      lawful = lawful;
      own = All-cons (IsVehicleOf s candidate) list.vehicle [] own (All-nil (IsVehicleOf s candidate));
    }

    pub makes-two : (one two : NewList) → HasItsParts s one → HasItsParts s two → two.vehicle ≢ one.vehicle → moved s.problem s.weights s.routes candidate ≡ Some (plan_of s.routes (Two one two)) →
        is_lawful s.problem (plan_of s.routes (Two one two)) ≡ true → All (IsVehicleOf s candidate) (one.vehicle ∷ two.vehicle ∷ []) → MakesLists s candidate (Two one two)
    makes-two one two has has' apart makes lawful own = record {
      new = record {
        apart = apart;
        first = record {
          in_range = has.in_range;
          left = has.left;
          right = has.right;
          one = has.one;
          two = has.two;
          three = has.three;
          listed = listed-first one.vehicle two.vehicle (list_of s.routes one) (list_of s.routes two) has.in_range apart lawful;
        };
        second = record {
          in_range = has'.in_range;
          left = has'.left;
          right = has'.right;
          one = has'.one;
          two = has'.two;
          three = has'.three;
          listed = listed-second one.vehicle two.vehicle (list_of s.routes one) (list_of s.routes two) has'.in_range lawful;
        };
      };
      makes = makes;
      lawful = lawful;
      own = own;
    }
