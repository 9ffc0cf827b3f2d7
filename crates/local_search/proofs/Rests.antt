-- What gives nothing still gives nothing after moves that don't touch it.
use Rattle.std.proofs.Common.{◌≡◌, ◌∙◌, ℕ, ◌≤◌, Bool, true, false, ◌||◌, List, [], ◌∷◌, ◌++◌, Some, None, refl, sym}
use Rattle.std.specs.List.{AllByRecursion, list_any}
use Rattle.problem_data.specs.declared.problem.Problem.{Problem}
use Rattle.problem_data.specs.Valid.{IsGroupedAsListed}
use Rattle.routing_model.specs.declared.weights.Weights.{Weights}
use Rattle.routing_model.specs.Lawful.{is_lawful}
use Rattle.routing_model.specs.Routes.{Routes}
use Rattle.search_model.specs.declared.candidate.Candidate.{Candidate}
use Rattle.search_model.specs.Basis.{Part, basis, touches, touches_basis}
use Rattle.gain_model.specs.Operators.{bettered}
use Rattle.gain_model.proofs.UntouchedTries.{none_stays, own_touched}
use Rattle.descent_memory.specs.Memories.{Touches}
use Rattle.descent_memory.specs.Touching.{Follows, IsUntouched, IsUntouchedPart}

-- facts of all items of two lists
pub both_all : {X : Type 0} (P : X → Type 0) (xs ys : List X) → AllByRecursion P xs → AllByRecursion P ys → AllByRecursion P (xs ++ ys)
both_all P [] ys h k = k
both_all P (x ∷ xs) ys h k = (h.0, both_all P xs ys h.1 k)

pub first_all : {X : Type 0} (P : X → Type 0) (xs ys : List X) → AllByRecursion P (xs ++ ys) → AllByRecursion P xs
first_all P [] ys h = tt
first_all P (x ∷ xs) ys h = (h.0, first_all P xs ys h.1)

pub second_all : {X : Type 0} (P : X → Type 0) (xs ys : List X) → AllByRecursion P (xs ++ ys) → AllByRecursion P ys
second_all P [] ys h = h
second_all P (x ∷ xs) ys h = second_all P xs ys h.1

pub weaker_all : {X : Type 0} (P Q : X → Type 0) (xs : List X) → ((x : X) → P x → Q x) → AllByRecursion P xs → AllByRecursion Q xs
weaker_all P Q [] f h = tt
weaker_all P Q (x ∷ xs) f h = (f x h.0, weaker_all P Q xs f h.1)

module _ (p : Problem) (before made : Routes) (old new : Touches) (clock : ℕ) (follows : Follows p before made old new clock) (moment : ℕ) (past : moment ≤ clock) where
  -- parts that are untouched now were so before, and the move touches none of them
  untouched_parts : (parts : List Part) → AllByRecursion (IsUntouchedPart new moment) parts →
      (list_any (touches p before made) parts ≡ false) × AllByRecursion (IsUntouchedPart old moment) parts
  untouched_parts [] h = (refl, tt)
  untouched_parts (x ∷ parts) h = let r = untouched_parts parts h.1 in (by (touches p before made x) refl r.0, (follows.kept x moment past h.0, r.1))
    where
      by : (t : Bool) → touches p before made x ≡ t → list_any (touches p before made) parts ≡ false → (t || list_any (touches p before made) parts) ≡ false
      by true e k = absurd (follows.touched x moment past e h.0)
      by false e k = k

  pub untouched_before : (c : Candidate) → IsUntouched p new moment c → (touches_basis p before made c ≡ false) × IsUntouched p old moment c
  untouched_before c h = untouched_parts (basis p c) h

module _ (p : Problem) (w : Weights) (grouped : IsGroupedAsListed p) (before made : Routes) (old new : Touches) (clock : ℕ) (follows : Follows p before made old new clock) (moment : ℕ) (past : moment ≤ clock)
    (lawful : is_lawful p before ≡ true) (lawful_made : is_lawful p made ≡ true) where
  -- what gave nothing if it was untouched still does if it is untouched
  abbrev Rests : Touches → Routes → Candidate → Type 0
  Rests last plan c = IsUntouched p last moment c → bettered p w plan c ≡ None

  rest_stays : (c : Candidate) → Rests old before c → Rests new made c
  rest_stays c h u =
      let r = untouched_before p before made old new clock follows moment past c u in
      none_stays p w grouped before made c lawful lawful_made r.0 (h r.1)

  pub rests_stay : (cs : List Candidate) → AllByRecursion (Rests old before) cs → AllByRecursion (Rests new made) cs
  rests_stay cs h = weaker_all (Rests old before) (Rests new made) cs rest_stays h

  -- the candidate of the move is touched
  pub own_rest : (c : Candidate) → bettered p w before c ≡ Some made → Rests new made c
  own_rest c e u =
      let r = untouched_before p before made old new clock follows moment past c u in
      absurd (no (sym (own_touched p w before made c lawful e) ∙ r.0))
    where
      no : true ≡ false → ⊥
      no z = cc
