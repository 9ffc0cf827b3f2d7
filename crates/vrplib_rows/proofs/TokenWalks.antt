-- A walk over the tokens of a row, each in its field.
use Rattle.std.proofs.Common.{◌≡◌, ◌+◌, ◌-◌, ◌<◌, ℕ, zero, suc, true, List, [], ◌∷◌, ◌++◌, length, drop, sym, ◌∙◌, ap, subst, arith, ℤ, Some, Ok, Err}
use Rattle.std.specs.Prelude.{slice_get}
use Rattle.std.proofs.lemmas.Bool.{eqb-true, leb-true}
use Rattle.std.proofs.lemmas.List.{append_assoc, length-replicate, length_push}
use Rattle.vrp_num.specs.declared.rounding.Rounding.{Rounding}
use Rattle.vrplib_model.specs.declared.rule.Rule.{Rule}
use Rattle.vrplib_model.specs.declared.field.Field.{Field}
use Rattle.vrplib_model.specs.declared.field.Field.TheVariants.{Number as number}
use Rattle.vrplib_model.specs.Numbers.{field_value, field_values, first_broken, numbers}
use Rattle.vrplib_model.specs.RowFaults.{has_right_length}
use Rattle.vrplib_model.specs.Rows.{fields}
use Rattle.vrplib_model.specs.declared.section.Section.{Section}
use Rattle.vrplib_model.specs.declared.section.Section.TheVariants.{NodeCoord as node_coord_section, Demand as demand_section, Backhaul as backhaul_section, TimeWindow as time_window_section, ServiceTime as service_time_section, ReleaseTime as release_time_section, Prize as prize_section, EdgeWeight as edge_weight_section, Depot as depot_section, Group as group_section, Profile as profile_section, VehicleTypes as vehicle_types_section}

-- a row of the right length has a field for each token
pub length-fields : (s : Section) (rows : List (List ℤ)) (tokens : List (List ℕ)) → has_right_length s tokens ≡ true → length (fields s rows (length tokens)) ≡ length tokens
length-fields node_coord_section rows tokens h = sym (eqb-true (length tokens) 3 h)
length-fields demand_section rows tokens h = sym (eqb-true (length tokens) 2 h)
length-fields backhaul_section rows tokens h = sym (eqb-true (length tokens) 2 h)
length-fields time_window_section rows tokens h = sym (eqb-true (length tokens) 3 h)
length-fields service_time_section rows tokens h = sym (eqb-true (length tokens) 2 h)
length-fields release_time_section rows tokens h = sym (eqb-true (length tokens) 2 h)
length-fields prize_section rows tokens h = sym (eqb-true (length tokens) 2 h)
length-fields edge_weight_section rows tokens h = length-replicate (length tokens) _
length-fields depot_section rows tokens h = length-replicate (length tokens) _
length-fields group_section rows tokens h = length-replicate (length tokens) _
length-fields profile_section rows tokens h = sym (eqb-true (length tokens) 3 h)
length-fields vehicle_types_section rows tokens h =
    omega (arith, leb-true 14 (length tokens) h, length-replicate (length tokens - 14) number)

drop_get : {X : Type 0} (xs : List X) (k : ℕ) (x : X) → slice_get xs k ≡ Some x → drop k xs ≡ x ∷ drop (k + 1) xs
drop_get [] k x h = cc
drop_get (y ∷ ys) zero x h = let same : y ≡ x = cc in ap (λ z. z ∷ ys) same
drop_get (y ∷ ys) (suc k) x h = let e : suc (k + 1) ≡ suc k + 1 = omega arith in drop_get ys k x h ∙ ap (λ m. x ∷ drop m (y ∷ ys)) e

-- the numbers of the tokens before these are read, and none of them breaks a rule
pub record Walks (mode : Rounding) (fs : List Field) (line rest : List (List ℕ)) (row : List ℤ) : Type 0 where
  pub count : length row + length rest ≡ length line
  pub broken : first_broken (field_values mode (drop (length row) fs) rest) ≡ first_broken (field_values mode fs line)
  pub numbers_so_far : row ++ numbers (field_values mode (drop (length row) fs) rest) ≡ numbers (field_values mode fs line)

values_ahead : (mode : Rounding) (fs : List Field) (rest after : List (List ℕ)) (k : ℕ) (token : List ℕ) (f : Field) → rest ≡ token ∷ after → slice_get fs k ≡ Some f
    → field_values mode (drop k fs) rest ≡ field_value mode f token ∷ field_values mode (drop (k + 1) fs) after
values_ahead mode fs rest after k token f e there =
    ap (λ ts. field_values mode (drop k fs) ts) e ∙ ap (λ gs. field_values mode gs (token ∷ after)) (drop_get fs k f there)

pub broken_here : (mode : Rounding) (fs : List Field) (line rest after : List (List ℕ)) (row : List ℤ) (token : List ℕ) (f : Field) (rule : Rule)
    → Walks mode fs line rest row → rest ≡ token ∷ after → slice_get fs (length row) ≡ Some f → Err rule ≡ field_value mode f token → Some rule ≡ first_broken (field_values mode fs line)
broken_here mode fs line rest after row token f rule w e there is =
    ap (λ v. first_broken (v ∷ field_values mode (drop (length row + 1) fs) after)) is ∙ ap first_broken (sym (values_ahead mode fs rest after (length row) token f e there)) ∙ w.broken

pub walks_on : (mode : Rounding) (fs : List Field) (line rest after : List (List ℕ)) (row : List ℤ) (token : List ℕ) (f : Field) (z : ℤ)
    → Walks mode fs line rest row → rest ≡ token ∷ after → slice_get fs (length row) ≡ Some f → Ok z ≡ field_value mode f token → Walks mode fs line after (row ++ z ∷ [])
walks_on mode fs line rest after row token f z w e there is =
    let ahead : field_values mode (drop (length row) fs) rest ≡ Ok z ∷ field_values mode (drop (length row + 1) fs) after =
    values_ahead mode fs rest after (length row) token f e there ∙ ap (λ v. v ∷ field_values mode (drop (length row + 1) fs) after) (sym is) in
    let more : length (row ++ z ∷ []) ≡ length row + 1 = length_push row z in
    record {
      count = omega (arith, more, w.count, ap length e);
      broken = ap (λ m. first_broken (field_values mode (drop m fs) after)) more ∙ sym (ap first_broken ahead) ∙ w.broken;
      numbers_so_far = append_assoc row (z ∷ []) (numbers (field_values mode (drop (length (row ++ z ∷ [])) fs) after))
          ∙ ap (λ m. row ++ z ∷ numbers (field_values mode (drop m fs) after)) more
          ∙ sym (ap (λ vs. row ++ numbers vs) ahead) ∙ w.numbers_so_far;
    }

-- the field of the next token
pub field_there : (mode : Rounding) (fs : List Field) (line rest after : List (List ℕ)) (row : List ℤ) (token : List ℕ) (k : ℕ) (f : Field)
    → Walks mode fs line rest row → rest ≡ token ∷ after → length fs ≡ length line → k ≡ length row → (k < length fs → slice_get fs k ≡ Some f) → slice_get fs (length row) ≡ Some f
field_there mode fs line rest after row token k f w e all at there =
    let P : ℕ → Type 0 = λ m. slice_get fs m ≡ Some f in
    subst P at (there (omega (arith, w.count, ap length e)))
