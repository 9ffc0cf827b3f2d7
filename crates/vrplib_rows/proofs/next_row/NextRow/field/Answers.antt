use Rattle.std.proofs.Common.{◌≡◌, ◌<◌, ℕ, List, ℤ, length, subst, sym, Some}
use Rattle.std.specs.Prelude.{slice_get}
use Rattle.vrplib_model.specs.declared.field.Field.{Field}
use Rattle.vrplib_model.specs.declared.section.Section.{Section}
use Rattle.vrplib_model.specs.declared.section.Section.TheVariants.{VehicleTypes as vehicle_types_section}
use Rattle.vrplib_model.specs.Rows.{fields}
use Rattle.vrplib_rows.proofs.next_row.NextRow.field.Goals as goal

field_along : (s t : Section) (rows : List (List ℤ)) (n k : ℕ) (f : Field) → s ≡ t → (k < length (fields t rows n) → slice_get (fields t rows n) k ≡ Some f) → k < length (fields s rows n) → slice_get (fields s rows n) k ≡ Some f
field_along s t rows n k f e =
    let P : Section → Type 0 = λ u. k < length (fields u rows n) → slice_get (fields u rows n) k ≡ Some f in
    λ there. subst P (sym e) there

pub returns-in-VehicleTypes-clause-field : goal.returns-in-VehicleTypes-clause-field
returns-in-VehicleTypes-clause-field c = λ rows n follows.
    field_along c.args.self.now.section vehicle_types_section rows n c.args.k c.vehicle_field.result c.in-VehicleTypes.is (c.vehicle_field.ensures.field rows n (follows.vehicles c.in-VehicleTypes.is))
