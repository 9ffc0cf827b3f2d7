use Rattle.std.proofs.Common.{◌≡◌, ℕ, ◌≤◌, List, ℤ, drop, subst, arith}
use Rattle.vrplib_model.specs.declared.section.Section.{Section}
use Rattle.vrplib_model.specs.declared.section.Section.TheVariants.{VehicleTypes as vehicle_types_section}
use Rattle.vrplib_model.specs.Numbers.{int_at}
use Rattle.vrplib_model.specs.inside.FaultlessRows.{IsRow, IsTypeRow}
use Rattle.vrplib_read.proofs.GroupLaws.{wider, all_wider}
use Rattle.std.proofs.lemmas.Grind.{common_steps}
use Rattle.vrplib_model.specs.Fleet.{type_of_row}
use Rattle.vrplib_read.proofs.RowLaws.{map_taken}
use Rattle.vrplib_read.proofs.fleet.types_in.Goals as goal

wider_row : (n : ℕ) (row : List ℤ) → n ≤ 2048 → IsTypeRow n row → IsTypeRow 2048 row
wider_row n row h b = record {
  long = b.long;
  count = b.count;
  capacity = b.capacity;
  start = wider 1 n 2048 (int_at 3 row) h b.start;
  end = wider 1 n 2048 (int_at 4 row) h b.end;
  fixed = b.fixed;
  unit_distance = b.unit_distance;
  unit_duration = b.unit_duration;
  early = b.early;
  late = b.late;
  ordered = b.ordered;
  max_duration = b.max_duration;
  max_distance = b.max_distance;
  profile = b.profile;
  reloads = b.reloads;
  depots = all_wider 1 n 2048 (drop 14 row) h b.depots;
}

type_row : (s : Section) (n : ℕ) (row : List ℤ) → s ≡ vehicle_types_section → n ≤ 2048 → IsRow s n row → IsTypeRow 2048 row
type_row s n row is h b = let P : Section → Type 0 = λ s. IsRow s n row in wider_row n row h (subst P is b)

pub type_of_row-requires : goal.type_of_row-requires
type_of_row-requires c =
    let rows = c.args.rows.now in
    type_row rows.section rows.nodes c.row.result.now c.requires c.count-count.ensures.limit c.row.ensures.bounds

pub loop-k-preserved : goal.loop-k-preserved
loop-k-preserved c = grind (arith, common_steps, map_taken type_of_row c.args.rows.now.rows c.loop-k.k c.row.result.now c.row.ensures.row)
