-- What a text says, by what the reader keeps of it.
use Rattle.std.proofs.Common.{◌≡◌, List, [], Option, Some, None, flat_map, unwrap_or, sym, ap}
use Rattle.std.specs.Prelude.{is_some}
use Rattle.std.specs.Option.{option_map_or}
use Rattle.indexmap.specs.IndexMap.{get}
use Rattle.vrp_num.specs.declared.rounding.Rounding.{Rounding}
use Rattle.vrplib_read.specs.declared.reading.Reading.{Reading}
use Rattle.vrplib_model.specs.declared.section.Section.{Section}
use Rattle.vrplib_model.specs.declared.section.Section.TheVariants.{EdgeWeight as edge_weight_section}
use Rattle.vrplib_model.specs.Sections.{same_section}
use Rattle.vrplib_model.specs.LineKinds.{Line}
use Rattle.vrplib_model.specs.Values.{node_count}
use Rattle.vrplib_model.specs.Rows.{rows_of, numbers_of, has_section}
use Rattle.vrplib_rows.specs.KeptRows.{Listed}
use Rattle.vrplib_read.specs.inside.Stands.{KnowsSection, Stands}
use Rattle.vrplib_read.specs.inside.OfText.{known_nodes, known_rows, known_weights}

pub nodes_stand : (r : Reading) (all : List Line) → Stands r.mode all r → node_count r.mode all ≡ known_nodes r
nodes_stand r all st = ap (λ o. unwrap_or o 0) st.keywords.dimension

rows_of_known : (mode : Rounding) (all : List Line) (s : Section) (o : Option Listed) → KnowsSection mode all s o →
    rows_of mode s all ≡ option_map_or (λ listed. listed.rows) o []
rows_of_known mode all s None k = k.1
rows_of_known mode all s (Some listed) k = sym (ap (λ l. l.rows) k.1)

has_known : (mode : Rounding) (all : List Line) (s : Section) (o : Option Listed) → KnowsSection mode all s o → has_section s all ≡ is_some o
has_known mode all s None k = k.0
has_known mode all s (Some listed) k = k.0

pub rows_stand : (r : Reading) (all : List Line) → Stands r.mode all r → (s : Section) → rows_of r.mode s all ≡ known_rows r s
rows_stand r all st s = rows_of_known r.mode all s (get same_section r.sections s) (st.sections s)

pub section_stands : (r : Reading) (all : List Line) → Stands r.mode all r → (s : Section) → has_section s all ≡ is_some (get same_section r.sections s)
section_stands r all st s = has_known r.mode all s (get same_section r.sections s) (st.sections s)

pub weights_stand : (r : Reading) (all : List Line) → Stands r.mode all r → numbers_of r.mode edge_weight_section all ≡ known_weights r
weights_stand r all st = ap (flat_map (λ row. row)) (rows_stand r all st edge_weight_section)
