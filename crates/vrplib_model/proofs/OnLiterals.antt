-- What an answer unfolds to compute the reader at a text that is written out.
use Rattle.std.specs.Prelude.{⊤}
use Rattle.vrp_num.specs.DecimalText.{parts_of, is_number}
use Rattle.vrp_num.specs.DecimalText as decimal_text
use Rattle.vrp_num.specs.Rounding.{distance}
use Rattle.vrplib_model.specs.Keywords.{keyword_of, is_of_vehicles}
use Rattle.vrplib_model.specs.Sections.{section_of, is_section_key}
use Rattle.vrplib_model.specs.LineKinds.{key_of, value_of, word_line_of, trimmed_line_of}
use Rattle.vrplib_model.specs.Numbers.{field_value}
use Rattle.vrplib_model.specs.Rows.{rows_of}
use Rattle.vrplib_model.specs.RowFaults.{fault_of_row}
use Rattle.vrplib_model.specs.Faults.{fault_of}
use Rattle.vrplib_model.specs.WholeText.{whole_fault}
use Rattle.vrplib_model.specs.Legs.{base_leg}
use Rattle.vrplib_model.specs.Meaning.{problem_of}
use Rattle.vrplib_model.specs.Reading.{first_fault, read}

unfoldable pub reader_on_literals : ⊤
unfolding decimal_text.read parts_of is_number distance keyword_of is_of_vehicles section_of is_section_key key_of value_of word_line_of trimmed_line_of field_value rows_of fault_of_row fault_of whole_fault base_leg problem_of first_fault read
reader_on_literals = tt
