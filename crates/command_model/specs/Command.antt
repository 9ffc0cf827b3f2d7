-- What the command leaves: the texts of its outputs and its status.
use Rattle.std.specs.Prelude.{ℕ, if◌then◌else◌, List, [], ◌∷◌, ◌++◌, length, flat_map, count_by, is_some}
use Rattle.std.specs.Option.{option_map_or}
use Rattle.std.specs.List.{list_any}
use Rattle.outside_model.specs.Delivery.{Effects}
use Rattle.vrp_texts.specs.Tables.{header, count_line}
use Rattle.vrp_texts.specs.FaultLines.{wrong_words}
use Rattle.command_model.specs.Outcomes.{Instance, program, text_of, row_of, fault_line, is_faulty}

-- the plan of the one instance, and an empty line
abbrev pub only_text : List Instance → List ℕ
only_text ((name, outcome) ∷ []) = option_map_or (λ text. text ++ 10 ∷ []) (text_of outcome) []
only_text _ = []

-- the whole output
abbrev pub output : List Instance → List ℕ
output instances =
    only_text instances ++ header ++ flat_map row_of instances
    ++ count_line (count_by (λ instance. is_some (text_of instance.1)) instances) (length instances)

-- the effects where the words are wrong
abbrev pub refused_words : Effects
refused_words = record { out = []; err = wrong_words program; status = 2 }

-- what comes of these instances
abbrev pub effects_of : List Instance → Effects
effects_of instances = record {
  out = output instances;
  err = flat_map fault_line instances;
  status = if list_any (λ instance. is_faulty instance.1) instances then 1 else 0;
}
