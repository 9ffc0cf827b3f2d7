-- The numbers and names by which rules are printed.
use Rattle.std.specs.Prelude.{ℕ, List, codes}
use Rattle.vrplib_model.specs.declared.rule.Rule.{Rule}
use Rattle.vrplib_model.specs.declared.rule.Rule.TheVariants.{NotText, NoKeyword, Repeated, Missing, BadNumber, RowCount, BadNode, Unsupported, Limit, BadDepot, EmptyWindow, BadVehicle, BadGroup}
use Rattle.vrplib_model.specs.declared.rule.Key.{Key}
use Rattle.vrplib_model.specs.declared.rule.Key.TheVariants.{Dimension, EdgeWeightType, EdgeWeightFormat, NodeCoordSection, EdgeWeightSection}

-- the spelling of a key in the file
abbrev pub key_name : Key → List ℕ
key_name Dimension = codes "DIMENSION"
key_name EdgeWeightType = codes "EDGE_WEIGHT_TYPE"
key_name EdgeWeightFormat = codes "EDGE_WEIGHT_FORMAT"
key_name NodeCoordSection = codes "NODE_COORD_SECTION"
key_name EdgeWeightSection = codes "EDGE_WEIGHT_SECTION"

-- a rule's number
abbrev pub rule_number : Rule → ℕ
rule_number NotText = 1
rule_number NoKeyword = 2
rule_number Repeated = 3
rule_number (Missing _) = 4
rule_number BadNumber = 5
rule_number RowCount = 6
rule_number BadNode = 7
rule_number Unsupported = 8
rule_number Limit = 9
rule_number BadDepot = 10
rule_number EmptyWindow = 11
rule_number BadVehicle = 12
rule_number BadGroup = 13

-- a rule's name
abbrev pub rule_name : Rule → List ℕ
rule_name NotText = codes "NotText"
rule_name NoKeyword = codes "NoKeyword"
rule_name Repeated = codes "Repeated"
rule_name (Missing _) = codes "Missing"
rule_name BadNumber = codes "BadNumber"
rule_name RowCount = codes "RowCount"
rule_name BadNode = codes "BadNode"
rule_name Unsupported = codes "Unsupported"
rule_name Limit = codes "Limit"
rule_name BadDepot = codes "BadDepot"
rule_name EmptyWindow = codes "EmptyWindow"
rule_name BadVehicle = codes "BadVehicle"
rule_name BadGroup = codes "BadGroup"
