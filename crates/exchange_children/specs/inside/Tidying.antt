-- Visits that stay in a tidied list.
use Rattle.std.specs.Prelude.{Bool, ◌&&◌, ◌||◌, List}
use Rattle.problem_data.specs.declared.visit.Visit.{Visit}
use Rattle.routing_model.specs.Routes.{is_client, is_used}

-- whether a visit stays, by whether a client stands directly before it and by what comes after it
abbrev pub stays : Bool → Visit → List Visit → Bool
stays behind visit rest = is_client visit || (behind && is_used rest)
