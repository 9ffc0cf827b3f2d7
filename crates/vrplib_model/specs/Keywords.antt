-- The keywords that are read (TSPLIB 95, section 1.1, and VRPLIB), by their spelling.
use Rattle.std.specs.Prelude.{ℕ, Bool, List, [], ◌∷◌, Option, find, codes, bytes_eq, nat_eq}
use Rattle.std.specs.List.{starts_with}
pub use Rattle.vrplib_model.specs.declared.keyword.Keyword.{Keyword}
pub use Rattle.vrplib_model.specs.declared.keyword.Keyword.TheVariants.{Dimension as dimension, EdgeWeightType as edge_weight_type, EdgeWeightFormat as edge_weight_format, Capacity as capacity, Vehicles as vehicles, ServiceTime as service_time, MaxDuration as max_duration, MaxDistance as max_distance}

-- how a keyword is spelled
abbrev pub keyword_name : Keyword → List ℕ
keyword_name dimension = codes "DIMENSION"
keyword_name edge_weight_type = codes "EDGE_WEIGHT_TYPE"
keyword_name edge_weight_format = codes "EDGE_WEIGHT_FORMAT"
keyword_name capacity = codes "CAPACITY"
keyword_name vehicles = codes "VEHICLES"
keyword_name service_time = codes "SERVICE_TIME"
keyword_name max_duration = codes "MAX_DURATION"
keyword_name max_distance = codes "MAX_DISTANCE"

-- all keywords
abbrev pub keywords : List Keyword
keywords = dimension ∷ edge_weight_type ∷ edge_weight_format ∷ capacity ∷ vehicles ∷ service_time ∷ max_duration ∷ max_distance ∷ []

-- the keyword that a key spells
unfoldable pub keyword_of : List ℕ → Option Keyword
keyword_of key = find (λ k. bytes_eq (keyword_name k) key) keywords

-- a limit of distance that doesn't say whether it holds services: a text with it isn't read
abbrev pub is_distance : List ℕ → Bool
is_distance key = bytes_eq (codes "DISTANCE") key

-- keywords and sections of vehicles that aren't read, and would change the problem
unfoldable pub is_of_vehicles : List ℕ → Bool
is_of_vehicles key = starts_with nat_eq key (codes "VEHICLES_")
