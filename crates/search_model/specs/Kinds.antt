-- The kinds of moves that a kit's operators make, in order.
use Rattle.std.specs.Prelude.{List, [], ◌∷◌, ◌++◌}
use Rattle.search_model.specs.declared.kind.Kind.{Kind}
use Rattle.search_model.specs.declared.kind.Kind.TheVariants.{Exchange10, Exchange20, Exchange30, Exchange11, Exchange21, Exchange31, Exchange22, Exchange32, Exchange33, SwapTails, DepotBefore, DepotAfter, RemoveDepot, Insert, Remove, Replace, SwapRoutes, SwapStar}

-- the nine exchanges
abbrev pub exchange_kinds : List Kind
exchange_kinds = Exchange10 ∷ Exchange20 ∷ Exchange30 ∷ Exchange11 ∷ Exchange21 ∷ Exchange31 ∷ Exchange22 ∷ Exchange32 ∷ Exchange33 ∷ []

-- all kinds
abbrev pub all_kinds : List Kind
all_kinds = exchange_kinds ++ SwapTails ∷ DepotBefore ∷ DepotAfter ∷ RemoveDepot ∷ Insert ∷ Remove ∷ Replace ∷ SwapRoutes ∷ SwapStar ∷ []
