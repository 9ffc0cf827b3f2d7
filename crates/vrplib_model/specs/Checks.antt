-- Checks, in order: the first that fails gives its rule.
use Rattle.std.specs.Prelude.{ℕ, Bool, true, false, not, ◌&&◌, ◌||◌, ◌==◌, nat_lt, nat_le, List, [], ◌∷◌, Option, Some, None}
use Rattle.std.specs.List.{list_any}
use Rattle.vrplib_model.specs.declared.rule.Rule.{Rule}

-- a check: the rule where it is broken
abbrev pub broken_if : Bool → Rule → Option Rule
broken_if true rule = Some rule
broken_if false rule = None

-- the first check that fails
abbrev pub first_of : List (Option Rule) → Option Rule
first_of [] = None
first_of (None ∷ rest) = first_of rest
first_of (Some rule ∷ rest) = Some rule

-- the number is in the list
abbrev pub contains : ℕ → List ℕ → Bool
contains n list = list_any (λ m. m == n) list

-- a number comes again in the list
abbrev pub has_repeated : List ℕ → Bool
has_repeated [] = false
has_repeated (n ∷ rest) = contains n rest || has_repeated rest

-- some number of the list isn't a node, 1 to n
abbrev pub has_node_outside : ℕ → List ℕ → Bool
has_node_outside n nodes = list_any (λ m. not (nat_lt 0 m && nat_le m n)) nodes
