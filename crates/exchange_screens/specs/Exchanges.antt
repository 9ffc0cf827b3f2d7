-- The exchanges: kinds 1 to 9 of moves. The piece of n from a client is put to a target, or changes places with a piece of m.
use Rattle.std.specs.Prelude.{ℕ, ◌==◌, ◌≤◌, if◌then◌else◌}
use Rattle.search_model.specs.declared.kind.Kind.{Kind}
use Rattle.search_model.specs.declared.kind.Kind.TheVariants.{Exchange10, Exchange20, Exchange30, Exchange11, Exchange21, Exchange31, Exchange22, Exchange32, Exchange33}

-- how many clients change places: at least one and at most three, with at most as many
pub record IsExchange (n m : ℕ) : Type 0 where
  pub some : 1 ≤ n
  pub few : n ≤ 3
  pub fewer : m ≤ n

-- the kind of an exchange of n and m
abbrev pub exchange_kind : ℕ → ℕ → Kind
exchange_kind n m =
    if m == 0 then (if n == 1 then Exchange10 else (if n == 2 then Exchange20 else Exchange30))
    else (if m == 1 then (if n == 1 then Exchange11 else (if n == 2 then Exchange21 else Exchange31))
    else (if m == 2 then (if n == 2 then Exchange22 else Exchange32) else Exchange33))
