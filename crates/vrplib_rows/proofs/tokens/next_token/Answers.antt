use Rattle.std.proofs.Common.{arith}
use Rattle.std.proofs.lemmas.Bool.Decides.{nat_tests}
use Rattle.vrplib_rows.proofs.TokenLaws.{ink_length-within, tokens-first, tokens-none}
use Rattle.vrplib_rows.proofs.tokens.next_token.Goals as goal

pub returns-then-is_empty : goal.returns-then-is_empty
returns-then-is_empty c = tokens-none c.args.text.now _ c.without_indent-rest.ensures (grind (arith, nat_tests))

pub split_at-requires : goal.split_at-requires
split_at-requires c = omega (arith, c.ink_length.ensures, ink_length-within c.without_indent-rest.result.now)

pub returns : goal.returns
returns c =
    tokens-first c.args.text.now _ _ _ _ c.without_indent-rest.ensures (grind (arith, nat_tests)) c.ink_length.ensures c.split_at.ensures.front c.split_at.ensures.back
