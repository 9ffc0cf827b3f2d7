use Rattle.std.proofs.Common.{◌≡◌, ◌∙◌, true, false, [], ◌∷◌, rules, sym}
use Rattle.search_model.specs.declared.candidate.Candidate.TheVariants.{Solo}
use Rattle.search_model.specs.declared.kind.Kind.TheVariants.{Remove, RemoveDepot}
use Rattle.local_search.proofs.Keeping.{alone_left_out}
use Rattle.local_search.proofs.Stops.{on_err, stopped_more, stopped_then, tried_some, tried_then}
use Rattle.local_search.proofs.turns.alone_turn.Goals as goal

pub returns-then-is_client_untouched-clause-tried : goal.returns-then-is_client_untouched-clause-tried
returns-then-is_client_untouched-clause-tried g c =
    let later : c.args.each ≡ false = search rules in
    alone_left_out _ _ _ _ c.requires.stage c.args.each later c.args.client c.requires.client c.requires.rests (sym c.is_client_untouched.ensures ∙ c.if-is_client_untouched.true)

pub returns-in_err-try_alone-clause-stopped : goal.returns-in_err-try_alone-clause-stopped
returns-in_err-try_alone-clause-stopped g c = on_err c.from_residual.result (stopped_more _ _ (Solo RemoveDepot c.args.client ∷ []) (Solo Remove c.args.client ∷ []) _ _ c.in_err-try_alone.ensures.stopped)

pub returns-in_err-try_alone-2-clause-stopped : goal.returns-in_err-try_alone-2-clause-stopped
returns-in_err-try_alone-2-clause-stopped g c =
    on_err c.from_residual-in_err-try_alone-2.result
    (stopped_then _ _ _ true (Solo RemoveDepot c.args.client ∷ []) (Solo Remove c.args.client ∷ []) _ _ _ c.in_ok-try_alone.ensures.tried c.in_err-try_alone-2.ensures.stopped)

pub returns-clause-tried : goal.returns-clause-tried
returns-clause-tried g c =
    tried_then _ _ _ c.args.each (Solo RemoveDepot c.args.client ∷ []) (Solo Remove c.args.client ∷ []) _ _ _ (tried_some _ _ _ c.args.each _ _ _ c.in_ok-try_alone.ensures.tried) (tried_some _ _ _ c.args.each _ _ _ c.in_ok-try_alone-2.ensures.tried)
