use Rattle.std.proofs.Common.{◌≡◌, ◌∙◌, ◌<◌, true, false, [], ◌∷◌, length, arith, rules, sym, subst}
use Rattle.search_model.specs.declared.candidate.Candidate.TheVariants.{Routes as Pair}
use Rattle.search_model.specs.declared.kind.Kind.TheVariants.{SwapRoutes, SwapStar}
use Rattle.descent_memory.specs.Memories.{Moments}
use Rattle.local_search.proofs.Finishing.{pair_keeps, pair_tried}
use Rattle.local_search.proofs.Keeping.{pair_left_out}
use Rattle.local_search.proofs.Stops.{on_err, stopped_more, stopped_then, tried_some, tried_then}
use Rattle.local_search.proofs.UntouchedPairs.{place_there}
use Rattle.local_search.proofs.pair_turns.pair_turn.Goals as goal

pub returns-then-is_pair_untouched-clause-tried : goal.returns-then-is_pair_untouched-clause-tried
returns-then-is_pair_untouched-clause-tried g c =
    let later : c.args.each ≡ false = search rules in
    let untouched : c.is_pair_untouched.result ≡ true = search rules in
    pair_left_out _ _ _ _ c.requires.stage c.args.each later c.args.first c.args.second (c.is_pair_untouched.ensures untouched) (c.requires.pairs c.args.first c.args.second c.requires.order c.requires.second)

pub returns-in_err-try_pair-clause-stopped : goal.returns-in_err-try_pair-clause-stopped
returns-in_err-try_pair-clause-stopped g c = on_err c.from_residual.result (stopped_more _ _ (Pair SwapRoutes c.args.first c.args.second ∷ []) (Pair SwapStar c.args.first c.args.second ∷ []) _ _ c.in_err-try_pair.ensures.stopped)

pub returns-in_err-try_pair-2-clause-stopped : goal.returns-in_err-try_pair-2-clause-stopped
returns-in_err-try_pair-2-clause-stopped g c =
    on_err c.from_residual-in_err-try_pair-2.result
    (stopped_then _ _ _ true (Pair SwapRoutes c.args.first c.args.second ∷ []) (Pair SwapStar c.args.first c.args.second ∷ []) _ _ _ c.in_ok-try_pair.ensures.tried c.in_err-try_pair-2.ensures.stopped)

pub finish_pair-requires : goal.finish_pair-requires
finish_pair-requires g c =
    subst (λ (ms : Moments). c.args.place < length ms.pairs) (sym (c.in_ok-try_pair-2.ensures.moments ∙ c.in_ok-try_pair.ensures.moments))
    (place_there _ _ _ c.requires.stage.memory c.args.first c.args.second c.args.place c.requires.order c.requires.second c.requires.place)

pub returns-clause-tried : goal.returns-clause-tried
returns-clause-tried g c =
    pair_tried _ _ _ c.args.each c.args.first c.args.second _ _ c.args.place c.moment-moment.result
    (tried_then _ _ _ c.args.each (Pair SwapRoutes c.args.first c.args.second ∷ []) (Pair SwapStar c.args.first c.args.second ∷ []) _ _ _ (tried_some _ _ _ c.args.each _ _ _ c.in_ok-try_pair.ensures.tried) (tried_some _ _ _ c.args.each _ _ _ c.in_ok-try_pair-2.ensures.tried))
    _ c.finish_pair.ensures

pub returns-clause-pairs : goal.returns-clause-pairs
returns-clause-pairs g c =
    pair_keeps _ _ _ c.args.each c.args.first c.args.second _ _ c.args.place c.moment-moment.result
    (tried_then _ _ _ c.args.each (Pair SwapRoutes c.args.first c.args.second ∷ []) (Pair SwapStar c.args.first c.args.second ∷ []) _ _ _ (tried_some _ _ _ c.args.each _ _ _ c.in_ok-try_pair.ensures.tried) (tried_some _ _ _ c.args.each _ _ _ c.in_ok-try_pair-2.ensures.tried))
    _ c.finish_pair.ensures c.requires.order c.requires.second c.requires.place (omega arith) (omega arith) (c.in_ok-try_pair-2.ensures.moments ∙ c.in_ok-try_pair.ensures.moments) c.requires.pairs
