use Rattle.std.proofs.Common.{◌≡◌, refl, List, [], ◌∷◌, ◌++◌, subst, arith, Option, None, Some, ◌<ℤ◌, ◌≤ℤ◌}
use Rattle.std.proofs.lemmas.Int.{ints}
use Rattle.routing_model.specs.Routes.{Routes}
use Rattle.search_model.specs.declared.candidate.Candidate.{Candidate}
use Rattle.gain_model.specs.Gains.{GainState}
use Rattle.move_core.specs.Searches.{SearchState}
use Rattle.depot_moves.specs.inside.Gains.{IsBest, IsTried}
use Rattle.depot_moves.proofs.BestGains.{first-best, new-best, old-best, still-best, still-none}
use Rattle.depot_moves.proofs.best.better.Goals as goal

module _ (s : SearchState) (candidate : Candidate) (plans : List Routes) (plan : Routes) where
  -- nothing was found
  kept : (best found : Option GainState) → ((gain : GainState) → found ≡ Some gain → ⊥) → IsBest s candidate plans best → IsTried s candidate plan found → IsBest s candidate (plans ++ plan ∷ []) best
  kept None None none is tried = still-none s candidate plans plan is tried
  kept (Some old) None none is tried = still-best s candidate plans plan old is tried
  kept best (Some gain) none is tried = absurd (none gain refl)

  -- nothing before
  taken : (best : Option GainState) (new : GainState) → ((gain : GainState) → best ≡ Some gain → ⊥) → IsBest s candidate plans best → IsTried s candidate plan (Some new) → IsBest s candidate (plans ++ plan ∷ []) (Some new)
  taken None new none is tried = first-best s candidate plans plan new is tried
  taken (Some old) new none is tried = absurd (none old refl)

pub returns-in_default : goal.returns-in_default
returns-in_default c = λ s candidate plans plan is tried. kept s candidate plans plan c.args.best c.args.found c.in_default.not-Some is tried

pub returns-in_default-best : goal.returns-in_default-best
returns-in_default-best c = λ s candidate plans plan is tried. taken s candidate plans plan c.args.best c.in-Some.new c.in_default-best.not-Some is (subst (IsTried s candidate plan) c.in-Some.is tried)

pub returns-then-amount : goal.returns-then-amount
returns-then-amount c =
    let less : c.in-Some.new.amount <ℤ c.in-Some-best.old.amount = omega (arith, ints, c.amount.ensures, c.amount-2.ensures, c.if-amount.true) in
    λ s candidate plans plan is tried.
    new-best s candidate plans plan c.in-Some-best.old c.in-Some.new (subst (IsBest s candidate plans) c.in-Some-best.is is) (subst (IsTried s candidate plan) c.in-Some.is tried) less

pub returns-else-amount : goal.returns-else-amount
returns-else-amount c =
    let more : c.in-Some-best.old.amount ≤ℤ c.in-Some.new.amount = omega (arith, ints, c.amount.ensures, c.amount-2.ensures, c.if-amount.false) in
    λ s candidate plans plan is tried.
    old-best s candidate plans plan c.in-Some-best.old c.in-Some.new (subst (IsBest s candidate plans) c.in-Some-best.is is) (subst (IsTried s candidate plan) c.in-Some.is tried) more
