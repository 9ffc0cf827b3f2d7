use Rattle.std.proofs.Common.{◌≡◌, ◌++◌, ◌-◌}
use Rattle.vrp_num.specs.Words.{state_after}
use Rattle.random_plans.proofs.DrawnKeys.{keys_from}
use Rattle.random_plans.proofs.ordering.drawn_keys.Given as goal

-- what is drawn from here on completes what all draws give
abbrev pub invariant-loop-place : goal.invariant-loop-place
invariant-loop-place l = record {
  keys : l.keys.items ++ keys_from (l.place-end - l.place) l.place l.generator ≡ keys_from l.count l.first l.fn.generator;
  state : state_after (l.place-end - l.place) l.generator ≡ state_after l.count l.fn.generator;
}
