use Rattle.std.proofs.Common.{◌≡◌, suc, ◌-◌, ◌≤◌, sym, arith}
use Rattle.exchange_screens.proofs.Changes.{swap-across, swap-earlier, swap-later}
use Rattle.exchange_screens.proofs.SwapLaws.{overlaps}
use Rattle.exchange_screens.proofs.swap.swap.Goals as goal

pub returns-then-first-second : goal.returns-then-first-second
returns-then-first-second c =
    let some : 1 ≤ c.args.trial.n = omega arith in
    let other : c.args.trial.m ≡ suc (c.args.trial.m - 1) = omega arith in
    rw (c.replaced.ensures, c.replaced-then-first-second.ensures) (swap-across c.args.search.now c.soundness.ensures c.args.trial some c.requires.few c.in_ok-first.first c.in_ok-first.ensures
    (c.args.trial.m - 1) c.in-After.client other c.requires.fewer c.in-After.is c.in_ok-second.second c.in_ok-second.ensures (λ e. c.if-first-second.true (sym e)))

pub returns-else-second-first : goal.returns-else-second-first
returns-else-second-first c =
    let some : 1 ≤ c.args.trial.n = omega arith in
    let other : c.args.trial.m ≡ suc (c.args.trial.m - 1) = omega arith in
    overlaps c.args.search.now c.soundness.ensures c.args.trial (c.args.trial.m - 1) c.in-After.client other some c.requires.few c.requires.fewer c.in-After.is c.in_ok-first.first c.in_ok-second.second
    c.in_ok-first.ensures c.in_ok-second.ensures (sym c.if-first-second.false) c.if-first-second-2.false c.if-second-first.false

pub returns-then-first-second-2 : goal.returns-then-first-second-2
returns-then-first-second-2 c =
    let some : 1 ≤ c.args.trial.n = omega arith in
    let other : c.args.trial.m ≡ suc (c.args.trial.m - 1) = omega arith in
    rw c.swapped-layout.ensures (swap-earlier c.args.search.now c.soundness.ensures c.args.trial some c.requires.few c.in_ok-first.first c.in_ok-first.ensures
    (c.args.trial.m - 1) c.in-After.client other c.requires.fewer c.in-After.is c.in_ok-second.second c.in_ok-second.ensures (sym c.if-first-second.false) c.if-first-second-2.true)

pub returns-then-second-first : goal.returns-then-second-first
returns-then-second-first c =
    let some : 1 ≤ c.args.trial.n = omega arith in
    let other : c.args.trial.m ≡ suc (c.args.trial.m - 1) = omega arith in
    rw c.swapped.ensures (swap-later c.args.search.now c.soundness.ensures c.args.trial some c.requires.few c.in_ok-first.first c.in_ok-first.ensures
    (c.args.trial.m - 1) c.in-After.client other c.requires.fewer c.in-After.is c.in_ok-second.second c.in_ok-second.ensures (sym c.if-first-second.false) c.if-second-first.true)
