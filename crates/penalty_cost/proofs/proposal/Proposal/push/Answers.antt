use Rattle.penalty_cost.proofs.NewSides.{apart-still, pushed-side, second-kept}
use Rattle.penalty_cost.proofs.proposal.Proposal.push.Goals as goal

pub invariant_of-self : goal.invariant_of-self
invariant_of-self c =
    let inv = c.self.invariant in (
      pushed-side c.self.inside.given.now c.self.inside.first c.push.new.self c.args.view c.push.result inv.0 (rw (← c.self.view_is, c.in-First.is) at c.requires) c.validity.ensures
          c.push.ensures.variant c.push.ensures.ok c.push.ensures.err c.push.ensures.vehicle c.push.ensures.vehicle_type c.push.ensures.whole c.push.ensures.visits,
      second-kept c.self.inside.given.now c.self.inside.first c.push.new.self c.self.inside.second c.push.ensures.vehicle inv.1,
    )

pub invariant_of-self-in-Second : goal.invariant_of-self-in-Second
invariant_of-self-in-Second c =
    let inv = c.self.invariant in
    let second = rw c.in-Some.is at inv.1 in (
      inv.0,
      (
        pushed-side c.self.inside.given.now c.in-Some.second c.push-in-Some.new.self c.args.view c.push-in-Some.result second.0 (rw (← c.self.view_is, c.in-Second.is, c.in-Some.is) at c.requires) c.validity.ensures
            c.push-in-Some.ensures.variant c.push-in-Some.ensures.ok c.push-in-Some.ensures.err c.push-in-Some.ensures.vehicle c.push-in-Some.ensures.vehicle_type c.push-in-Some.ensures.whole c.push-in-Some.ensures.visits,
        apart-still _ _ _ c.push-in-Some.ensures.vehicle second.1,
      ),
    )
