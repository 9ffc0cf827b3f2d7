use Rattle.plan_tables.proofs.plan_tables.PlanTables.new.Goals as goal

pub returns : goal.returns
returns c = record {
  has_spots = rw (← c.client_places.ensures.end) c.in_ok-spots.ensures;
  has_figures = record { are_sizes = c.in_ok-sizes.ensures; are_rests = c.in_ok-rests.ensures; are_costs = c.in_ok-costs.ensures };
  has_unused = rw (← c.as_slice.ensures.value) c.in_ok-unused.ensures;
}
