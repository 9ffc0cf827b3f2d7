use Rattle.std.proofs.Common.{◌∙◌, ap, subst}
use Rattle.std.specs.Option.{option_map}
use Rattle.route_cache.specs.inside.Lookups.{IsAlone}
use Rattle.route_cache.specs.Routes.{ViewState}
use Rattle.route_cache.proofs.Lone.{lone-alone, lone-here}
use Rattle.route_cache.proofs.view.View.alone.Goals as goal

pub lone-requires-clause-in_list : goal.lone-requires-clause-in_list
lone-requires-clause-in_list c =
    lone-here _ _ c.self.invariant (ap (λ (v : ViewState). v.vehicle) c.self.view_is ∙ c.requires)

pub returns : goal.returns
returns c =
    let i = c.self.inside in
    let view : ViewState = record { problem = i.given.now; vehicle = option_map (λ route. route.now.vehicle) i.lender; list = i.list.now; first = i.first; end = i.end; starts = i.starts; ends = i.ends } in
    subst (λ (v : ViewState). IsAlone v c.lone.result) c.self.view_is
    (lone-alone view _ c.lone.result c.self.invariant (ap (λ (v : ViewState). v.vehicle) c.self.view_is ∙ c.requires) c.lone.ensures)
