use Rattle.std.proofs.Common.{◌≡◌, take}
use Rattle.joined_views.specs.Views.{is_some_list, lent_by}
use Rattle.joined_views.proofs.joined.lends_some.Given as goal

abbrev pub invariant-loop-view : goal.invariant-loop-view
invariant-loop-view l = l.some ≡ is_some_list (lent_by (take l.view-index l.views))
