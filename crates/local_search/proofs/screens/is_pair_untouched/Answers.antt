use Rattle.std.proofs.Common.{◌∙◌, sym}
use Rattle.local_search.proofs.UntouchedPairs.{first_listed, one_type, place_there, second_listed, two_types}
use Rattle.local_search.proofs.screens.is_pair_untouched.Goals as goal

pub are_lists_untouched-requires-clause-moment : goal.are_lists_untouched-requires-clause-moment
are_lists_untouched-requires-clause-moment c = place_there _ _ _ c.requires.memory c.args.first c.args.second c.args.place c.requires.order c.requires.second c.requires.place

pub are_lists_untouched-requires-clause-first : goal.are_lists_untouched-requires-clause-first
are_lists_untouched-requires-clause-first c = first_listed _ _ _ c.requires.memory c.args.first c.args.second c.args.place c.requires.order c.requires.second c.requires.place

pub are_lists_untouched-requires-clause-second : goal.are_lists_untouched-requires-clause-second
are_lists_untouched-requires-clause-second c = second_listed _ _ _ c.requires.memory c.args.first c.args.second c.args.place c.requires.order c.requires.second c.requires.place
