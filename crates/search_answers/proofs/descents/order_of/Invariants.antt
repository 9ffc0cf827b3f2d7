use Rattle.local_search.specs.Descents.{NamesClients}
use Rattle.search_answers.proofs.descents.order_of.Given as goal

abbrev pub invariant-loop-word : goal.invariant-loop-word
invariant-loop-word l = NamesClients l.given l.order.items
