-- What the words ask for, as the program keeps it.
use Rattle.command_model.specs.Words as model
use Rattle.pyvrp.specs.declared.words.Asked.{Asked}

-- the same as contracts see it
abbrev pub shown : Asked → model.Asked
shown asked = record { seed = asked.seed; iterations = asked.iterations; path = asked.path.now }
