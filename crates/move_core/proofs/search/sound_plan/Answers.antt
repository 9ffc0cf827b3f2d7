use Rattle.move_core.proofs.SoundSearches.{drivable-of, sound-of}
use Rattle.move_core.proofs.search.sound_plan.Goals as goal

pub returns-clause-sound : goal.returns-clause-sound
returns-clause-sound c = sound-of c.args.given.now c.args.weights c.args.solution.now.routes c.validity.ensures c.requires.weights c.requires.lawful

pub returns-clause-drivable : goal.returns-clause-drivable
returns-clause-drivable c = drivable-of c.args.given.now c.args.solution.now.routes c.validity.ensures c.requires.lawful
