use Rattle.std.proofs.Common.{◌∙◌, sym}
use Rattle.local_search.proofs.NoMoves.{no-insertion, no-replacement}
use Rattle.local_search.proofs.Visited.{has-position}
use Rattle.local_search.proofs.screens.is_visited.Goals as goal

pub returns-in-Some : goal.returns-in-Some
returns-in-Some c =
    let visited = has-position c.args.search.now.problem c.args.search.now.routes c.args.client c.in-Some.field-0 c.position.ensures.sound.lawful (sym c.position.ensures.position ∙ c.in-Some.is) in
    λ _. record {
      inserted = λ target. no-insertion c.args.search.now.problem c.args.search.now.weights c.args.search.now.routes c.args.client visited target;
      replaced = λ target. no-replacement c.args.search.now.problem c.args.search.now.weights c.args.search.now.routes c.args.client visited target;
    }
