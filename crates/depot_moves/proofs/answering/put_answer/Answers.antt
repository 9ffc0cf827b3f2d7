use Rattle.std.proofs.Common.{◌≡◌, ℕ, length, sym, ◌∙◌, ap, subst, arith}
use Rattle.search_model.specs.declared.candidate.Target.TheVariants as target
use Rattle.gain_model.specs.MoveReads.{depots_at}
use Rattle.new_lists.specs.Moves.{IsAnswerTo}
use Rattle.routing_model.specs.Listed.{type_of_vehicle}
use Rattle.reload_puts.specs.Puts.{put_candidate}
use Rattle.depot_moves.proofs.PutAnswers.{best-answer, depots-there}
use Rattle.depot_moves.proofs.answering.put_answer.Goals as goal

pub returns-clause-answer : goal.returns-clause-answer
returns-clause-answer c =
    let s = c.args.search.now in
    let seats = c.in_ok-seats.seats in
    subst (λ (v : ℕ). IsAnswerTo s (put_candidate c.args.beside c.args.client v) c.best_gain.result) c.in_ok-seats.ensures.of_neighbour
    (subst (λ (u : ℕ). IsAnswerTo s (put_candidate c.args.beside u seats.neighbour) c.best_gain.result) c.in_ok-seats.ensures.of_client
    (best-answer s c.soundness.ensures c.args.beside seats c.in_ok-seats.ensures.stand c.best_gain.result c.best_gain.ensures.gain))

pub returns-clause-reads : goal.returns-clause-reads
returns-clause-reads c =
    let s = c.args.search.now in
    let read = c.best_gain.ensures.reads in
    let many : depots_at s.problem s.routes (target.After c.args.neighbour) ≡ length (type_of_vehicle s.problem c.in_ok-seats.seats.other).reload_depots =
    ap (λ (v : ℕ). depots_at s.problem s.routes (target.After v)) (sym c.in_ok-seats.ensures.of_neighbour)
    ∙ depots-there s c.soundness.ensures c.args.beside c.in_ok-seats.seats c.in_ok-seats.ensures.stand in
    record { kept = read.kept; most = omega (arith, read.most, many) }
