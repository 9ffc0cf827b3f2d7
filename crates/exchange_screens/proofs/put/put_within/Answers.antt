use Rattle.std.proofs.Common.{List, subst}
use Rattle.problem_data.specs.declared.visit.Visit.{Visit}
use Rattle.list_changes.specs.Gaps.{IsGap}
use Rattle.exchange_screens.proofs.Changes.{earlier-change, later-change}
use Rattle.exchange_screens.proofs.PutLaws.{no-move}
use Rattle.exchange_screens.proofs.put.put_within.Goals as goal

pub returns-then-aim-piece : goal.returns-then-aim-piece
returns-then-aim-piece c =
    earlier-change c.args.search.now c.route.ensures.sound c.args.trial c.requires.some c.requires.few c.args.piece c.requires.piece c.requires.alone c.args.aim c.requires.aim c.gap_of-gap.result
    (subst (λ (xs : List Visit). IsGap xs c.args.piece.first c.args.piece.end c.gap_of-gap.result) c.route.ensures.visits c.gap_of-gap.ensures) c.requires.own c.if-aim-piece.true

pub returns-then-aim-piece-2 : goal.returns-then-aim-piece-2
returns-then-aim-piece-2 c =
    later-change c.args.search.now c.route.ensures.sound c.args.trial c.requires.some c.requires.few c.args.piece c.requires.piece c.requires.alone c.args.aim c.requires.aim c.gap_of-gap.result
    (subst (λ (xs : List Visit). IsGap xs c.args.piece.first c.args.piece.end c.gap_of-gap.result) c.route.ensures.visits c.gap_of-gap.ensures) c.requires.own c.if-aim-piece-2.true

pub returns-else-aim-piece-2 : goal.returns-else-aim-piece-2
returns-else-aim-piece-2 c =
    no-move c.args.search.now c.route.ensures.sound c.args.trial c.requires.alone c.requires.some c.requires.few c.args.piece c.requires.piece c.args.aim c.requires.aim c.requires.own
    c.if-aim-piece.false c.if-aim-piece-2.false
