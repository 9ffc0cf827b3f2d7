use Rattle.std.proofs.Common.{◌≡◌, ◌+◌, ◌≤◌, List, length, ℤ}
use Rattle.vrplib_model.specs.Lines.{tokens}
use Rattle.vrplib_rows.specs.inside.LongRows.{AreHead, IsTail}
use Rattle.vrplib_rows.specs.inside.NextRows.{Follows}
use Rattle.vrplib_model.specs.Rows.{fields}
use Rattle.vrplib_rows.proofs.TokenWalks.{Walks}
use Rattle.vrplib_rows.proofs.long_row.read_long.Given as goal

abbrev pub invariant-loop-token : goal.invariant-loop-token
invariant-loop-token l = record {
  places : l.k + length (tokens l.rest) ≡ length (tokens l.line);
  named : l.kept.tail.count ≤ l.k;
  held : (rows : List (List ℤ)) → Follows l.next rows → (row : List ℤ) × (length row ≡ l.k)
      × Walks l.mode (fields l.next.section rows (length (tokens l.line))) (tokens l.line) (tokens l.rest) row
      × AreHead l.kept.head row × IsTail l.first l.nodes row l.kept.tail;
}

abbrev pub decreases-loop-token : goal.decreases-loop-token
decreases-loop-token l = length (tokens l.rest)
