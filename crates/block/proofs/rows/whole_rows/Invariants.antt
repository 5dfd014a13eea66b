-- The sums so far, row by row.
use Rattle.block.specs.Rows.{le_at, InRows}
use Rattle.block.proofs.rows.whole_rows.Given as goal

abbrev pub invariant-loop-i : goal.invariant-loop-i
invariant-loop-i l = InRows (le_at 2 l.s) l.i l.sums.all l.sums.second l.sums.odd l.sums.running
