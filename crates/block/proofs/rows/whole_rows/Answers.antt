use Rattle.std.proofs.Common.{arith}
use Rattle.octets.specs.Bytes.{Bytes}
use Rattle.block.proofs.RowSums.{rows_none, rows_more, rows_room, two_low}
use Rattle.block.proofs.rows.whole_rows.Goals as goal

pub loop-i-init : goal.loop-i-init
loop-i-init c = rows_none _

pub add_row-sums-requires : goal.add_row-sums-requires
add_row-sums-requires c =
    let l = c.loop-i in
    let s = c.args.s.now in
    let byte : Bytes s = λ k. (c.type_inv.s k).fits in
    record {
      sums = rows_room s byte l.i _ _ _ _ (omega arith) l.invariant;
      row = (
        two_low s byte _ _ c.two_words.ensures,
        two_low s byte _ _ c.two_words-in-loop-i.ensures,
        two_low s byte _ _ c.two_words-in-loop-i-2.ensures,
        two_low s byte _ _ c.two_words-in-loop-i-3.ensures,
      );
    }

pub loop-i-preserved : goal.loop-i-preserved
loop-i-preserved c =
    rows_more _ c.loop-i.i c.two_words.ensures c.two_words-in-loop-i.ensures c.two_words-in-loop-i-2.ensures
    c.two_words-in-loop-i-3.ensures c.loop-i.invariant c.add_row-sums.ensures
