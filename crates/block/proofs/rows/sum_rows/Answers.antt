use Rattle.std.proofs.Common.{◌≡◌, arith}
use Rattle.octets.specs.Bytes.{Bytes}
use Rattle.block.proofs.RowSums.{rows_more, rows_room, two_low, last_word}
use Rattle.block.proofs.rows.sum_rows.Goals as goal

pub add_row-requires : goal.add_row-requires
add_row-requires c =
    let s = c.args.s.now in
    let byte : Bytes s = λ k. (c.type_inv.s k).fits in
    let third = last_word s c.requires.1 504 c.word.result (omega arith) c.word.ensures in
    let fourth = last_word s c.requires.1 506 c.word-2.result (omega arith) c.word-2.ensures in
    record {
      sums = rows_room s byte 31 _ _ _ _ (omega arith) c.whole_rows-2.ensures;
      row = (
        two_low s byte _ _ c.two_words.ensures,
        two_low s byte _ _ c.two_words-2.ensures,
        two_low s byte 504 _ third,
        two_low s byte 506 _ fourth,
      );
    }

pub returns : goal.returns
returns c =
    let s = c.args.s.now in
    let all : c.args.rows ≡ 32 = omega arith in
    let third = last_word s c.requires.1 504 c.word.result (omega arith) c.word.ensures in
    let fourth = last_word s c.requires.1 506 c.word-2.result (omega arith) c.word-2.ensures in
    rw all
    (rows_more _ 31 c.two_words.ensures c.two_words-2.ensures third fourth c.whole_rows-2.ensures c.add_row.ensures)
