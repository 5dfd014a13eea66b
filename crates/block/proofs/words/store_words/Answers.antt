use Rattle.std.proofs.Common.{◌-◌, ◌≡◌, ◌∙◌, sym, length, arith}
use Rattle.block.proofs.WordRun.{words-turn, words_none}
use Rattle.block.proofs.words.store_words.Goals as goal

pub loop-i-preserved : goal.loop-i-preserved
loop-i-preserved c =
    let l = c.loop-i in
    let w = c.args.words.now in
    l.invariant ∙ rw c.put_u32.ensures (words-turn (length w) w l.s c.args.at l.i (omega arith) (omega arith))

pub returns : goal.returns
returns c =
    let l = c.loop-i in
    let w = c.args.words.now in
    let none : length w - l.i ≡ 0 = omega arith in
    sym (l.invariant ∙ rw (none, words_none))
