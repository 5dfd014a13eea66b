use Rattle.std.proofs.Common.{◌∙◌, sym, length, arith}
use Rattle.std.proofs.lemmas.List.{ext_get_or}
use Rattle.block.specs.Run.{words_at}
use Rattle.block.proofs.WordRun.{length-words_at, get_d_words_at}
use Rattle.block.proofs.words.load_words.Goals as goal

pub returns : goal.returns
returns c =
    let l = c.loop-i in
    let s = c.args.s.now in
    let at = c.args.at in
    let n = length c.args.words.now in
    ext_get_or 0 l.words (words_at n s at) (l.auto.words ∙ sym (length-words_at n s at))
    (λ k h. l.invariant k (omega arith) ∙ sym (get_d_words_at n s at k (omega arith)))
