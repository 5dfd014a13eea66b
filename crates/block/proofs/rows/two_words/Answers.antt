use Rattle.block.proofs.Le.{two_words}
use Rattle.block.proofs.rows.two_words.Goals as goal

pub returns : goal.returns
returns c = two_words c.args.s.now (λ k. (c.type_inv.s k).fits) c.args.at _ c.get_eight.ensures
