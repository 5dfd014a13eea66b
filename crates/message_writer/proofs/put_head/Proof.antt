use borrow.Author.Rules.{rules}
use Rattle.message_writer.proofs.Puts.{head_laid}
use Rattle.message_writer.proofs.put_head.Statement.{statement}
use Rattle.message_writer.proofs.put_head.Tie as tie

pub put_head_spec : {M : Type 1} → statement M
put_head_spec =
    let answers = tie.spec
    (λ c. search rules) (λ c. search rules) (λ c. search rules) (λ c. search rules)
    (λ c. head_laid _ _ _ _ _ _ _ c.put_u16.ensures c.put_u16-2.ensures c.put_u32.ensures) in
    tie.close answers
