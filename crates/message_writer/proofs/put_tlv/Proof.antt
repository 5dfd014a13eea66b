use borrow.Author.Rules.{rules}
use Rattle.message_writer.proofs.Puts.{tlv_laid}
use Rattle.message_writer.proofs.put_tlv.Statement.{statement}
use Rattle.message_writer.proofs.put_tlv.Tie as tie

pub put_tlv_spec : {M : Type 1} → statement M
put_tlv_spec =
    let answers = tie.spec
    (λ c. search rules) (λ c. search rules) (λ c. search rules) (λ c. search rules)
    (λ c. search rules) (λ c. search rules)
    (λ c. tlv_laid _ _ _ _ _ _ _ c.put_u16.ensures c.put_u16-2.ensures c.put_u32.ensures) in
    tie.close answers
