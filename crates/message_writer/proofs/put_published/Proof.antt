use borrow.Author.Rules.{rules}
use Rattle.message_writer.proofs.Puts.{published-laid}
use Rattle.message_writer.proofs.put_published.Statement.{statement}
use Rattle.message_writer.proofs.put_published.Tie as tie

pub put_published_spec : {M : Type 1} → statement M
put_published_spec =
    let answers = tie.spec
    (λ c. search rules) (λ c. search rules) (λ c. search rules) (λ c. search rules)
    (λ c. search rules) (λ c. search rules)
    (λ c. published-laid _ _ _ _ _ _ _ _ c.put_u32.ensures c.put_u16.ensures c.put_u16-2.ensures c.put_u32-2.ensures c.put_u32-3.ensures) in
    tie.close answers
