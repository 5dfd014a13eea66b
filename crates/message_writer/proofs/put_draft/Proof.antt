use borrow.Author.Rules.{rules}
use Rattle.message_writer.proofs.Puts.{draft-laid}
use Rattle.message_writer.proofs.put_draft.Statement.{statement}
use Rattle.message_writer.proofs.put_draft.Tie as tie

pub put_draft_spec : {M : Type 1} → statement M
put_draft_spec =
    let answers = tie.spec
    (λ c. search rules) (λ c. search rules) (λ c. search rules) (λ c. search rules)
    (λ c. draft-laid _ _ _ _ _ _ c.put_u32.ensures c.put_u16.ensures c.put_u16-2.ensures) in
    tie.close answers
