use borrow.Author.Rules.{rules}
use Rattle.message_writer.proofs.Puts.{parameters-laid}
use Rattle.message_writer.proofs.put_parameters.Statement.{statement}
use Rattle.message_writer.proofs.put_parameters.Tie as tie

pub put_parameters_spec : {M : Type 1} → statement M
put_parameters_spec =
    let answers = tie.spec
    (λ c. search rules) (λ c. search rules) (λ c. search rules) (λ c. search rules)
    (λ c. search rules) (λ c. search rules) (λ c. search rules) (λ c. search rules)
    (λ c. search rules) (λ c. search rules)
    (λ c. parameters-laid _ _ _ _ _ _ _ _ _ c.args.p _ c.mode_byte.ensures c.put_u32.ensures c.put_u16.ensures c.put_u16-2.ensures c.put_u8.ensures c.put_u8-2.ensures c.put_u16-3.ensures c.put_u32-2.ensures c.put_u16-4.ensures) in
    tie.close answers
