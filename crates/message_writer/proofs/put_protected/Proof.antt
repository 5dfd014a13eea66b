use native.Mathlib.Omega.{arith}
use borrow.Author.Rules.{rules}
use Rattle.message_writer.proofs.Puts.{protected_laid}
use Rattle.message_writer.proofs.put_protected.Statement.{statement}
use Rattle.message_writer.proofs.put_protected.Tie as tie

pub put_protected_spec : {M : Type 1} → statement M
put_protected_spec =
    let answers = tie.spec
    (λ c. search rules) (λ c. search rules) (λ c. search rules) (λ c. search rules)
    (λ c. search rules) (λ c. search rules) (λ c. search rules)
    (λ c. protected_laid _ c.args.m.now (omega arith) _ _ _ _ _ (omega arith) c.copy_to.ensures c.put_u16.ensures c.put_tlv.ensures) in
    tie.close answers
