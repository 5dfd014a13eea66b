use mathlib.Core.Path.{refl}
use native.Mathlib.Omega.{arith}
use borrow.Author.Rules.{rules}
use Rattle.message_writer.proofs.Puts.{ack_laid}
use Rattle.message_writer.proofs.Room.{written-whole, written-short}
use Rattle.message_writer.proofs.write_keepalive.Statement.{statement}
use Rattle.message_writer.proofs.write_keepalive.Tie as tie

pub write_keepalive_spec : {M : Type 1} → statement M
write_keepalive_spec =
    let answers = tie.spec
    (λ c. search rules)
    (λ c. rw c.in-None.is (written-short _ _ 8 refl c.if-out-lt8.true))
    (λ c. search rules) (λ c. search rules)
    (λ c. rw c.in-Some.is (written-short _ _ 16 refl c.if-out-lt16.true))
    (λ c. search rules) (λ c. search rules) (λ c. search rules)
    (λ c. rw c.in-None.is (written-whole _ _ _ c.put_head.ensures (omega arith) 8 refl))
    (λ c. search rules)
    (λ c. rw c.in-Some.is (written-whole _ _ _ (ack_laid _ _ _ _ 8 _ c.put_head-in-Some.ensures c.put_tlv.ensures refl) (omega arith) 16 refl)) in
    tie.close answers
