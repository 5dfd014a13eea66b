use Rattle.std.specs.Prelude.{Some, None}
use mathlib.Core.Path.{refl}
use native.Mathlib.Omega.{arith}
use borrow.Author.Rules.{rules}
use Rattle.message_writer.proofs.Puts.{protected_short, protected_whole, protected_plain, protected_acked}
use Rattle.message_writer.proofs.write_protected.Statement.{statement}
use Rattle.message_writer.proofs.write_protected.Tie as tie

pub write_protected_spec : {M : Type 1} → statement M
write_protected_spec =
    let answers = tie.spec
    (λ c. search rules) (λ c. search rules)
    (λ c. rw c.in-None.is (protected_short _ c.args.m.now (omega arith) _ None _ refl c.if-out-end.true))
    (λ c. search rules) (λ c. search rules) (λ c. search rules)
    (λ c. rw c.in-Some.is (protected_short _ c.args.m.now (omega arith) _ (Some _) _ refl c.if-out-end-2.true))
    (λ c. search rules) (λ c. search rules) (λ c. search rules) (λ c. search rules)
    (λ c. rw c.in-None.is (protected_whole _ c.args.m.now (omega arith) _ None _ _ refl c.if-out-end.false (protected_plain _ c.args.m.now (omega arith) _ _ c.put_protected.ensures)))
    (λ c. search rules)
    (λ c. rw c.in-Some.is (protected_whole _ c.args.m.now (omega arith) _ (Some _) _ _ refl c.if-out-end-2.false (protected_acked _ c.args.m.now (omega arith) _ _ _ _ c.put_protected-in-Some.ensures c.put_tlv.ensures))) in
    tie.close answers
