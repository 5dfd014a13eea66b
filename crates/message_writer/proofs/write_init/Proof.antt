use mathlib.Core.Path.{refl}
use native.Mathlib.Omega.{arith}
use borrow.Author.Rules.{rules}
use Rattle.message_writer.proofs.Puts.{end_least, end_most, no_ack_end, init-short, init-plain, init_numbered}
use Rattle.message_writer.proofs.write_init.Statement.{statement}
use Rattle.message_writer.proofs.write_init.Tie as tie

pub write_init_spec : {M : Type 1} → statement M
write_init_spec =
    let answers = tie.spec
    (λ c κs. search rules)
    (λ c. search rules)
    (λ c. init-short _ _ c.args.p c.args.timeout _ c.session_end-end.ensures c.args.ack _ (no_ack_end c.args.ack _ c.in-None.is) c.if-out-end.true)
    (λ c. omega (arith, c.session_end-end.ensures, end_least c.args.timeout))
    (λ c. omega (arith, c.session_end-end.ensures, end_most c.args.timeout))
    (λ c κs. search rules)
    (λ c. search rules)
    (λ c. omega (arith, c.session_end-end.ensures, end_most c.args.timeout))
    (λ c. init-short _ _ c.args.p c.args.timeout _ c.session_end-end.ensures c.args.ack _ (rw c.in-Some.is refl) c.if-out-end-2.true)
    (λ c. search rules)
    (λ c. omega (arith, c.session_end-end.ensures, end_most c.args.timeout))
    (λ c κs. search rules)
    (λ c κs. search rules)
    (λ c. search rules)
    (λ c. search rules)
    (λ c. init-plain _ _ c.args.p c.args.timeout _ c.session_end-end.ensures c.args.ack _ c.in-None.is (omega arith) c.put_init.ensures)
    (λ c. search rules)
    (λ c. init_numbered _ _ c.args.p c.args.timeout _ c.session_end-end.ensures c.args.ack c.in-Some.a _ _ c.in-Some.is (omega arith) c.put_init-in-Some.ensures c.put_tlv.ensures) in
    tie.close answers
