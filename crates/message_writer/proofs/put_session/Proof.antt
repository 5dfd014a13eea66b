use native.Mathlib.Omega.{arith}
use borrow.Author.Rules.{rules}
use Rattle.message_writer.proofs.Puts.{flag_small}
use Rattle.message_writer.proofs.put_session.Statement.{statement}
use Rattle.message_writer.proofs.put_session.Tie as tie

pub put_session_spec : {M : Type 1} → statement M
put_session_spec =
    let answers = tie.spec
    (λ c κs. search rules)
    (λ c. search rules)
    (λ c κs. rw c.in-Seconds.is at c.requires)
    (λ c. search rules)
    (λ c. omega (arith, c.reconnect_flag-flags.ensures, flag_small c.args.ack))
    (λ c κs. rw c.in-Milliseconds.is at c.requires)
    (λ c. search rules)
    (λ c. rw (c.in-Seconds.is, ← c.reconnect_flag-flags.ensures) c.put_draft.ensures)
    (λ c. search rules)
    (λ c. rw (c.in-Milliseconds.is, ← c.reconnect_flag-flags.ensures) c.put_published.ensures) in
    tie.close answers
