-- `dump_fields::put_timeout` meets its contract. Assumes nothing.
use borrow.Author.Rules.{rules}
use Rattle.dump_fields.proofs.put_timeout.Statement.{statement}
use Rattle.dump_fields.proofs.put_timeout.Tie as tie

pub put_timeout_spec : {M : Type 1} → statement M
put_timeout_spec =
    let answers = tie.spec
    (λ c. search rules)
    (λ c. search rules)
    (λ c. search rules)
    (λ c. search rules)
    (λ c. search rules)
    (λ c. search rules)
    (λ c. search rules)
    (λ c. rw c.in-Seconds.is (c.put_reconnect.ensures.0, search rules))
    (λ c. search rules)
    (λ c. rw c.in-Milliseconds.is (c.put_reconnect-in-Milliseconds.ensures.0, search rules)) in
    tie.close answers
