-- `dump::line::put_reading` meets its contract. Assumes nothing.
use native.Mathlib.Omega.{arith}
use borrow.Author.Rules.{rules}
use Rattle.dump.proofs.Parts.{read_within}
use Rattle.dump.proofs.line.put_reading.Statement.{statement}
use Rattle.dump.proofs.line.put_reading.Tie as tie

pub put_reading_spec : {M : Type 1} → statement M
put_reading_spec =
    let answers = tie.spec
    (λ c. search rules)
    (λ c. search rules)
    (λ c. search rules)
    (λ c. search rules)
    (λ c. λ κs. (read_within _ _ _ c.read_message.ensures c.in-Some.is, omega (arith, c.requires)))
    (λ c. search rules)
    (λ c. rw (← c.read_message.ensures, c.in-None.is) (c.put_text.ensures, omega (arith, c.put_text.ensures.ends)))
    (λ c. search rules)
    (λ c. rw (← c.read_message.ensures, c.in-Some.is) c.put_fields.ensures) in
    tie.close answers
