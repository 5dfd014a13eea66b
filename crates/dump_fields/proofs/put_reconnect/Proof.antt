-- `dump_fields::put_reconnect` meets its contract. Assumes nothing.
use borrow.Author.Rules.{rules}
use Rattle.text.proofs.Pieces.{put_then}
use Rattle.dump_fields.proofs.put_reconnect.Statement.{statement}
use Rattle.dump_fields.proofs.put_reconnect.Tie as tie

pub put_reconnect_spec : {M : Type 1} → statement M
put_reconnect_spec =
    let answers = tie.spec
    (λ c. search rules)
    (λ c. search rules)
    (λ c. search rules)
    (λ c. search rules)
    (λ c. rw (← c.bit_of.ensures) (put_then c.put_number-after.ensures.0 c.put_number.ensures.0, search rules)) in
    tie.close answers
