-- `dump_fields::put_status` meets its contract. Assumes nothing.
use native.Mathlib.Omega.{arith}
use borrow.Author.Rules.{rules}
use Rattle.octets.specs.Laid.{laid}
use Rattle.text.proofs.Pieces.{put_none}
use Rattle.dump_fields.proofs.put_status.Statement.{statement}
use Rattle.dump_fields.proofs.put_status.Tie as tie

pub put_status_spec : {M : Type 1} → statement M
unfolding laid
put_status_spec =
    let answers = tie.spec
    (λ c. search rules)
    (λ c. search rules)
    (λ c. search rules)
    (λ c. search rules)
    (λ c. search rules)
    (λ c. search rules)
    (λ c. rw c.in-None.is (put_none _ _, omega arith))
    (λ c. search rules)
    (λ c. rw c.in-Some.is (rw c.put_u32.ensures at c.put_bytes.ensures.0, search rules)) in
    tie.close answers
