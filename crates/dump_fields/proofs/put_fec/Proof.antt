-- `dump_fields::put_fec` meets its contract. Assumes nothing.
use native.Mathlib.Omega.{arith}
use borrow.Author.Rules.{rules}
use Rattle.text.proofs.Pieces.{put_none}
use Rattle.dump_fields.proofs.put_fec.Statement.{statement}
use Rattle.dump_fields.proofs.put_fec.Tie as tie

pub put_fec_spec : {M : Type 1} → statement M
put_fec_spec =
    let answers = tie.spec
    (λ c. search rules)
    (λ c. search rules)
    (λ c. search rules)
    (λ c. rw c.in-None.is (put_none _ _, omega arith))
    (λ c. search rules)
    (λ c. rw c.in-Some.is (c.put_bytes.ensures.0, search rules)) in
    tie.close answers
