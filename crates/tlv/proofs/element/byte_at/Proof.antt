use mathlib.Core.Path.{sym}
use native.Mathlib.Omega.{arith}
use lib.ListN.{get_or-eq_default}
use borrow.Author.Rules.{rules}
use Rattle.tlv.proofs.element.byte_at.Statement.{statement}
use Rattle.tlv.proofs.element.byte_at.Tie as tie

pub byte_at_spec : {M : Type 1} → statement M
byte_at_spec =
    let answers = tie.spec
    (λ c κs. search rules)
    (λ c. search rules)
    (λ c. search rules)
    (λ c. let a = c.args in (sym (get_or-eq_default a.value.now 0 c.if-at-value.false), omega arith)) in
    tie.close answers
