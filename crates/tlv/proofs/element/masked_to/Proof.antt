use Prim.Native.Nat.{◌-◌}
use native.Mathlib.Nat.{lt_of_le_of_lt}
use native.Mathlib.Omega.{arith}
use borrow.Author.Rules.{rules}
use Rattle.tlv.specs.Element.{masked_to}
use Rattle.tlv.proofs.Elements.{masked_le, masked_exact}
use Rattle.tlv.proofs.element.masked_to.Statement.{statement}
use Rattle.tlv.proofs.element.masked_to.Tie as tie

pub masked_to_spec : {M : Type 1} → statement M
unfolding masked_to
masked_to_spec =
    let answers = tie.spec
    (λ c. search rules)
    (λ c. search rules)
    (λ c. search rules)
    (λ c. search rules)
    (λ c. search rules)
    (λ c.
    let a = c.args in
    let k = 32 - a.length in
    let e = masked_exact k a.bits (omega arith) (omega arith) in
    record { fits = rw e (lt_of_le_of_lt (masked_le k a.bits) (omega arith)) })
    (λ c. let a = c.args in masked_exact (32 - a.length) a.bits (omega arith) (omega arith)) in
    tie.close answers
