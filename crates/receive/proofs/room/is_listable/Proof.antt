use native.Mathlib.Omega.{arith}
use Rattle.label_list.proofs.Standing.{within_above, within_below, within_in}
use Rattle.receive.proofs.room.is_listable.Statement.{statement}
use Rattle.receive.proofs.room.is_listable.Tie as tie

pub is_listable_spec : {M : Type 1} → statement M
is_listable_spec =
    let answers = tie.spec
    (λ c. within_below _ _ _ c.if-label-lt-FIRST_LABEL.true)
    (λ c. within_above _ _ _ c.if-label-lt-FIRST_LABEL.false (omega arith))
    (λ c. within_in _ _ _ c.if-label-lt-FIRST_LABEL.false (omega arith)) in
    tie.close answers
