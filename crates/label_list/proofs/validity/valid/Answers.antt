use Rattle.std.proofs.Common.{refl, sym, ◌∙◌, arith}
use Rattle.label_list.proofs.Checked.{checked_end, checked_all, checked_known, checked_bad, checked-more}
use Rattle.label_list.proofs.validity.valid.Goals as goal

pub loop-i-init : goal.loop-i-init
loop-i-init c = checked_end _ refl

pub mark_word-requires : goal.mark_word-requires
mark_word-requires c = checked_known _ _ c.loop-i.invariant (omega arith)

pub returns-then-not-mark_word : goal.returns-then-not-mark_word
returns-then-not-mark_word c =
    checked_bad _ _ c.loop-i.invariant (omega arith) (sym c.if-not-mark_word.true ∙ c.mark_word.ensures.0)

pub loop-i-preserved : goal.loop-i-preserved
loop-i-preserved c =
    let good = c.if-not-mark_word.false in
    checked-more _ _ c.loop-i.invariant (omega arith) (sym good ∙ c.mark_word.ensures.0) (c.mark_word.ensures.1 good)

pub returns : goal.returns
returns c = checked_all _ _ c.loop-i.invariant (omega arith)
