use Rattle.std.proofs.Common.{refl, sym, ◌∙◌, arith}
use borrow.Author.Tests.{eq-eqb, ne_eqb}
use Rattle.label_list.specs.Find.{bears_label}
use Rattle.label_list.proofs.Sought.{next_more, next_found, next_end}
use Rattle.label_list.proofs.search.next_bearing.Goals as goal

pub loop-at-init : goal.loop-at-init
loop-at-init c = refl

pub returns-then-words-at : goal.returns-then-words-at
unfolding bears_label
returns-then-words-at c =
    sym (c.loop-at.invariant ∙ next_found _ _ _ (omega arith) (eq-eqb _ _ c.if-words-at.true))

pub loop-at-preserved : goal.loop-at-preserved
unfolding bears_label
loop-at-preserved c =
    c.loop-at.invariant ∙ next_more _ _ _ (omega arith) (ne_eqb _ _ c.if-words-at.false)

pub returns : goal.returns
returns c = sym (c.loop-at.invariant ∙ next_end _ _ _ (omega arith))
