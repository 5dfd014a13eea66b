use Rattle.std.proofs.Common.{sym, ◌∙◌}
use Rattle.block0.proofs.Coded.{none_coded, some_coded}
use Rattle.block0.proofs.has_code.Goals as goal

pub returns-then-not-all_zero : goal.returns-then-not-all_zero
returns-then-not-all_zero c =
    c.any_has_code.ensures ∙ some_coded _ _ _ c.labels_at-start.ensures.0 c.word_count.ensures.0

pub returns-else-not-all_zero : goal.returns-else-not-all_zero
returns-else-not-all_zero c =
    let free = c.if-not-all_zero.false in
    rw free (none_coded _ _ _ c.labels_at-start.ensures.0 c.requires.1 (sym c.all_zero.ensures ∙ free))
