-- The words passed, from the last on, are valid, and are marked.
use Rattle.label_list.proofs.Checked.{Checked}
use Rattle.label_list.proofs.validity.valid.Given as goal

abbrev pub invariant-loop-i : goal.invariant-loop-i
invariant-loop-i l = Checked l.words l.marks l.i
