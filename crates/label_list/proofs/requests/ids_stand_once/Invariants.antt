-- The words passed, from the last on, have no ID twice, and are marked.
use Rattle.label_list.proofs.Once.{Passed}
use Rattle.label_list.proofs.requests.ids_stand_once.Given as goal

abbrev pub invariant-loop-i : goal.invariant-loop-i
invariant-loop-i l = Passed l.words l.ids l.marks l.i
