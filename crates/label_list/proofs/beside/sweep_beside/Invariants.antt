-- The words passed are rewritten.
use Rattle.label_list.specs.Beside.{word_beside}
use Rattle.label_list.proofs.Besides.{BesideMapped}
use Rattle.label_list.proofs.beside.sweep_beside.Given as goal

abbrev pub invariant-loop-i : goal.invariant-loop-i
invariant-loop-i l = BesideMapped (word_beside l.rule l.entry) l.initial.words l.entries l.words l.i
