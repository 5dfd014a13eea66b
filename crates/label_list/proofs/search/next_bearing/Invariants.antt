-- None of the words passed bears the label.
use Rattle.std.proofs.Common.{◌≡◌}
use Rattle.label_list.specs.Find.{bears_label, next_of}
use Rattle.label_list.proofs.search.next_bearing.Given as goal

abbrev pub invariant-loop-at : goal.invariant-loop-at
invariant-loop-at l =
    next_of (bears_label l.label) l.words l.from ≡ next_of (bears_label l.label) l.words l.at
