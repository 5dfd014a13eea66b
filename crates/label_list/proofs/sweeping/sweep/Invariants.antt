-- The words passed are rewritten.
use Rattle.octets.proofs.Map.{Mapped}
use Rattle.label_list.specs.Sweep.{word_swept}
use Rattle.label_list.proofs.sweeping.sweep.Given as goal

abbrev pub invariant-loop-word : goal.invariant-loop-word
invariant-loop-word l = Mapped (word_swept l.rule) l.initial.words l.words l.word-index
