-- What is left to be written makes up the whole.
use Rattle.std.proofs.Common.{◌+◌, ◌-◌, ◌*◌, ◌≡◌, drop, length}
use Rattle.octets.specs.Laid.{laid}
use Rattle.block.specs.Run.{word_bytes}
use Rattle.block.proofs.words.store_words.Given as goal

abbrev pub invariant-loop-i : goal.invariant-loop-i
invariant-loop-i l =
    laid l.initial.s l.at (word_bytes (length l.words) l.words)
    ≡ laid l.s (l.at + l.i * 4) (word_bytes (length l.words - l.i) (drop l.i l.words))
