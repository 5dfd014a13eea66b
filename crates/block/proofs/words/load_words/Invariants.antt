-- Each word passed is in its place.
use Rattle.std.proofs.Common.{ℕ, ◌+◌, ◌*◌, ◌≡◌, ◌<◌, get_or}
use Rattle.octets.specs.Be.{be_at}
use Rattle.block.proofs.words.load_words.Given as goal

abbrev pub invariant-loop-i : goal.invariant-loop-i
invariant-loop-i l = (k : ℕ) → k < l.i → get_or l.words k 0 ≡ be_at 4 l.s (l.at + k * 4)
