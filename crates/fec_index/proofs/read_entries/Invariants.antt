-- Each entry passed is in its place.
use Rattle.std.proofs.Common.{ℕ, ◌≡◌, ◌<◌, get_or}
use Rattle.fec_index.specs.Entries.{entries_of}
use Rattle.fec_index.proofs.read_entries.Given as goal

abbrev pub invariant-loop-i : goal.invariant-loop-i
invariant-loop-i l = (k : ℕ) → k < l.i → get_or l.entries k 0 ≡ get_or (entries_of l.block) k 0
