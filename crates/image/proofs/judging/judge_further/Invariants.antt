-- The blocks passed are right, so the rest decides.
use Rattle.std.proofs.Common.{◌≡◌, ◌-◌}
use Rattle.image.specs.Sizes.{block_count, blocks_from, further}
use Rattle.image.specs.Verdict.{bytes_judged, first_fault}
use Rattle.image.proofs.judging.judge_further.Given as goal

abbrev pub invariant-loop-b : goal.invariant-loop-b
invariant-loop-b l =
    first_fault (bytes_judged l.version l.image) (blocks_from l.b (block_count - l.b)) ≡ first_fault (bytes_judged l.version l.image) further
