-- What each message passed aborts is in its place.
use Rattle.std.proofs.Common.{ℕ, ◌+◌, ◌≡◌, ◌<◌, [], None, get_or}
use Rattle.message.specs.Submission.{submission_of}
use Rattle.image.specs.State.{decode}
use Rattle.protocol.specs.LeftOut.{kind_held}
use Rattle.send.specs.Aborted.{aborted_id}
use Rattle.send.proofs.leaving_out.collect_aborted.Given as goal

abbrev pub invariant-loop-i : goal.invariant-loop-i
invariant-loop-i l =
    (k : ℕ) → k < l.i
    → get_or l.ids k None ≡ aborted_id (kind_held (submission_of (get_or (decode l.image).queue (l.from + k) [])))
