-- None of those passed is of that ID, so the rest decides.
use Rattle.std.proofs.Common.{◌≡◌, drop}
use Rattle.send.specs.Aborted.{is_among}
use Rattle.send.proofs.leaving_out.is_among.Given as goal

abbrev pub invariant-loop-aborted : goal.invariant-loop-aborted
invariant-loop-aborted l = is_among l.id l.ids ≡ is_among l.id (drop l.aborted-index l.ids)
