-- Time passed: "Time passed (Failed): releases, then Idle, if the timeout isn't zero and elapsed seconds are at least it; else nothing changes." Answer: 1.
-- 02: "Time passed counts milliseconds."
use Rattle.std.specs.Prelude.{ℕ, Bool, false, eqb, leb}
use Rattle.octets.specs.Pick.{pick}
use Rattle.protocol.specs.declared.Answer.{Answer}
use Rattle.protocol.specs.declared.Phase.{Phase}
use Rattle.protocol.specs.Phases.{waiting}
use Rattle.protocol.specs.State.{State}
use Rattle.protocol.specs.Step.{Step, admitted, released_with, settle, unchanged, where_open}

-- the agreed timeout has passed; a timeout of zero never does
unfoldable pub expired : State → ℕ → Bool
expired s elapsed = pick (eqb s.terms.timeout 0) false (leb s.terms.timeout elapsed)

abbrev pub time_rule : Phase → Answer
time_rule ph = where_open (waiting ph) Answer.Done

abbrev pub time_deed : State → Phase → ℕ → Step
time_deed s ph elapsed = pick (expired s elapsed) (released_with Answer.Done) (unchanged Answer.Done s ph)

unfoldable pub time_passed : State → Phase → ℕ → Step
time_passed s ph elapsed = settle (admitted s ph (time_rule ph)) s ph (time_deed s ph elapsed)
