-- Connection failed: "Connection failed (InitWait, UpFT, UpPlain): code 6 words are freed; Failed if kept, else Idle." Answer: 1.
use Rattle.protocol.specs.declared.Answer.{Answer}
use Rattle.protocol.specs.declared.Phase.{Phase}
use Rattle.protocol.specs.Phases.{connected}
use Rattle.protocol.specs.State.{State}
use Rattle.protocol.specs.Step.{Step, admitted, failed_with, settle, where_open}

abbrev pub fail_rule : Phase → Answer
fail_rule ph = where_open (connected ph) Answer.Done

abbrev pub fail_deed : State → Step
fail_deed s = failed_with Answer.Done s

unfoldable pub connection_failed : State → Phase → Step
connection_failed s ph = settle (admitted s ph (fail_rule ph)) s ph (fail_deed s)
