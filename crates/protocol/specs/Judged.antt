-- Every call is judged, and its answer settled: what its tests answer, and what it does where they answer Done (`settles` in proofs/Settles.antt).
use Rattle.std.specs.Prelude.{ℕ}
use Rattle.message.specs.Reading.{reading_of}
use Rattle.protocol.specs.declared.Answer.{Answer}
use Rattle.protocol.specs.declared.Phase.{Phase}
use Rattle.protocol.specs.Begin.{format, restore}
use Rattle.protocol.specs.Calls.{Call, formats, restores, fails, opens, greets, passes, submits, sends, keeps-alive, receives}
use Rattle.protocol.specs.ConnectionFailed.{fail_rule, fail_deed}
use Rattle.protocol.specs.Init.{init_rule, init_deed}
use Rattle.protocol.specs.KeepAlive.{alive_bytes}
use Rattle.protocol.specs.Open.{open_bytes, awaiting}
use Rattle.protocol.specs.Phases.{may_open, is_up}
use Rattle.protocol.specs.Receive.{receive_rule, taken_as}
use Rattle.protocol.specs.Send.{send_rule, send_room, send_deed}
use Rattle.protocol.specs.State.{State}
use Rattle.protocol.specs.Step.{Step, admitted}
use Rattle.protocol.specs.Submit.{submit_rule, submit_deed}
use Rattle.protocol.specs.TimePassed.{time_rule, time_deed}
use Rattle.protocol.specs.Writer.{writer_rule, writer_deed}

-- what its tests answer; Format and Restore have none here, since theirs are of the image
unfoldable pub judged : Call → State → Phase → ℕ → Answer
judged formats s ph room = Answer.Done
judged restores s ph room = Answer.Done
judged fails s ph room = admitted s ph (fail_rule ph)
judged (opens id own proposal) s ph room = admitted s ph (writer_rule (may_open ph) (open_bytes s id own proposal) room)
judged (greets m) s ph room = admitted s ph (init_rule s ph m)
judged (passes elapsed) s ph room = admitted s ph (time_rule ph)
judged (submits m) s ph room = admitted s ph (submit_rule s ph m)
judged (sends ask) s ph room = admitted s ph (send_rule s ph (send_room s ph ask room))
judged (keeps-alive id) s ph room = admitted s ph (writer_rule (is_up ph) (alive_bytes s ph id) room)
judged (receives m) s ph room = admitted s ph (receive_rule s ph (reading_of m))

-- what it does where they answer Done
unfoldable pub done : Call → State → Phase → Step
done formats s ph = format
done restores s ph = restore s
done fails s ph = fail_deed s
done (opens id own proposal) s ph = writer_deed s (awaiting proposal) (open_bytes s id own proposal)
done (greets m) s ph = init_deed s ph m
done (passes elapsed) s ph = time_deed s ph elapsed
done (submits m) s ph = submit_deed s ph m
done (sends ask) s ph = send_deed s ph ask
done (keeps-alive id) s ph = writer_deed s ph (alive_bytes s ph id)
done (receives m) s ph = taken_as s ph (reading_of m)
