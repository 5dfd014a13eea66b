use mathlib.Core.Path.{◌≡◌, refl, sym, ◌∙◌}
use Rattle.message.specs.Submission.{entry_in}
use Rattle.protocol.specs.Submit.{kind_rule}
use Rattle.protocol.specs.SubmitCases.{Fitting}
use Rattle.calls.specs.State.{state_of}
use Rattle.call_meaning.proofs.Calling.{found_refused}
use Rattle.submit.proofs.Answered.{barred_is, judged_is, judged-change, judged-room, fitting_is}
use Rattle.submit.proofs.Settling.{kind_refused, kind_done}
use Rattle.submit.proofs.submit_accepted.Goals as goal
use Rattle.submit.proofs.submit_accepted.Goals.{Start, After-judge-answer}

-- the length lies within its limits, and kept is 1
fitting : (c : Start) → Fitting (state_of c.args.image.now) c.args.msg.now
fitting c = fitting_is _ c.args.phase _ refl c.requires.1 c.requires.2 c.requires.3

-- nothing held bars the message, and its label with its entry or its Request was asked
judged : (c : After-judge-answer)
    → c.judge-answer.result
    ≡ kind_rule (state_of c.args.image.now) c.args.phase c.args.kind c.args.label (entry_in c.args.msg.now)
judged c =
    judged_is _ _ _ _ _ c.entry_of-entry.ensures c.accept_as-accepted.ensures.0 c.judge-answer.ensures
    c.is_barred.ensures c.if-is_barred.false

pub returns-then-is_barred : goal.returns-then-is_barred
returns-then-is_barred c =
    found_refused _ _ _ _ (barred_is _ _ _ _ _ c.is_barred.ensures c.if-is_barred.true) c.refuse.ensures refl

pub returns-then-not-is_done : goal.returns-then-not-is_done
returns-then-not-is_done c =
    let at = goal.at.returns-then-not-is_done c in
    kind_refused _ _ _ (fitting at.Start) c.requires.4 (judged at.After-judge-answer)
    (sym c.is_done.ensures ∙ c.if-not-is_done.true) c.refuse-then-not-is_done.ensures

pub queue_message-requires : goal.queue_message-requires
queue_message-requires c =
    let at = goal.at.queue_message-requires c in
    let done = sym c.is_done.ensures ∙ c.if-not-is_done.false in
    record {
      sound = c.requires.0;
      room = judged-room _ _ _ (fitting at.Start) c.requires.4 (judged at.After-judge-answer) done;
      low = c.requires.2;
      high = c.requires.3;
      accepted = c.requires.4;
      entry_read = c.entry_of-entry.ensures;
      change-made =
          judged-change _ c.args.phase _ _ (entry_in c.args.msg.now) c.entry_of-entry.ensures
          c.accept_as-accepted.ensures.0 c.judge-answer.ensures done c.accept_as-accepted.ensures.1;
    }

pub returns : goal.returns
returns c =
    let at = goal.at.returns c in
    kind_done _ _ _ (fitting at.Start) c.requires.4 (judged at.After-judge-answer)
    (sym c.is_done.ensures ∙ c.if-not-is_done.false) c.queue_message.ensures
