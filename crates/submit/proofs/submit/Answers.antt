use Rattle.std.specs.Prelude.{Err}
use mathlib.Core.Path.{◌≡◌, refl, sym, ap, ◌∙◌}
use native.Mathlib.Omega.{arith}
use Rattle.message.specs.declared.SubmissionError.{SubmissionError}
use Rattle.calls.proofs.Settled.{Admitted, admit_passed, admitted-sound}
use Rattle.submit.proofs.Answered.{not_kept, too_short, too_long, fitting_is, submission_is}
use Rattle.submit.proofs.Settling.{admit_is, submit_refused, submit-judged}
use Rattle.submit.proofs.submit.Goals as goal
use Rattle.submit.proofs.submit.Goals.{Else-not-is_done}

-- past the first test the image is sound and allows the phase
admitted : (c : Else-not-is_done) → Admitted c.args.image.now c.args.phase
admitted c = admit_passed _ _ c.admit-a.ensures (sym c.is_done.ensures ∙ c.if-not-is_done.false)

pub returns-then-not-is_done : goal.returns-then-not-is_done
returns-then-not-is_done c =
    admit_is _ _ _ c.admit-a.ensures (sym c.is_done.ensures ∙ c.if-not-is_done.true) c.refuse.ensures

pub header_of-requires : goal.header_of-requires
header_of-requires c = (admitted-sound (admitted (goal.at.header_of-requires c).Else-not-is_done)).size

pub returns-then-header_of-ne1 : goal.returns-then-header_of-ne1
returns-then-header_of-ne1 c =
    let passed = (goal.at.returns-then-header_of-ne1 c).Else-not-is_done in
    submit_refused _ _ _ (admitted passed)
    (not_kept _ _ _ c.header_of.ensures (omega arith))
    c.refuse-then-header_of-ne1.ensures refl

pub returns-then-msg-lt-SHORTEST : goal.returns-then-msg-lt-SHORTEST
returns-then-msg-lt-SHORTEST c =
    let passed = (goal.at.returns-then-msg-lt-SHORTEST c).Else-not-is_done in
    submit_refused _ _ _ (admitted passed)
    (too_short _ _ _ c.header_of.ensures (omega arith) (omega arith))
    c.refuse-then-msg-lt-SHORTEST.ensures refl

pub returns-then-msg-gt-LONGEST : goal.returns-then-msg-gt-LONGEST
returns-then-msg-gt-LONGEST c =
    let passed = (goal.at.returns-then-msg-gt-LONGEST c).Else-not-is_done in
    submit_refused _ _ _ (admitted passed)
    (too_long _ _ _ c.header_of.ensures (omega arith) (omega arith) (omega arith))
    c.refuse-then-msg-gt-LONGEST.ensures refl

pub submit_accepted-requires : goal.submit_accepted-requires
submit_accepted-requires c =
    let kept : c.header_of.result.kept ≡ 1 = omega arith in (
      admitted-sound (admitted (goal.at.submit_accepted-requires c).Else-not-is_done),
      rw c.header_of.ensures at kept,
      omega arith,
      omega arith,
      sym c.judge_submission.ensures ∙ c.in-Ok.is,
    )

pub returns-in-Err-Malformed : goal.returns-in-Err-Malformed
returns-in-Err-Malformed c =
    let at = goal.at.returns-in-Err-Malformed c in
    let is = c.in-Err-Malformed.is ∙ ap (λ (e : SubmissionError). Err e) c.in-Err-Malformed.field-0-is in
    submit_refused _ _ _ (admitted at.Else-not-is_done)
    (submission_is _ (fitting_is _ c.args.phase _ c.header_of.ensures (omega arith) (omega arith) (omega arith)) c.judge_submission.ensures is)
    c.refuse-in-Err-Malformed.ensures refl

pub returns-in-Err-Refused : goal.returns-in-Err-Refused
returns-in-Err-Refused c =
    let at = goal.at.returns-in-Err-Refused c in
    let is = c.in-Err-Refused.is ∙ ap (λ (e : SubmissionError). Err e) c.in-Err-Refused.field-0-is in
    submit_refused _ _ _ (admitted at.Else-not-is_done)
    (submission_is _ (fitting_is _ c.args.phase _ c.header_of.ensures (omega arith) (omega arith) (omega arith)) c.judge_submission.ensures is)
    c.refuse-in-Err-Refused.ensures refl

pub returns-in-Ok : goal.returns-in-Ok
returns-in-Ok c =
    let at = goal.at.returns-in-Ok c in
    submit-judged _ _ _ (admitted at.Else-not-is_done)
    (submission_is _ (fitting_is _ c.args.phase _ c.header_of.ensures (omega arith) (omega arith) (omega arith)) c.judge_submission.ensures c.in-Ok.is)
    c.submit_accepted.ensures
