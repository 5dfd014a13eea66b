-- Submit on an image: the protocol's step, and the message goes into the slot behind the newest held, a Request's ID
-- into block 65, the entry of a Mapping that takes a word into block 66 or 67.
use Rattle.std.specs.Prelude.{Result, Ok, Err, ℕ, List, []}
use Rattle.message.specs.declared.Kind.{Kind}
use Rattle.message.specs.declared.SubmissionError.{SubmissionError}
use Rattle.message.specs.Submission.{entry_in, submission_of}
use Rattle.protocol.specs.declared.Answer.{Answer}
use Rattle.protocol.specs.declared.Phase.{Phase}
use Rattle.protocol.specs.State.{Table}
use Rattle.protocol.specs.Step.{stepped}
use Rattle.protocol.specs.Submit.{submit, submitted}
use Rattle.calls.specs.Outcomes.{After, call_of, step_stored}
use Rattle.calls.specs.State.{state_of}
use Rattle.calls.specs.Storing.{Further, same, one_more}
use Rattle.submit.specs.Change.{accepted_further}

abbrev pub further_left : Table → Result (Kind × ℕ) SubmissionError → ℕ → Further
further_left t (Err SubmissionError.Malformed) entry = same
further_left t (Err SubmissionError.Refused) entry = same
further_left t (Ok (kind, label)) entry = accepted_further t kind label entry

-- what becomes of the further blocks with a message that is taken
abbrev pub submitted_further : Table → List ℕ → Further
submitted_further t m = further_left t (submission_of m) (entry_in m)

unfoldable pub submit_of : List ℕ → Phase → List ℕ → After
submit_of im ph m = call_of im ph [] (one_more m) (submitted_further (state_of im).table m) (submit (state_of im) ph m)

-- what Done leaves
unfoldable pub queued : List ℕ → Phase → List ℕ → After
queued im ph m =
    step_stored im (one_more m) (submitted_further (state_of im).table m) (stepped Answer.Done (submitted (state_of im) m) ph []) []
