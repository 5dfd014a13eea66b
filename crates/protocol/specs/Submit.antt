-- Submit: "Submit is open while kept is 1 and queues the message." Answers: 1, 3, 4, 5, 6, 14, 15, 13, 7.
use Rattle.std.specs.Prelude.{Result, Ok, Err, ℕ, not, List, [], ◌∷◌, ◌++◌, leb, ltb, length}
use Rattle.octets.specs.Pick.{pick, both}
use Rattle.label_events.specs.declared.Acceptance.{Acceptance}
use Rattle.message.specs.declared.Kind.{Kind}
use Rattle.message.specs.declared.SubmissionError.{SubmissionError}
use Rattle.message.specs.Storable.{longest, shortest}
use Rattle.message.specs.Submission.{submission_of, entry_in}
use Rattle.protocol.specs.declared.Answer.{Answer}
use Rattle.protocol.specs.declared.Phase.{Phase}
use Rattle.protocol.specs.Accepting.{accepted_as, asks, ids_accepted, is_barred, stop_after, changes_entry, index_accepted}
use Rattle.protocol.specs.Phases.{is_up_ft}
use Rattle.protocol.specs.State.{Marks, State, Table, capacity, held, table_of, with_marks, with_queue, with_table}
use Rattle.protocol.specs.Step.{Step, admitted, settle, stepped, where_open}

-- "7: 64 held"
abbrev pub room_rule : State → Answer
room_rule s = pick (leb capacity (held s)) Answer.StoreFull Answer.Done

-- 02: "14, Requests stopped, after 6; 15, a Request outside UpFT, after 14": of a Request alone; only then 13 and 7, which say `a`
abbrev pub ask_rule : State → Phase → Kind → Answer → Answer
ask_rule s ph kind a =
    pick (both (asks kind) s.marks.stopped) Answer.RequestsStopped
    (pick (both (asks kind) (not (is_up_ft ph))) Answer.RequestOutsideUpFt a)

-- "6: label code doesn't allow it, label below 16", 02: "also for an ID already open or an Abort of none"; "13: Mapping that needs a word,
-- none free", 02: "also for a Request"
abbrev pub acceptance_rule : State → Phase → Kind → Acceptance → Answer
acceptance_rule s ph kind Acceptance.Taken = ask_rule s ph kind (room_rule s)
acceptance_rule s ph kind Acceptance.NotAllowed = Answer.LabelNotAllowed
acceptance_rule s ph kind Acceptance.NoRoom = ask_rule s ph kind Answer.NoLabelWord

-- "6: .. or same label's Withdraw/Release of that kind still held"; 02: "6 for submitting such a Mapping", whose FEC has another entry
unfoldable pub kind_rule : State → Phase → Kind → ℕ → ℕ → Answer
kind_rule s ph kind label entry =
    pick (is_barred s.queue kind label) Answer.LabelNotAllowed
    (pick (changes_entry s.table kind label entry) Answer.LabelNotAllowed (acceptance_rule s ph kind (accepted_as s.table kind label).0))

-- "4: malformed submission"; "5: submitted kind not 1 to 6, FT TLV present, or kinds 1-3 without a label"
abbrev pub submission_rule : State → Phase → Result (Kind × ℕ) SubmissionError → ℕ → Answer
submission_rule s ph (Err SubmissionError.Malformed) entry = Answer.Malformed
submission_rule s ph (Err SubmissionError.Refused) entry = Answer.KindNotSent
submission_rule s ph (Ok (kind, label)) entry = kind_rule s ph kind label entry

-- "1: .. submit with kept 0"; "3: submitted length outside 8 to 480"
unfoldable pub submit_rule : State → Phase → List ℕ → Answer
submit_rule s ph m =
    where_open s.kept
    (pick (ltb (length m) shortest) Answer.LengthOutOfRange
    (pick (ltb longest (length m)) Answer.LengthOutOfRange
    (submission_rule s ph (submission_of m) (entry_in m))))

-- the label words, the IDs and the index once the message is accepted for sending
abbrev pub accepted_labels : Table → Result (Kind × ℕ) SubmissionError → List ℕ
accepted_labels t (Err SubmissionError.Malformed) = t.words
accepted_labels t (Err SubmissionError.Refused) = t.words
accepted_labels t (Ok (kind, label)) = (accepted_as t kind label).1

abbrev pub accepted_ids : Table → Result (Kind × ℕ) SubmissionError → List ℕ
accepted_ids t (Err SubmissionError.Malformed) = t.ids
accepted_ids t (Err SubmissionError.Refused) = t.ids
accepted_ids t (Ok (kind, label)) = ids_accepted t kind

abbrev pub accepted_index : Table → Result (Kind × ℕ) SubmissionError → ℕ → List ℕ
accepted_index t (Err SubmissionError.Malformed) entry = t.index
accepted_index t (Err SubmissionError.Refused) entry = t.index
accepted_index t (Ok (kind, label)) entry = index_accepted t kind label entry

abbrev pub accepted_table : Table → Result (Kind × ℕ) SubmissionError → ℕ → Table
accepted_table t j entry = table_of (accepted_labels t j) (accepted_ids t j) (accepted_index t j entry)

-- 02: "4 from accepting kind 9 until kind 6"
abbrev pub accepted_marks : Marks → Result (Kind × ℕ) SubmissionError → Marks
accepted_marks m (Err SubmissionError.Malformed) = m
accepted_marks m (Err SubmissionError.Refused) = m
accepted_marks m (Ok (kind, label)) = record { stopped = m.stopped; stopping = stop_after m.stopping kind }

-- the state with the message queued as the newest; it is pended: it has no number yet
unfoldable pub submitted : State → List ℕ → State
submitted s m =
    with_queue
    (with_marks (with_table s (accepted_table s.table (submission_of m) (entry_in m))) (accepted_marks s.marks (submission_of m)))
    (s.queue ++ (m ∷ []))

abbrev pub submit_deed : State → Phase → List ℕ → Step
submit_deed s ph m = stepped Answer.Done (submitted s m) ph []

unfoldable pub submit : State → Phase → List ℕ → Step
submit s ph m = settle (admitted s ph (submit_rule s ph m)) s ph (submit_deed s ph m)
