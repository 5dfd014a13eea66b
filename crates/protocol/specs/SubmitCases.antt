-- A submission case by case: what it is, and the answer. `submit-cases` in proofs/SubmitCases.antt says that the judgement is this list.
-- 01: "Submit: 12, 1, 3, 4, 5, 6, 13, 7."; with 02: 12, 1, 3, 4, 5, 6, 14, 15, 13, 7.
use Rattle.std.specs.Prelude.{Ok, Err, ℕ, ◌≤◌, ◌<◌, true, false, not, List, ◌≢◌, ◌≡◌, length}
use Rattle.octets.specs.Pick.{both}
use Rattle.label_events.specs.declared.Acceptance.{Acceptance}
use Rattle.message.specs.declared.Kind.{Kind}
use Rattle.message.specs.declared.SubmissionError.{SubmissionError}
use Rattle.message.specs.Storable.{shortest, longest, Storable}
use Rattle.message.specs.Submission.{submission_of, entry_in}
use Rattle.protocol.specs.declared.Answer.{Answer}
use Rattle.protocol.specs.declared.Phase.{Phase}
use Rattle.protocol.specs.Accepting.{accepted_as, asks, is_barred, changes_entry}
use Rattle.protocol.specs.Phases.{is_up_ft, phase_fits}
use Rattle.protocol.specs.State.{State, capacity, held}

-- 1 and 3 are passed: kept is 1, and the length lies within 8 to 480
pub record Fitting (s : State) (m : List ℕ) : Type 0 where
  pub kept : s.kept ≡ true
  pub low : shortest ≤ length m
  pub high : length m ≤ longest

-- 4 and 5 are passed too, and nothing held bars the message
pub record Unbarred (s : State) (m : List ℕ) (kind : Kind) (label : ℕ) : Type 0 where
  pub fitting : Fitting s m
  pub accepted : submission_of m ≡ Ok (kind, label)
  pub free : is_barred s.queue kind label ≡ false
  pub same : changes_entry s.table kind label (entry_in m) ≡ false

-- 14 and 15 are passed: every kind but a Request passes, and a Request in UpFT, unless Requests are stopped
pub record MayAsk (s : State) (ph : Phase) (kind : Kind) : Type 0 where
  pub going : both (asks kind) s.marks.stopped ≡ false
  pub up : both (asks kind) (not (is_up_ft ph)) ≡ false

pub data SubmitCase (s : State) (ph : Phase) (m : List ℕ) : Answer → Type 0 where
  -- "1: .. submit with kept 0"
  not_kept : s.kept ≡ false → SubmitCase s ph m Answer.WrongPhase
  -- "3: submitted length outside 8 to 480"
  too_short : s.kept ≡ true → length m < shortest → SubmitCase s ph m Answer.LengthOutOfRange
  too_long : s.kept ≡ true → longest < length m → SubmitCase s ph m Answer.LengthOutOfRange
  -- "4: malformed submission"
  malformed_submission : Fitting s m → submission_of m ≡ Err SubmissionError.Malformed → SubmitCase s ph m Answer.Malformed
  -- "5: submitted kind not 1 to 6, FT TLV present, or kinds 1-3 without a label"
  not-sent : Fitting s m → submission_of m ≡ Err SubmissionError.Refused → SubmitCase s ph m Answer.KindNotSent
  -- "6: .. same label's Withdraw/Release of that kind still held"; "label code doesn't allow it, label below 16"; 02: "6 also for an ID already open or an Abort of none"
  still-held : {kind : Kind} {label : ℕ} → Fitting s m → submission_of m ≡ Ok (kind, label) → is_barred s.queue kind label ≡ true
      → SubmitCase s ph m Answer.LabelNotAllowed
  -- 02: "6 for submitting such a Mapping"
  another_entry : {kind : Kind} {label : ℕ} → Fitting s m → submission_of m ≡ Ok (kind, label) → is_barred s.queue kind label ≡ false
      → changes_entry s.table kind label (entry_in m) ≡ true → SubmitCase s ph m Answer.LabelNotAllowed
  code_forbids : {kind : Kind} {label : ℕ} → Unbarred s m kind label → (accepted_as s.table kind label).0 ≡ Acceptance.NotAllowed
      → SubmitCase s ph m Answer.LabelNotAllowed
  -- 02: "14, Requests stopped, after 6": of a Request, whether a word is free or not
  stopped : {kind : Kind} {label : ℕ} → Unbarred s m kind label → (accepted_as s.table kind label).0 ≢ Acceptance.NotAllowed → asks kind ≡ true
      → s.marks.stopped ≡ true → SubmitCase s ph m Answer.RequestsStopped
  -- 02: "15, a Request outside UpFT, after 14"
  outside : {kind : Kind} {label : ℕ} → Unbarred s m kind label → (accepted_as s.table kind label).0 ≢ Acceptance.NotAllowed → asks kind ≡ true
      → s.marks.stopped ≡ false → is_up_ft ph ≡ false → SubmitCase s ph m Answer.RequestOutsideUpFt
  -- "13: Mapping that needs a word, none free", 02: "13 also for a Request"
  no_free_word : {kind : Kind} {label : ℕ} → Unbarred s m kind label → MayAsk s ph kind → (accepted_as s.table kind label).0 ≡ Acceptance.NoRoom
      → SubmitCase s ph m Answer.NoLabelWord
  -- "7: 64 held"
  store-full : {kind : Kind} {label : ℕ} → Unbarred s m kind label → MayAsk s ph kind → (accepted_as s.table kind label).0 ≡ Acceptance.Taken → capacity ≤ held s
      → SubmitCase s ph m Answer.StoreFull
  queues : {kind : Kind} {label : ℕ} → Unbarred s m kind label → MayAsk s ph kind → (accepted_as s.table kind label).0 ≡ Acceptance.Taken → held s < capacity
      → SubmitCase s ph m Answer.Done

-- every test of Submit but the last, 7
pub record Passes (s : State) (ph : Phase) (m : List ℕ) : Type 0 where
  -- 1
  pub fits : phase_fits ph s ≡ true
  pub kept : s.kept ≡ true
  -- 3, 4 and 5
  pub storable : Storable m
  -- 6 and 13: nothing held bars the message, and its label's code or the open Requests allow it
  pub free : is_barred s.queue storable.kind storable.label ≡ false
  pub same : changes_entry s.table storable.kind storable.label (entry_in m) ≡ false
  pub allowed : (accepted_as s.table storable.kind storable.label).0 ≡ Acceptance.Taken
  -- 14 and 15
  pub may : MayAsk s ph storable.kind
