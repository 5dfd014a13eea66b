-- What a re-issue leaves out. 02, ticket 3: "Of ours only a numbered Request is left out, at every re-issue exactly if an Abort naming its message ID, queued after it,
-- is held too; it counts as sent with the next message." What this means place by place: `LeftOutAt` in MeaningSend.antt.
use Rattle.std.specs.Prelude.{Result, Ok, Err, ℕ, zero, suc, ◌+◌, ◌-◌, Bool, true, false, List, [], ◌∷◌, eqb, drop}
use Rattle.octets.specs.Pick.{pick}
use Rattle.ft_number.specs.declared.MessageId.{MessageId}
use Rattle.message.specs.declared.Kind.{Kind}
use Rattle.message.specs.declared.SubmissionError.{SubmissionError}
use Rattle.message.specs.Submission.{submission_of}
use Rattle.protocol.specs.Phases.{issued_count}
use Rattle.protocol.specs.State.{State}

-- the kind as which a message is held
abbrev pub kind_held : Result (Kind × ℕ) SubmissionError → Kind
kind_held (Err SubmissionError.Malformed) = Kind.NoKind
kind_held (Err SubmissionError.Refused) = Kind.NoKind
kind_held (Ok (kind, label)) = kind

-- "an Abort naming its message ID"
abbrev pub aborts_id : MessageId → Kind → Bool
aborts_id id Kind.Mapping = false
aborts_id id Kind.Withdraw = false
aborts_id id Kind.Release = false
aborts_id id Kind.Address = false
aborts_id id Kind.AddressWithdraw = false
aborts_id id Kind.ResourcesAvailable = false
aborts_id id (Kind.Request other) = false
aborts_id id (Kind.Abort named) = eqb named.0 id.0
aborts_id id Kind.NoResources = false
aborts_id id Kind.NoKind = false

-- one is among these
unfoldable pub is_aborted : MessageId → List (List ℕ) → Bool
is_aborted id [] = false
is_aborted id (m ∷ ms) = pick (aborts_id id (kind_held (submission_of m))) true (is_aborted id ms)

-- "only a .. Request is left out": a message of that kind, with these queued after it
abbrev pub undone_by : Kind → List (List ℕ) → Bool
undone_by Kind.Mapping ms = false
undone_by Kind.Withdraw ms = false
undone_by Kind.Release ms = false
undone_by Kind.Address ms = false
undone_by Kind.AddressWithdraw ms = false
undone_by Kind.ResourcesAvailable ms = false
undone_by (Kind.Request id) ms = is_aborted id ms
undone_by (Kind.Abort id) ms = false
undone_by Kind.NoResources ms = false
undone_by Kind.NoKind ms = false

-- the oldest of these is a Request whose Abort is behind it
abbrev pub is_undone : List (List ℕ) → Bool
is_undone [] = false
is_undone (m ∷ ms) = undone_by (kind_held (submission_of m)) ms

-- "only a numbered Request": of these messages the first n have a number; so many are left out before the first that is not
unfoldable pub passed_over : ℕ → List (List ℕ) → ℕ
passed_over zero ms = 0
passed_over (suc n) [] = 0
passed_over (suc n) (m ∷ ms) = pick (is_undone (m ∷ ms)) (suc (passed_over n ms)) 0

-- those not counted as sent on this connection
abbrev pub left_out_from : State → ℕ → ℕ
left_out_from s sent = passed_over (issued_count s - sent) (drop sent s.queue)

-- the place of the first message, not counted as sent, that is not left out
abbrev pub next_place : State → ℕ → ℕ
next_place s sent = sent + left_out_from s sent
