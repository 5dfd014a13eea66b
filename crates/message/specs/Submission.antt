-- Submit's answers 4 and 5 as one judgement, and the entry of a submitted message's FEC.
-- 01: "4: malformed submission or PDU. 5: submitted kind not 1 to 6, FT TLV present, or kinds 1-3 without a label"; with 02's kinds, 1 to 9.
use Rattle.std.specs.Prelude.{Result, Ok, Err, Option, Some, None, ℕ, Bool, not, List, eqb}
use Rattle.octets.specs.Pick.{pick, both}
use Rattle.tlv.specs.declared.Found.{Found}
use Rattle.tlv.specs.Element.{entry_by}
use Rattle.message.specs.declared.Kind.{Kind}
use Rattle.message.specs.declared.Message.{Message}
use Rattle.message.specs.declared.SubmissionError.{SubmissionError}
use Rattle.message.specs.Kinds.{kind_of}
use Rattle.message.specs.Reading.{reading_of}

-- the numbers; a message that is accepted passes both
abbrev pub submission_number : Result (Kind × ℕ) SubmissionError → ℕ
submission_number (Err SubmissionError.Malformed) = 4
submission_number (Err SubmissionError.Refused) = 5
submission_number (Ok (kind, label)) = 0

-- an FT TLV is present: FT Session, FT Protection or FT ACK
unfoldable pub bears_ft : Found → Bool
bears_ft f = not (both (eqb f.session 0) (both (eqb f.protection 0) (eqb f.ack 0)))

-- "label of kinds 1 to 3, else 0xFFFFFFFF"
abbrev pub no_label : ℕ
no_label = 0xFFFFFFFF

abbrev pub labelled_as : Kind → Option ℕ → Result (Kind × ℕ) SubmissionError
labelled_as k None = Err SubmissionError.Refused
labelled_as k (Some l) = Ok (k, l)

abbrev pub submission_by_kind : Kind → Option ℕ → Result (Kind × ℕ) SubmissionError
submission_by_kind Kind.Mapping label = labelled_as Kind.Mapping label
submission_by_kind Kind.Withdraw label = labelled_as Kind.Withdraw label
submission_by_kind Kind.Release label = labelled_as Kind.Release label
submission_by_kind Kind.Address label = Ok (Kind.Address, no_label)
submission_by_kind Kind.AddressWithdraw label = Ok (Kind.AddressWithdraw, no_label)
submission_by_kind Kind.ResourcesAvailable label = Ok (Kind.ResourcesAvailable, no_label)
submission_by_kind (Kind.Request id) label = Ok (Kind.Request id, no_label)
submission_by_kind (Kind.Abort id) label = Ok (Kind.Abort id, no_label)
submission_by_kind Kind.NoResources label = Ok (Kind.NoResources, no_label)
submission_by_kind Kind.NoKind label = Err SubmissionError.Refused

abbrev pub submission_by_reading : Option Message → Result (Kind × ℕ) SubmissionError
submission_by_reading None = Err SubmissionError.Malformed
submission_by_reading (Some g) = pick (bears_ft g.found) (Err SubmissionError.Refused) (submission_by_kind (kind_of g) g.label)

unfoldable pub submission_of : List ℕ → Result (Kind × ℕ) SubmissionError
submission_of m = submission_by_reading (reading_of m)

-- 02: the entry of its FEC; a malformed message is answered 4, and has none
abbrev pub entry_by_reading : Option Message → ℕ
entry_by_reading None = 0
entry_by_reading (Some g) = entry_by g.fec

unfoldable pub entry_in : List ℕ → ℕ
entry_in m = entry_by_reading (reading_of m)
