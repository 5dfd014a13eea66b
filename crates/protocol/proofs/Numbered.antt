-- The numbers that lower crates give to their verdicts are those of the answers that the rules make of them. Assumes nothing.
use Rattle.std.specs.Prelude.{Result, Err, Option, Some, None}
use Prim.Native.Nat.{ℕ}
use mathlib.Core.Bool.{Bool, true, false}
use mathlib.Core.List.{List}
use mathlib.Core.Path.{◌≡◌, refl}
use lib.Dec.{ltb}
use lib.ListN.{length}
use Rattle.octets.specs.Laid.{laid}
use Rattle.octets.specs.Pick.{pick}
use Rattle.ft_number.specs.declared.TurnError.{TurnError}
use Rattle.ft_number.specs.Ack.{ack_number}
use Rattle.label_list.specs.declared.Protection.{Protection}
use Rattle.label_events.specs.declared.Acceptance.{Acceptance}
use Rattle.label_events.specs.declared.Reception.{Reception}
use Rattle.label_events.specs.Accept.{acceptance_number}
use Rattle.label_events.specs.Protect.{protection_number}
use Rattle.label_events.specs.Receive.{reception_number}
use Rattle.message.specs.declared.Kind.{Kind}
use Rattle.message.specs.declared.Message.{Message}
use Rattle.message.specs.declared.SubmissionError.{SubmissionError}
use Rattle.message.specs.Submission.{submission_number}
use Rattle.message_writer.specs.Written.{written_number, written_of}
use Rattle.protocol.specs.declared.Answer.{Answer}
use Rattle.protocol.specs.declared.Phase.{Phase}
use Rattle.protocol.specs.declared.Terms.{Terms}
use Rattle.protocol.specs.Answers.{answer_number}
use Rattle.protocol.specs.Init.{resumed_by, start_answer}
use Rattle.protocol.specs.Receive.{ack_rule, reception_rule, protected_rule}
use Rattle.protocol.specs.State.{State, Table}
use Rattle.protocol.specs.Step.{room_for}
use Rattle.protocol.specs.Submit.{acceptance_rule, submission_rule}
use Rattle.protocol.specs.SubmitCases.{MayAsk}

-- 6, and 13 where 14 and 15 are passed; what is taken goes on to the test of the room
pub acceptance_numbered : (s : State) (ph : Phase) (kind : Kind) → (answer_number (acceptance_rule s ph kind Acceptance.NotAllowed) ≡ acceptance_number Acceptance.NotAllowed)
    × (MayAsk s ph kind → answer_number (acceptance_rule s ph kind Acceptance.NoRoom) ≡ acceptance_number Acceptance.NoRoom)
acceptance_numbered s ph kind = (refl, λ may. rw (may.going, may.up))

-- 4 and 5; what is accepted goes on to its kind and label
pub submission_numbered : (s : State) (ph : Phase) (entry : ℕ) → (answer_number (submission_rule s ph (Err SubmissionError.Malformed) entry) ≡ submission_number (Err SubmissionError.Malformed))
    × (answer_number (submission_rule s ph (Err SubmissionError.Refused) entry) ≡ submission_number (Err SubmissionError.Refused))
submission_numbered s ph entry = (refl, refl)

-- 34, of an Init and of any other message; what is right goes on
pub ack_numbered : (t : Terms) (a : ℕ) (x : Option ℕ) → answer_number (start_answer (resumed_by t a x)) ≡ ack_number x
ack_numbered t a (Some k) = refl
ack_numbered t a None = refl

pub ack_error_numbered : (s : State) (resumed : Bool) (g : Message) → answer_number (ack_rule s resumed g None) ≡ ack_number None
ack_error_numbered s resumed g = refl

-- 9
pub room-numbered : (out bytes : List ℕ) → answer_number (room_for bytes (length out)) ≡ written_number (written_of out bytes).0
unfolding written_of
room-numbered out bytes = by (ltb (length out) (length bytes))
  where
    by : (b : Bool) → answer_number (pick b Answer.OutputTooShort Answer.Done) ≡ written_number (pick {X = (Option ℕ) × List ℕ} b (None, out) (Some (length bytes), laid out 0 bytes)).0
    by true = refl
    by false = refl

-- 21
pub reception_numbered : (r : Reception) → answer_number (reception_rule r) ≡ reception_number r
reception_numbered Reception.Taken = refl
reception_numbered Reception.NoRoom = refl

-- 32 and 33; what is right goes on to the number's turn
pub protection_numbered : (old : List ℕ) (t : Table) (turn : Result ℕ TurnError) (g : Message) → (answer_number (protected_rule old t turn g Protection.Wrong) ≡ protection_number Protection.Wrong)
    × (answer_number (protected_rule old t turn g Protection.Missing) ≡ protection_number Protection.Missing)
protection_numbered old t s g = (refl, refl)
