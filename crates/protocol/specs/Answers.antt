-- 01, "What each answer does": the number of each answer, its values, and what it leaves.
use Rattle.std.specs.Prelude.{ℕ, Bool, eqb, ltb}
use Rattle.octets.specs.Pick.{pick}
use Rattle.protocol.specs.declared.Answer.{Answer}
use Rattle.protocol.specs.declared.Effect.{Effect}

-- the number in the table
abbrev pub answer_number : Answer → ℕ
answer_number Answer.Done = 0
answer_number Answer.WrongPhase = 1
answer_number Answer.ZeroDistance = 2
answer_number Answer.LengthOutOfRange = 3
answer_number Answer.Malformed = 4
answer_number Answer.KindNotSent = 5
answer_number Answer.LabelNotAllowed = 6
answer_number Answer.StoreFull = 7
answer_number Answer.NothingUnsent = 8
answer_number Answer.OutputTooShort = 9
answer_number (Answer.BadBlock b) = 10
answer_number (Answer.BadField b) = 11
answer_number Answer.WrongSize = 12
answer_number Answer.NoLabelWord = 13
answer_number Answer.RequestsStopped = 14
answer_number Answer.RequestOutsideUpFt = 15
answer_number Answer.OutOfTurn = 20
answer_number Answer.NoWordForMapping = 21
answer_number Answer.MalformedReceived = 22
answer_number Answer.BadInit = 23
answer_number Answer.ZeroNumber = 30
answer_number Answer.FtTlvInPlain = 31
answer_number Answer.ProtectionWrong = 32
answer_number Answer.ProtectionMissing = 33
answer_number Answer.AckSequenceError = 34
answer_number Answer.ParametersChanged = 35
answer_number Answer.StatusFatal = 36

-- "10: bad block, with its number. 11: bad field, with block number"; no other answer bears a value, and has 0 here
abbrev pub answer_block : Answer → ℕ
answer_block Answer.Done = 0
answer_block Answer.WrongPhase = 0
answer_block Answer.ZeroDistance = 0
answer_block Answer.LengthOutOfRange = 0
answer_block Answer.Malformed = 0
answer_block Answer.KindNotSent = 0
answer_block Answer.LabelNotAllowed = 0
answer_block Answer.StoreFull = 0
answer_block Answer.NothingUnsent = 0
answer_block Answer.OutputTooShort = 0
answer_block (Answer.BadBlock b) = b
answer_block (Answer.BadField b) = b
answer_block Answer.WrongSize = 0
answer_block Answer.NoLabelWord = 0
answer_block Answer.RequestsStopped = 0
answer_block Answer.RequestOutsideUpFt = 0
answer_block Answer.OutOfTurn = 0
answer_block Answer.NoWordForMapping = 0
answer_block Answer.MalformedReceived = 0
answer_block Answer.BadInit = 0
answer_block Answer.ZeroNumber = 0
answer_block Answer.FtTlvInPlain = 0
answer_block Answer.ProtectionWrong = 0
answer_block Answer.ProtectionMissing = 0
answer_block Answer.AckSequenceError = 0
answer_block Answer.ParametersChanged = 0
answer_block Answer.StatusFatal = 0

-- "Afterwards": 1 to 13 nothing, and so 02's 14 and 15; 20 to 23 as connection failed, ACK unapplied; 30 to 36 released, Idle
abbrev pub effect_by : ℕ → Effect
effect_by n = pick (eqb n 0) Effect.Act (pick (ltb n 20) Effect.Nothing (pick (ltb n 30) Effect.Fail Effect.Release))

unfoldable pub effect_of : Answer → Effect
effect_of a = effect_by (answer_number a)

abbrev pub is_done : Answer → Bool
is_done a = eqb (answer_number a) 0
