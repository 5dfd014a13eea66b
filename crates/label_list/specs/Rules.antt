-- What each event makes of a label's code. Code 0 stands for a label that is absent. Codes: 1 given, 2 withdrawing, 3 using, 4 asked back, 5 releasing, 6 using without protection;
-- 02: 8 withdrawn and the ACK has come, 9 withdrawn and the Release has come.
use Rattle.std.specs.Prelude.{Option, Some, None, ℕ, Bool, true, false, eqb, leb}
use Rattle.octets.specs.Pick.{pick}
use Rattle.label_list.specs.declared.LabelMessage.{LabelMessage}
use Rattle.label_list.specs.declared.LabelMessage.TheVariants.{Mapping, Withdraw, Release}
use Rattle.label_list.specs.declared.Side.{Side}
use Rattle.label_list.specs.declared.Side.TheVariants.{Given, Used}
use Rattle.label_list.specs.declared.SweepRule.{SweepRule}
use Rattle.label_list.specs.declared.SweepRule.TheVariants.{WithdrawAll, ReleaseAll, AfterBreak}
use Rattle.label_list.specs.Word.{without_protection}

-- the side of the label in a message that we send, and in one that we receive
unfoldable pub sent_side : LabelMessage → Side
sent_side Mapping = Given
sent_side Withdraw = Given
sent_side Release = Used

unfoldable pub received_side : LabelMessage → Side
received_side Mapping = Used
received_side Withdraw = Used
received_side Release = Given

-- 01: "Accepted for sending: Mapping, absent or 1, becomes 1; Withdraw, 1 becomes 2; Release, 3 becomes 5, 4 becomes free." Any other code does not allow the message:
-- a label that is withdrawn is offered again only when both its Release and the ACK have come.
unfoldable pub code_accepted : LabelMessage → ℕ → Option ℕ
code_accepted Mapping code = pick (leb code 1) (Some 1) None
code_accepted Withdraw code = pick (eqb code 1) (Some 2) None
code_accepted Release code = pick (eqb code 3) (Some 5) (pick (eqb code 4) (Some 0) None)

-- 01: "Released by ACK: Withdraw 2 becomes free; Release 5 becomes free; other codes stay."
-- 02: "Free a withdrawn label at the second of Release and ACK. Codes 8 (the ACK) and 9 (the Release) say which one has come": 2 becomes 8, 9 becomes free.
unfoldable pub code_acked : LabelMessage → ℕ → ℕ
code_acked Mapping code = code
code_acked Withdraw code = pick (eqb code 2) 8 (pick (eqb code 9) 0 code)
code_acked Release code = pick (eqb code 5) 0 code

-- 01: "Received: Mapping protected, absent or 3 or 5 becomes 3, 4 stays; unprotected, absent becomes 6, 6 stays.
-- Withdraw: 3 becomes 4; 4, 5 stay; 6 becomes free. Release: 1, 2 become free." The Bool: whether the message is protected.
-- 02: "Free a withdrawn label at the second of Release and ACK. .. A Release at code 1 still frees it": 1 becomes free, 2 becomes 9, 8 becomes free.
unfoldable pub code_received : LabelMessage → Bool → ℕ → ℕ
code_received Mapping true code = pick (eqb code 0) 3 (pick (eqb code 5) 3 code)
code_received Mapping false code = pick (eqb code 0) without_protection code
code_received Withdraw protected code = pick (eqb code 3) 4 (pick (eqb code without_protection) 0 code)
code_received Release protected code = pick (eqb code 1) 0 (pick (eqb code 2) 9 (pick (eqb code 8) 0 code))

-- 01: "Withdraw or Release of the wildcard FEC .. acts on every label"; "Connection failed ..: code 6 words are freed"
unfoldable pub code_swept : SweepRule → ℕ → ℕ
code_swept WithdrawAll code = code_received Withdraw true code
code_swept ReleaseAll code = code_received Release true code
code_swept AfterBreak code = pick (eqb code without_protection) 0 code
