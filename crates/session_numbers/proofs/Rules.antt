-- The calls' own tests name no block. Assumes nothing.
use Rattle.std.specs.Prelude.{Result, Option}
use Prim.Native.Nat.{ℕ}
use mathlib.Core.Bool.{Bool, not}
use mathlib.Core.List.{List}
use lib.Dec.{leb, ltb}
use lib.ListN.{length}
use Rattle.octets.proofs.Choice.{pick_all}
use Rattle.message.specs.declared.Message.{Message}
use Rattle.message.specs.Reading.{reading_of}
use Rattle.protocol.specs.declared.Answer.{Answer}
use Rattle.protocol.specs.declared.Phase.{Phase}
use Rattle.protocol.specs.declared.Start.{Start}
use Rattle.protocol.specs.Calls.{Call, formats, restores, fails, opens, greets, passes, submits, sends, keeps-alive, receives, step}
use Rattle.protocol.specs.Cases.{Case, wrong_phase, malformed, an_init, fatal, ft_tlv, passed_on_plain, zero_number, wrong_ack, missing, wrong, out_of_turn, no_word, taken}
use Rattle.protocol.specs.Init.{start_answer}
use Rattle.protocol.specs.InitCases.{StartCase, unread, another_type, without-parameters, without_ack, without_session, peer_clear, ours_clear, parameters-changed, sequence_error, resumes}
use Rattle.protocol.specs.Judged.{judged}
use Rattle.protocol.specs.KeepAlive.{alive_bytes}
use Rattle.protocol.specs.Open.{open_bytes}
use Rattle.protocol.specs.Phases.{connected, waiting, may_open, awaits, is_up, is_up_ft, sent_of, proposal_of}
use Rattle.protocol.specs.Send.{send_bytes, send_rule, place_sent}
use Rattle.protocol.specs.State.{State, held}
use Rattle.protocol.specs.Step.{where_open, room_for}
use Rattle.protocol.specs.SubmitCases.{SubmitCase, not_kept, too_short, too_long, malformed_submission, not-sent, still-held, another_entry, code_forbids, stopped, outside, no_free_word, store-full, queues}
use Rattle.protocol.proofs.Cases.{cases}
use Rattle.protocol.proofs.InitCases.{start-cases}
use Rattle.protocol.proofs.Settles.{step_answer}
use Rattle.protocol.proofs.SubmitCases.{submit-cases}
use Rattle.session_numbers.proofs.Named.{Named, none, admitted_named}

room_named : (bytes : List ℕ) (room : ℕ) → Named (room_for bytes room)
room_named bytes room = pick_all Named (ltb room (length bytes)) none none

may_named : (may : Bool) (a : Answer) → Named a → Named (where_open may a)
may_named may a n = pick_all Named (not may) none n

send_named : (s : State) (ph : Phase) (a : Answer) → Named a → Named (send_rule s ph a)
unfolding send_rule
send_named s ph a n = may_named (is_up_ft ph) _ (pick_all Named (leb (held s) (sent_of ph)) none n)

submit_named : {s : State} {ph : Phase} {m : List ℕ} {a : Answer} → SubmitCase s ph m a → Named a
submit_named (not_kept k) = none
submit_named (too_short k l) = none
submit_named (too_long k l) = none
submit_named (malformed_submission f e) = none
submit_named (not-sent f e) = none
submit_named (still-held f e b) = none
submit_named (another_entry f e b o) = none
submit_named (code_forbids u e) = none
submit_named (stopped u e t o) = none
submit_named (outside u e t o p) = none
submit_named (no_free_word u y e) = none
submit_named (store-full u y e l) = none
submit_named (queues u y e l) = none

start_named : {s : State} {p : ℕ} {rd : Option Message} {st : Result Start Answer} → StartCase s p rd st → Named (start_answer st)
start_named unread = none
start_named (another_type i) = none
start_named (without-parameters i e) = none
start_named (without_ack i e a) = none
start_named (without_session i e) = none
start_named (peer_clear i e) = none
start_named (ours_clear i e a k) = none
start_named (parameters-changed b e) = none
start_named (sequence_error b e q) = none
start_named (resumes b e q) = none

receive_named : {s : State} {ph : Phase} {rd : Option Message} {a : Answer} → Case s ph rd a → Named a
receive_named (wrong_phase m) = none
receive_named (malformed m) = none
receive_named (an_init m i) = none
receive_named (fatal m i e) = none
receive_named (ft_tlv h e) = none
receive_named (passed_on_plain h e) = none
receive_named (zero_number h e) = none
receive_named (wrong_ack h z e) = none
receive_named (missing a e) = none
receive_named (wrong a e) = none
receive_named (out_of_turn p e) = none
receive_named (no_word t e) = none
receive_named (taken t) = none

judged_named : (c : Call) (s : State) (ph : Phase) (room : ℕ) → Named (judged c s ph room)
unfolding judged
judged_named formats s ph room = none
judged_named restores s ph room = none
judged_named fails s ph room = admitted_named s ph _ (may_named (connected ph) Answer.Done none)
judged_named (opens id own proposal) s ph room = admitted_named s ph _ (may_named (may_open ph) _ (room_named (open_bytes s id own proposal) room))
judged_named (greets m) s ph room = admitted_named s ph _ (may_named (awaits ph) _ (start_named (start-cases s (proposal_of ph) (reading_of m))))
judged_named (passes elapsed) s ph room = admitted_named s ph _ (may_named (waiting ph) Answer.Done none)
judged_named (submits m) s ph room = admitted_named s ph _ (submit_named (submit-cases s ph m))
judged_named (sends ask) s ph room = admitted_named s ph _ (send_named s ph _ (room_named (send_bytes s (place_sent s ph) ask) room))
judged_named (keeps-alive id) s ph room = admitted_named s ph _ (may_named (is_up ph) _ (room_named (alive_bytes s ph id) room))
judged_named (receives m) s ph room = admitted_named s ph _ (receive_named (cases s ph (reading_of m)))

pub step_named : (c : Call) (s : State) (ph : Phase) (room : ℕ) → Named (step c s ph room).answer
step_named c s ph room = rw (step_answer c s ph room) (judged_named c s ph room)
