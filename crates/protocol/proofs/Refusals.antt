-- The calls whose refusals change nothing, but Submit. Assumes nothing.
use Prim.Native.Nat.{ℕ}
use mathlib.Core.Bool.{Bool, not}
use mathlib.Core.List.{List}
use mathlib.Core.Path.{refl}
use lib.Dec.{leb, ltb}
use lib.ListN.{length}
use Rattle.octets.proofs.Choice.{pick_all}
use Rattle.protocol.specs.declared.Answer.{Answer}
use Rattle.protocol.specs.declared.Phase.{Phase}
use Rattle.protocol.specs.Answers.{effect_of}
use Rattle.protocol.specs.Phases.{is_up_ft, sent_of}
use Rattle.protocol.specs.Send.{send_rule}
use Rattle.protocol.specs.State.{State, held}
use Rattle.protocol.specs.Step.{room_for, where_open}
use Rattle.protocol.proofs.Settling.{Harmless, done_harmless}

-- "9: output too short"
pub room_harmless : (bytes : List ℕ) (room : ℕ) → Harmless (room_for bytes room)
unfolding effect_of
room_harmless bytes room = pick_all Harmless (ltb room (length bytes)) (λ n. refl) done_harmless

-- "1: wrong phase"
pub may_harmless : (may : Bool) (a : Answer) → Harmless a → Harmless (where_open may a)
unfolding effect_of
may_harmless may a h = pick_all Harmless (not may) (λ n. refl) h

pub send_harmless : (s : State) (ph : Phase) (bytes : List ℕ) (room : ℕ) → Harmless (send_rule s ph (room_for bytes room))
unfolding send_rule effect_of
send_harmless s ph bytes room = may_harmless (is_up_ft ph) _ (pick_all Harmless (leb (held s) (sent_of ph)) (λ n. refl) (room_harmless bytes room))
