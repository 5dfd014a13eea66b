-- Send next leaves a lawful state, in a phase that it allows. Assumes nothing.
use Prim.Native.Nat.{ℕ, ◌+◌, ◌<◌}
use mathlib.Core.Bool.{Bool, true}
use mathlib.Core.Path.{◌≡◌}
use native.Mathlib.Omega.{arith}
use lib.Dec.{ltb}
use borrow.Author.Tests.{ltb-true}
use Rattle.octets.proofs.Choice.{by_test, no}
use Rattle.protocol.specs.declared.Phase.{Phase}
use Rattle.protocol.specs.Lawful.{Lawful}
use Rattle.protocol.specs.Phases.{phase_fits, is_up_ft, issued_count, up_with}
use Rattle.protocol.specs.Send.{numbered, sent_state}
use Rattle.protocol.specs.State.{State, held}
use Rattle.protocol.proofs.KeepingNumbers.{numbered_issued}
use Rattle.protocol.proofs.KeepingPhases.{LawfulIn, fits_up, up_fits}
use Rattle.protocol.proofs.KeepingStates.{lawful_numbered}

pub kept_up : (ph : Phase) (s : State) → is_up_ft ph ≡ true → phase_fits ph s ≡ true → s.kept ≡ true
kept_up Phase.Idle s u f = no (cc)
kept_up (Phase.InitWait v) s u f = no (cc)
kept_up (Phase.UpFT v) s u f = (up_fits s v f).0
kept_up Phase.UpPlain s u f = no (cc)
kept_up Phase.Failed s u f = no (cc)

pub sent_stands : (s : State) (resumed : Bool) (place : ℕ) → Lawful s → s.kept ≡ true → place < held s → LawfulIn (sent_state s place) (up_with resumed (place + 1))
unfolding sent_state numbered
sent_stands s resumed place law kept l =
    by_test (ltb place (issued_count s))
    (λ t. rw t (law, fits_up s resumed (place + 1) kept (omega (arith, ltb-true place (issued_count s) t))))
    (λ n. rw n (lawful_numbered s law place l, fits_up (numbered s place) resumed (place + 1) kept (omega (arith, numbered_issued s law.released place (omega (arith, law.few))))))
