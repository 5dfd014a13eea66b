-- The agreed timeout that an image stores: it stays over every call but an Init that is taken, which stores the lesser of both, and a release. Assumes nothing.
use Rattle.std.specs.Prelude.{Some}
use Prim.Native.Nat.{ℕ}
use mathlib.Core.Bool.{Bool}
use mathlib.Core.List.{List}
use mathlib.Core.Path.{◌≡◌, sym, ap, ◌∙◌}
use lib.ListN.{length}
use Rattle.ft_number.specs.declared.Timeout.{Timeout}
use Rattle.ft_number.specs.Timeout.{lesser_of, millis_of}
use Rattle.message.specs.declared.Message.{Message}
use Rattle.message.specs.Reading.{reading_of}
use Rattle.protocol.specs.declared.Answer.{Answer}
use Rattle.protocol.specs.declared.Phase.{Phase}
use Rattle.protocol.specs.Calls.{Call, greets, step}
use Rattle.protocol.specs.Init.{init_received}
use Rattle.protocol.specs.MeaningTimeout.{TimeoutFrom}
use Rattle.protocol.specs.Phases.{proposal_of}
use Rattle.protocol.specs.Proper.{Proper}
use Rattle.protocol.specs.Step.{Step}
use Rattle.protocol.proofs.MeaningTimeout.{init_agrees, timeout_from}
use Rattle.calls.specs.State.{state_of}
use Rattle.call_meaning.specs.Seen.{seen}
use Rattle.call_meaning.specs.Standing.{Standing}
use Rattle.session.specs.Call.{leaves}
use Rattle.session.proofs.Refines.{refines}

module _ (im : List ℕ) (ph : Phase) (st : Standing im ph) (out : List ℕ) where
  -- of a sound image and of what the call makes of it
  pub timeout_stored : (c : Call) → Proper c ph → TimeoutFrom (state_of im) ph c (seen (leaves c im ph out))
  timeout_stored c p = rw (refines im ph st out c p) (timeout_from (state_of im) ph c (length out))

  -- an Init with FT Session that is answered Done stores the lesser of our proposal, which the phase bears, and the peer's
  pub agreed-stored : (m : List ℕ) → Proper (greets m) ph → {g : Message} {r : Bool} {n : Timeout} → reading_of m ≡ Some g → g.session ≡ Some (record { reconnect = r; timeout = n })
      → (seen (leaves (greets m) im ph out)).answer ≡ Answer.Done → (seen (leaves (greets m) im ph out)).state.terms.timeout ≡ lesser_of (proposal_of ph) (millis_of n)
  unfolding step
  agreed-stored m p read e d =
      let same : seen (leaves (greets m) im ph out) ≡ init_received (state_of im) ph m = refines im ph st out (greets m) p in
      ap (λ (x : Step). x.state.terms.timeout) same ∙ init_agrees (state_of im) ph m read e (sym (ap (λ (x : Step). x.answer) same) ∙ d)
