-- What Send next leaves out, and what the peer left out before a message that is received, of an image that stands. Assumes nothing.
use Rattle.std.specs.Prelude.{Some}
use Prim.Native.Nat.{ℕ, ◌≤◌, ◌<◌}
use mathlib.Core.Bool.{Bool, false}
use mathlib.Core.List.{List}
use mathlib.Core.Path.{◌≡◌, refl, sym, ap, ◌∙◌}
use lib.ListN.{length}
use Rattle.octets.specs.Bytes.{Bytes}
use Rattle.message.specs.declared.Message.{Message}
use Rattle.message.specs.Reading.{reading_of}
use Rattle.message.proofs.Widths.{read_widths}
use Rattle.protocol.specs.declared.Answer.{Answer}
use Rattle.protocol.specs.declared.Phase.{Phase}
use Rattle.protocol.specs.declared.Progress.{Progress}
use Rattle.protocol.specs.Calls.{Call, sends, receives, step}
use Rattle.protocol.specs.Judged.{done}
use Rattle.protocol.specs.MeaningReceive.{SecuresFrom}
use Rattle.protocol.specs.MeaningSend.{AllSent, SentFrom}
use Rattle.protocol.specs.Proper.{Proper}
use Rattle.protocol.specs.Send.{place_sent, send_bytes}
use Rattle.protocol.specs.State.{held}
use Rattle.protocol.specs.Step.{Step}
use Rattle.protocol.proofs.MeaningReceive.{receive-secures}
use Rattle.protocol.proofs.MeaningSend.{send-leaves}
use Rattle.protocol.proofs.Settles.{ends}
use Rattle.protocol.proofs.Unresumed.{all_sent, none_left_out}
use Rattle.calls.specs.State.{state_of}
use Rattle.call_meaning.specs.Seen.{seen}
use Rattle.call_meaning.specs.Standing.{Standing}
use Rattle.call_meaning.proofs.Putting.{lawful_image}
use Rattle.session.specs.Call.{leaves}
use Rattle.session.proofs.Refines.{refines}

-- ---- on a connection that is not resumed all that has a number was sent on it, and no call changes that
pub all_sent_stays : (im : List ℕ) (ph : Phase) → Standing im ph → (out : List ℕ) (c : Call) → Proper c ph → AllSent (state_of im) ph
    → AllSent (state_of (leaves c im ph out).image) (leaves c im ph out).outcome.phase
all_sent_stays im ph st out c p all =
    let law = lawful_image im st.sound st.range in
    let same : seen (leaves c im ph out) ≡ step c (state_of im) ph (length out) = refines im ph st out c p in
    rw (← same) at (all_sent c (state_of im) ph (length out) p law st.fits all)

module _ (im : List ℕ) (u : Progress) (st : Standing im (Phase.UpFT u)) where
  -- so nothing is left out on it
  pub leaves_out_none : (ask : Bool) (out : List ℕ) → u.resumed ≡ false → AllSent (state_of im) (Phase.UpFT u) → (leaves (sends ask) im (Phase.UpFT u) out).outcome.leftout ≡ 0
  unfolding done
  leaves_out_none ask out un all =
      ap (λ (x : Step). x.leftout) (refines im (Phase.UpFT u) st out (sends ask) tt)
      ∙ ends (sends ask) (state_of im) (Phase.UpFT u) (length out) (λ (x : Step). x.leftout ≡ 0)
      (λ e. refl) (λ e. refl) (λ e. refl) (λ e. none_left_out (state_of im) (Phase.UpFT u) all refl un)

  -- ---- a message unsent and enough room: the first that is not left out is sent, and those before it count as sent with it
  pub sends_first : (ask : Bool) (out : List ℕ) → u.sent < held (state_of im) → length (send_bytes (state_of im) (place_sent (state_of im) (Phase.UpFT u)) ask) ≤ length out
      → SentFrom (state_of im) u (place_sent (state_of im) (Phase.UpFT u)) ask (seen (leaves (sends ask) im (Phase.UpFT u) out))
  unfolding step
  sends_first ask out some room = rw (refines im (Phase.UpFT u) st out (sends ask) tt) (send-leaves (state_of im) u st.fits ask (length out) some room)

  -- ---- a message received that is taken: its number is in turn after S, and the outcome says how many were left out before it
  pub secures-next : (m out : List ℕ) → Bytes m → (g : Message) → reading_of m ≡ Some g → (leaves (receives m) im (Phase.UpFT u) out).outcome.answer ≡ Answer.Done
      → SecuresFrom (state_of im) u.resumed g (seen (leaves (receives m) im (Phase.UpFT u) out))
  unfolding step
  secures-next m out byte g read d =
      let law = lawful_image im st.sound st.range in
      let same = refines im (Phase.UpFT u) st out (receives m) byte in
      rw same (receive-secures (state_of im) u m st.fits (sym (ap (λ (x : Step). x.answer) same) ∙ d) g read law.secured (read_widths m byte g read).protection)
