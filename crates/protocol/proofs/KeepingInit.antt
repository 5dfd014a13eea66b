-- The peer's Init: the numbers of the start that it leads to have their widths, and the state that it leads to is lawful. Assumes nothing.
use Rattle.std.specs.Prelude.{Option, Some, Result}
use Prim.Native.Nat.{ℕ, ◌<◌}
use mathlib.Core.Bool.{Bool, true, false}
use mathlib.Core.List.{List}
use mathlib.Core.Path.{◌≡◌, refl}
use native.Mathlib.Omega.{arith}
use Rattle.octets.specs.Bytes.{Bytes}
use Rattle.ft_number.specs.declared.Timeout.{Timeout}
use Rattle.ft_number.specs.Timeout.{millis_of}
use Rattle.ft_number.proofs.Timeouts.{lesser_below, millis_fits}
use Rattle.message.specs.declared.Message.{Message}
use Rattle.message.specs.Reading.{reading_of}
use Rattle.message.proofs.Widths.{Widths, read_widths}
use Rattle.protocol.specs.declared.Answer.{Answer}
use Rattle.protocol.specs.declared.Phase.{Phase}
use Rattle.protocol.specs.declared.Start.{Start}
use Rattle.protocol.specs.declared.Terms.{Terms}
use Rattle.protocol.specs.Acked.{acked}
use Rattle.protocol.specs.Init.{terms_of, fresh, resumed, start_state, start_phase, init_start}
use Rattle.protocol.specs.InitCases.{InitWith, StartCase, unread, another_type, without-parameters, without_ack, without_session, peer_clear, ours_clear, parameters-changed, sequence_error, resumes}
use Rattle.protocol.specs.Lawful.{TermsFit, Lawful}
use Rattle.protocol.specs.Phases.{phase_fits, proposal_of, up_with}
use Rattle.protocol.specs.State.{State}
use Rattle.protocol.proofs.InitCases.{start-cases}
use Rattle.protocol.proofs.KeepingPhases.{fits_up}
use Rattle.protocol.proofs.KeepingStates.{lawful_released, lawful_fresh, lawful_resumed}

terms_width : (p : ℕ) → p < 4294967296 → {g : Message} → Widths g → {r : Bool} {ka mp : ℕ} {n : Timeout} → InitWith g ka mp → g.session ≡ Some (record { reconnect = r; timeout = n }) → TermsFit (terms_of p n ka mp)
terms_width p l {g} w {r} {ka} {mp} {n} i e = record {
  timeout = lesser_below p (millis_of n) 4294967296 l (millis_fits n (w.session r n e));
  keepalive = (w.parameters ka mp i.parameters).0;
  maxpdu = (w.parameters ka mp i.parameters).1;
}

fresh_stands : (t : Terms) → TermsFit t → Lawful (fresh t) × (phase_fits (up_with false 0) (fresh t) ≡ true)
unfolding fresh
fresh_stands t f = (lawful_fresh t f, fits_up (fresh t) false 0 refl (omega arith))

module _ (s : State) (ph : Phase) (law : Lawful s) (fits : phase_fits ph s ≡ true) {p : ℕ} (l : p < 4294967296) where
  pub start_lawful : {rd : Option Message} {st : Result Start Answer} → ((g : Message) → rd ≡ Some g → Widths g) → StartCase s p rd st
      → Lawful (start_state s st) × (phase_fits (start_phase ph st) (start_state s st) ≡ true)
  unfolding phase_fits fresh resumed acked
  start_lawful w unread = (law, fits)
  start_lawful w (another_type i) = (law, fits)
  start_lawful w (without-parameters i q) = (law, fits)
  start_lawful w (without_ack i e q) = (law, fits)
  start_lawful w (without_session i e) = (lawful_released, refl)
  start_lawful w (peer_clear {g} {ka} {mp} {peers} i e) = fresh_stands (terms_of p peers ka mp) (terms_width p l (w g refl) i e)
  start_lawful w (ours_clear {g} {ka} {mp} {peers} i e q k) = fresh_stands (terms_of p peers ka mp) (terms_width p l (w g refl) i e)
  start_lawful w (parameters-changed b d) = (law, fits)
  start_lawful w (sequence_error b e q) = (law, fits)
  start_lawful w (resumes {g} {ka} {mp} {k} {peers} {a} b e q) =
      let t = terms_width p l (w g refl) b.init b.session in (
        lawful_resumed s law b.kept (terms_of p peers ka mp) k a.0 t.timeout ((w g refl).ack a b.ack) q,
        fits_up (resumed s (terms_of p peers ka mp) k a.0) true 0 b.kept (omega arith),
      )

pub greeted_lawful : (s : State) (ph : Phase) (m : List ℕ) → Lawful s → phase_fits ph s ≡ true → Bytes m → proposal_of ph < 4294967296
    → Lawful (start_state s (init_start s ph m)) × (phase_fits (start_phase ph (init_start s ph m)) (start_state s (init_start s ph m)) ≡ true)
greeted_lawful s ph m law fits byte l = start_lawful s ph law fits l (read_widths m byte) (start-cases s (proposal_of ph) (reading_of m))
