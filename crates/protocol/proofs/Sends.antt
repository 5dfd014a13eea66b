-- What Send next answers, and what it leaves of kept and of the store. Assumes nothing.
use Prim.Native.Nat.{◌<◌, ℕ}
use mathlib.Core.Bool.{Bool, false, true}
use mathlib.Core.Path.{◌≡◌, refl}
use lib.Dec.{leb, ltb}
use borrow.Author.Tests.{leb-false}
use Rattle.octets.specs.Pick.{pick}
use Rattle.octets.proofs.Choice.{no, pick_all}
use Rattle.protocol.specs.declared.Answer.{Answer}
use Rattle.protocol.specs.declared.Phase.{Phase}
use Rattle.protocol.specs.Answers.{is_done}
use Rattle.protocol.specs.Phases.{is_up_ft, issued_count, sent_of}
use Rattle.protocol.specs.Send.{numbered, place_sent, send_rule, sent_state}
use Rattle.protocol.specs.State.{State, held}
use Rattle.protocol.specs.Step.{where_open}
use Rattle.protocol.proofs.PassedOver.{next-held}

-- ---- an answer that is Done tells that a message is unsent
rule-done : (u l : Bool) (a : Answer) → is_done (where_open u (pick l Answer.NothingUnsent a)) ≡ true → (u ≡ true) × (l ≡ false)
rule-done true false a t = (refl, refl)
rule-done true true a t = no (cc)
rule-done false l a t = no (cc)

-- what is sent is held
pub record Sendable (now : State) (ph : Phase) : Type 0 where
  pub up : is_up_ft ph ≡ true
  pub some : sent_of ph < held now
  pub place : place_sent now ph < held now

pub sendable : (now : State) (ph : Phase) (a : Answer) → is_done (send_rule now ph a) ≡ true → Sendable now ph
unfolding send_rule place_sent
sendable now ph a t =
    let q = rule-done (is_up_ft ph) (leb (held now) (sent_of ph)) a t in
    let l : sent_of ph < held now = leb-false (held now) (sent_of ph) q.1 in
    record { up = q.0; some = l; place = next-held now (sent_of ph) l }

-- ---- no message leaves the store
pub sent_kept : (s : State) (sent : ℕ) → (sent_state s sent).kept ≡ s.kept
unfolding sent_state numbered
sent_kept s sent = pick_all (λ (t : State). t.kept ≡ s.kept) (ltb sent (issued_count s)) refl refl

pub sent_queue : (s : State) (sent : ℕ) → (sent_state s sent).queue ≡ s.queue
unfolding sent_state numbered
sent_queue s sent = pick_all (λ (t : State). t.queue ≡ s.queue) (ltb sent (issued_count s)) refl refl
