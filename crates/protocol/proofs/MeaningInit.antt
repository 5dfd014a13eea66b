-- What the peer's Init leaves: the terms that were agreed, the state and the phase of the start, and which answers release. Assumes nothing.
use Rattle.std.specs.Prelude.{Option, Some, Result}
use Prim.Native.Nat.{ℕ, ◌≤◌}
use mathlib.Core.Bool.{Bool, true, not}
use mathlib.Core.List.{List, []}
use mathlib.Core.Path.{◌≡◌, refl}
use native.Mathlib.Omega.{arith}
use Rattle.octets.proofs.Choice.{pick_all}
use Rattle.ft_number.specs.declared.FtNumber.{FtNumber}
use Rattle.ft_number.specs.declared.Timeout.{Timeout}
use Rattle.ft_number.specs.Timeout.{millis_of}
use Rattle.ft_number.proofs.Timeouts.{lesser_zero}
use Rattle.message.specs.declared.Message.{Message}
use Rattle.message.specs.Reading.{reading_of}
use Rattle.protocol.specs.declared.Answer.{Answer}
use Rattle.protocol.specs.declared.Phase.{Phase}
use Rattle.protocol.specs.declared.Start.{Start}
use Rattle.protocol.specs.declared.Terms.{Terms}
use Rattle.protocol.specs.Acked.{acked}
use Rattle.protocol.specs.Answers.{answer_number, is_done}
use Rattle.protocol.specs.Init.{terms_of, start_of, start_answer, start_state, start_phase, fresh, resumed, init_start, init_received}
use Rattle.protocol.specs.InitCases.{InitWith, Reconnects, StartCase, unread, another_type, without-parameters, without_ack, without_session, peer_clear, ours_clear, parameters-changed, sequence_error, resumes}
use Rattle.protocol.specs.MeaningInit.{BothR, BearsTerms, Agreed, BegunFrom, ResumedFrom}
use Rattle.protocol.specs.Phases.{phase_fits, awaits, proposal_of}
use Rattle.protocol.specs.State.{State, no_marks, no_number, no_table}
use Rattle.protocol.specs.Step.{admitted, stepped, where_open}
use Rattle.protocol.proofs.Answered.{init_says}
use Rattle.protocol.proofs.Effects.{done_is}
use Rattle.protocol.proofs.InitCases.{start-cases}
use Rattle.protocol.proofs.Settling.{admitted-does}

-- ---- the states
-- "fresh UpFT, kept 1, peer's parameters stored": exactly that, whatever was there
pub fresh-leaves : (t : Terms) → fresh t
    ≡ record { released = no_number; issued = no_number; secured = no_number; kept = true; terms = t; marks = no_marks; table = no_table; queue = [] }
unfolding fresh
fresh-leaves t = refl

-- a resumed session holds what the ACK did not release
pub resumed-leaves : (s : State) (t : Terms) (k a : ℕ) → ResumedFrom s t k a (resumed s t k a)
unfolding resumed acked
resumed-leaves s t k a = record {
  released = refl;
  issued = refl;
  secured = refl;
  kept = refl;
  timeout = refl;
  keepalive = refl;
  maxpdu = refl;
  labels = refl;
  ids = refl;
  marks = refl;
  queue = refl;
}

-- ---- "35 and 34 arise only with both R set"
both_of : {s : State} {g : Message} {ka mp : ℕ} {n : Timeout} {a : FtNumber} → Reconnects s g ka mp n a → BothR s (Some g)
both_of {g = g} {n = n} b = record { message = g; timeout = n; read = refl; peers = b.session; ours = b.kept }

releasing_case : {s : State} {p : ℕ} {rd : Option Message} {st : Result Start Answer} → StartCase s p rd st → 30 ≤ answer_number (start_answer st) → BothR s rd
releasing_case unread l = absurd (omega arith)
releasing_case (another_type i) l = absurd (omega arith)
releasing_case (without-parameters i q) l = absurd (omega arith)
releasing_case (without_ack i e q) l = absurd (omega arith)
releasing_case (without_session i e) l = absurd (omega arith)
releasing_case (peer_clear i e) l = absurd (omega arith)
releasing_case (ours_clear i e q k) l = absurd (omega arith)
releasing_case (parameters-changed b q) l = both_of b
releasing_case (sequence_error b q r) l = both_of b
releasing_case (resumes b q r) l = both_of b

-- the answers from 30 on release the state; of an Init these are 34 and 35
pub both_needed : (s : State) (p : ℕ) (rd : Option Message) → 30 ≤ answer_number (start_answer (start_of s p rd)) → BothR s rd
both_needed s p rd l = releasing_case (start-cases s p rd) l

-- ---- the agreed terms
agreed_of : (p : ℕ) {g : Message} {r : Bool} {ka mp : ℕ} {n : Timeout} {t : Terms} → InitWith g ka mp → g.session ≡ Some (record { reconnect = r; timeout = n }) → terms_of p n ka mp ≡ t → Agreed p (Some g) t
agreed_of p {g} {r} {ka} {mp} {n} {t} i e q =
    rw (← q)
    (record {
      message = g;
      reconnect = r;
      peers = n;
      read = refl;
      session = e;
      parameters = i.parameters;
      timeout = refl;
      forever = lesser_zero p (millis_of n);
    })

agreed-case : {s : State} {p : ℕ} {rd : Option Message} {st : Result Start Answer} (t : Terms) → StartCase s p rd st → BearsTerms st t → Agreed p rd t
agreed-case t unread e = absurd e
agreed-case t (another_type i) e = absurd e
agreed-case t (without-parameters i q) e = absurd e
agreed-case t (without_ack i q r) e = absurd e
agreed-case t (without_session i q) e = absurd e
agreed-case {p = p} t (peer_clear i q) e = agreed_of p i q e
agreed-case {p = p} t (ours_clear i q a k) e = agreed_of p i q e
agreed-case t (parameters-changed b q) e = absurd e
agreed-case t (sequence_error b q r) e = absurd e
agreed-case {p = p} t (resumes b q r) e = agreed_of p b.init b.session e

-- the timeout of a session that begins is the lesser of both, and 0 only where both are 0
pub start-agreed : (s : State) (p : ℕ) (rd : Option Message) (t : Terms) → BearsTerms (start_of s p rd) t → Agreed p rd t
start-agreed s p rd t e = agreed-case t (start-cases s p rd) e

-- ---- the call
module _ (s : State) (ph : Phase) (m : List ℕ) where
  -- "35 and 34 arise only with both R set": no other answer of the call releases the state
  pub init-releases : 30 ≤ answer_number (init_received s ph m).answer → BothR s (reading_of m)
  unfolding admitted
  init-releases l = both_needed s (proposal_of ph) (reading_of m) (by (phase_fits ph s) (awaits ph) (rw (init_says s ph m) at l))
    where
      own : Answer
      own = start_answer (init_start s ph m)

      by : (f w : Bool) → 30 ≤ answer_number (where_open f (where_open w own)) → 30 ≤ answer_number own
      by f w =
          pick_all (λ (a : Answer). 30 ≤ answer_number a → 30 ≤ answer_number own) (not f) (λ late. absurd (omega arith))
          (pick_all (λ (a : Answer). 30 ≤ answer_number a → 30 ≤ answer_number own) (not w) (λ late. absurd (omega arith)) (λ late. late))

  -- a start that is not refused leaves its state, and its phase
  pub init-begins : phase_fits ph s ≡ true → awaits ph ≡ true → is_done (start_answer (init_start s ph m)) ≡ true
      → BegunFrom s ph (init_start s ph m) (init_received s ph m)
  unfolding init_received
  init-begins fits w d =
      let st : (Result Start Answer) = init_start s ph m in
      let own : Answer = where_open (awaits ph) (start_answer st) in
      let e : own ≡ Answer.Done = rw w (done_is (start_answer st) d) in
      rw (admitted-does s ph fits own e (stepped Answer.Done (start_state s st) (start_phase ph st) [])) (record { answer = refl; state = refl; phase = refl; output = refl })
