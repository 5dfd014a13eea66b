-- A later Init is delivered. Assumes nothing.
use Rattle.std.specs.Prelude.{Ok, Err}
use Prim.Native.Nat.{ℕ}
use mathlib.Core.Bool.{true, true≢false}
use mathlib.Core.List.{List, [], ◌∷◌, map}
use mathlib.Core.Logic.{◌⊎◌, inl, ⊎_elim}
use mathlib.Core.Path.{◌≡◌, refl, ap, ◌∙◌, sym}
use native.Mathlib.Omega.{arith}
use lib.ListN.{take, length-drop}
use Rattle.ft_number.specs.declared.FtNumber.{FtNumber}
use Rattle.ft_number.specs.declared.MessageId.{MessageId}
use Rattle.ft_number.specs.declared.Timeout.{Timeout}
use Rattle.message_writer.specs.declared.OwnParameters.{OwnParameters}
use Rattle.protocol.specs.declared.Answer.{Answer}
use Rattle.protocol.specs.declared.Phase.{Phase}
use Rattle.protocol.specs.declared.Start.{Start}
use Rattle.protocol.specs.declared.Terms.{Terms}
use Rattle.protocol.specs.Acked.{acked}
use Rattle.protocol.specs.Init.{resumed, init_start, init_received}
use Rattle.protocol.specs.Phases.{up_with, waiting_for}
use Rattle.protocol.specs.State.{State}
use Rattle.protocol.specs.Step.{Step, stepped}
use Rattle.protocol.proofs.Begins.{begins, changed}
use Rattle.two_ends.specs.Calls.{keeps, takes}
use Rattle.two_ends.specs.World.{History, End}
use Rattle.two_ends.proofs.Delivering.{let_go_is}
use Rattle.two_ends.proofs.Freeing.{Freed, half-init}
use Rattle.two_ends.proofs.Greeted.{greeted_by}
use Rattle.two_ends.proofs.Invariant.{side_of, snd_of, rcv_of, Ready, Inv}
use Rattle.two_ends.proofs.Packets.{Packet, again, bytes_of, datas, acks_of}
use Rattle.two_ends.proofs.Resting.{released_ends}
use Rattle.two_ends.proofs.Starting.{terms, starts_again}
use Rattle.two_ends.proofs.Takes.{dir_resume, dir_resume_peer}
use Rattle.two_ends.proofs.Worlds.{ended, kept_one, Settled}

-- ---- a later Init
module _ (now : State) (t : ℕ) (h : History) (id : MessageId) (p : OwnParameters) (said : Timeout) (a : FtNumber) where
  abbrev m₂ : List ℕ
  m₂ = bytes_of (again id p said a)

  abbrev ts : Terms
  ts = terms now t id p said

  module _ {b : End} {ab ba : List (List ℕ)} {pa qs : List Packet} (i : Inv (ended now (waiting_for t) true true h) b ab ba pa (again id p said a ∷ qs)) where
    -- its ACK is right; the session is resumed, or its parameters are others
    pub again-start : (j : ℕ) × Freed (snd_of now h) 0 true (rcv_of (side_of b).state b.history) (datas pa) (acks_of qs) a.0 j
        × ((init_start now (waiting_for t) m₂ ≡ Ok (Start.Resumed ts j a)) ⊎ (init_start now (waiting_for t) m₂ ≡ Err Answer.ParametersChanged))
    again-start =
        let free = half-init true (λ r i l few. tt) i.out.half in
        (free.0, free.1, starts_again now t id p said a free.0 i.back.fines.0 (kept_one i.own) free.1.right)

    pub again-begins : (j : ℕ) → init_start now (waiting_for t) m₂ ≡ Ok (Start.Resumed ts j a) → init_received now (waiting_for t) m₂ ≡ stepped Answer.Done (resumed now ts j a.0) (up_with true 0) []
    again-begins j e = begins now t m₂ (resumed now ts j a.0) (rw e) (rw e) true (rw e)

    resumes : (j : ℕ) → Freed (snd_of now h) 0 true (rcv_of (side_of b).state b.history) (datas pa) (acks_of qs) a.0 j → init_start now (waiting_for t) m₂ ≡ Ok (Start.Resumed ts j a)
        → Settled (greeted_by now t true h (again id p said a)) b ab (map bytes_of qs)
    unfolding resumed acked
    resumes j free e =
        let s : State = resumed now ts j a.0 in
        let d = again-begins j e in
        let gone = let_go_is now (stepped Answer.Done s (up_with true 0) []) j free.few refl in
        let own : Ready (ended s (up_with true 0) true true (takes (take j now.queue) [] h)) = record {
          few = omega (arith, length-drop j now.queue, i.own.few);
          possible = refl;
          keeping = i.own.keeping;
          okays = i.own.okays;
          waiting = λ q. absurd (true≢false q);
          linked = λ q. refl;
        } in
        rw (d, gone)
        (inl (
          refl,
          (
            pa,
            qs,
            record {
              line_a = i.line_a;
              line_b = refl;
              own = own;
              peer = i.peer;
              out = dir_resume now t h a ts j id p said free i.out;
              back = dir_resume_peer now t h a ts j id p said i.back;
              agree = i.agree;
            },
          ),
        ))

    pub greet_again : keeps (greeted_by now t true h (again id p said a)) ≡ true → Settled (greeted_by now t true h (again id p said a)) b ab (map bytes_of qs)
    greet_again k =
        let st = again-start in
        ⊎_elim
        (λ (e : init_start now (waiting_for t) m₂ ≡ Ok (Start.Resumed ts st.0 a)). resumes st.0 st.1 e)
        (λ (e : init_start now (waiting_for t) m₂ ≡ Err Answer.ParametersChanged).
        released_ends Phase.Idle true true h refl (ap (λ (z : Step). z.state.kept) (sym (changed now t m₂ e)) ∙ k))
        st.2
