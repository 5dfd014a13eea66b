-- What the oldest message of a line leaves of what persists between the two ends. Assumes nothing.
use Rattle.std.specs.Prelude.{Ok, Err, Option}
use Prim.Native.Nat.{ℕ}
use mathlib.Core.Bool.{false, true, Bool}
use mathlib.Core.List.{List, [], ◌∷◌, map}
use mathlib.Core.Logic.{⊎_elim}
use mathlib.Core.Path.{◌≡◌, refl, sym, ◌∙◌, ap}
use Rattle.ft_number.specs.declared.FtNumber.{FtNumber}
use Rattle.ft_number.specs.declared.MessageId.{MessageId}
use Rattle.ft_number.specs.declared.Timeout.{Timeout}
use Rattle.label_events.specs.Requests.{ended_at}
use Rattle.message.specs.Kinds.{kind_of}
use Rattle.message_writer.specs.declared.OwnParameters.{OwnParameters}
use Rattle.message_writer.proofs.RoundTrip.{sent_kind}
use Rattle.protocol.specs.declared.Answer.{Answer}
use Rattle.protocol.specs.declared.Phase.{Phase}
use Rattle.protocol.specs.declared.Start.{Start}
use Rattle.protocol.specs.Acked.{ack_borne, acked}
use Rattle.protocol.specs.Init.{fresh, init_start, resumed}
use Rattle.protocol.specs.Labels.{answered_at, answers}
use Rattle.protocol.specs.Phases.{waiting_for, up_with}
use Rattle.protocol.specs.Receive.{taken, ack_on, received_state}
use Rattle.protocol.specs.State.{State}
use Rattle.protocol.specs.Step.{Step, stepped}
use Rattle.protocol.proofs.Begins.{changed}
use Rattle.two_ends.specs.Calls.{keeps}
use Rattle.two_ends.specs.World.{End, History}
use Rattle.two_ends.proofs.Acts.{hearer}
use Rattle.two_ends.proofs.Arriving.{alive_read, carried_read, g₁, g₂, plain, f, secures, short}
use Rattle.two_ends.proofs.Delivering.{let_go_is}
use Rattle.two_ends.proofs.Freeing.{half_ack}
use Rattle.two_ends.proofs.Getting.{carried_says}
use Rattle.two_ends.proofs.Greeted.{first_begins, fresh_start}
use Rattle.two_ends.proofs.Invariant.{side_of, Inv, Leads}
use Rattle.two_ends.proofs.Judging.{has_room}
use Rattle.two_ends.proofs.Leaving.{taking}
use Rattle.two_ends.proofs.Oldest.{Oldests}
use Rattle.two_ends.proofs.Packets.{Packet, again, alive, bytes_of, carried, first}
use Rattle.two_ends.proofs.Persisting.{PersistsWhere}
use Rattle.two_ends.proofs.Receiving.{judged}
use Rattle.two_ends.proofs.Resting.{released_ends}
use Rattle.two_ends.proofs.Resuming.{again-begins, again-start}
use Rattle.two_ends.proofs.Starting.{terms}
use Rattle.two_ends.proofs.Takes.{arrives}
use Rattle.two_ends.proofs.Worlds.{ended}

-- the two ends of a world; an end that has not come to its fresh UpFT counts as released
abbrev pub Between : (State → History → State → History → Type 0) → End → End → Type 0
Between R a b = R (side_of a).state a.history (side_of b).state b.history

module _ {May : State → List ℕ → Type 0} {R : State → History → State → History → Type 0} (c : PersistsWhere May R) (b : End) (ab : List (List ℕ)) where
  abbrev pub Heard : End → List ℕ → List (List ℕ) → Type 0
  Heard e m rest = Between R e b → keeps (hearer e m) ≡ true → Between R (hearer e m) b

  module _ (now : State) (t : ℕ) (h : History) (id : MessageId) (p : OwnParameters) (said : Timeout) {qs : List Packet} {ba : List (List ℕ)} {pa : List Packet} where
    hears_first : (ack : Option FtNumber) → Leads now.kept ack → Inv (ended now (waiting_for t) true false h) b ab ba pa (first id p said ack ∷ qs)
        → Heard (ended now (waiting_for t) true false h) (bytes_of (first id p said ack)) (map bytes_of qs)
    unfolding fresh
    hears_first ack lead i l k =
        let fine = i.back.fines.0 in
        let ts = terms now t id p said in
        rw (fresh_start now t h id p said ack fine lead, first_begins now t h id p said ack fine lead) (c.same l (fresh ts) refl refl refl)

    hears-again : (a : FtNumber) → Inv (ended now (waiting_for t) true true h) b ab ba pa (again id p said a ∷ qs)
        → Heard (ended now (waiting_for t) true true h) (bytes_of (again id p said a)) (map bytes_of qs)
    unfolding resumed acked
    hears-again a i l k =
        let m = bytes_of (again id p said a) in
        let ts = terms now t id p said in
        let st = again-start now t h id p said a i in
        ⊎_elim
        (λ (e : init_start now (waiting_for t) m ≡ Ok (Start.Resumed ts st.0 a)).
        let s : State = resumed now ts st.0 a.0 in
        rw (again-begins now t h id p said a i st.0 e, let_go_is now (stepped Answer.Done s (up_with true 0) []) st.0 st.1.few refl)
        (c.same (c.freed l st.0 a.0) s refl refl refl))
        (λ (e : init_start now (waiting_for t) m ≡ Err Answer.ParametersChanged).
        released_ends Phase.Idle true true h refl (ap (λ (z : Step). z.state.kept) (sym (changed now t m e)) ∙ k))
        st.2

  module _ (now : State) (re : Bool) (sent : ℕ) (h : History) {qs : List Packet} {ba : List (List ℕ)} {pa : List Packet} where
    hears-alive : (id : MessageId) (n : FtNumber) → Inv (ended now (up_with re sent) true true h) b ab ba pa (alive id n ∷ qs)
        → Heard (ended now (up_with re sent) true true h) (bytes_of (alive id n)) (map bytes_of qs)
    unfolding received_state taken ack_on acked answered_at answers ended_at kind_of
    hears-alive id n i l =
        let free = half_ack i.out.half in
        let acks = free.1.right in
        let g = g₁ now re sent h id n in
        let read = alive_read now re sent h id n i in
        taking c now re sent h l (bytes_of (alive id n)) g read free.0 acks free.1.few [] (rw read)
        (λ e. c.same (c.freed l free.0 n.0) (received_state now g) (rw (acks, (plain now re sent h id n free.0 acks).effect)) refl (rw acks))

    hears-carried : (m : List ℕ) (n : FtNumber) (ack : Option FtNumber) → Inv (ended now (up_with re sent) true true h) b ab ba pa (carried m n ack ∷ qs)
        → Heard (ended now (up_with re sent) true true h) (bytes_of (carried m n ack)) (map bytes_of qs)
    unfolding received_state taken ack_on acked
    hears-carried m n ack i l =
        let free = arrives now h re sent (side_of b) pa qs m n ack i.out.half in
        let acks = free.1.right in
        let g = g₂ now re sent h m n ack i in
        let read = carried_read now re sent h m n ack i in
        let stored = (f now re sent h m n ack i).0.storable in
        taking c now re sent h l (bytes_of (carried m n ack)) g read free.0 acks free.1.few (m ∷ []) (secures now re sent h m n ack i)
        (λ e. rw acks (c.carried l free.0 (ack_borne now ack) g m
        (record {
          kind = stored.kind;
          label = stored.label;
          accepted = stored.accepted;
          protected = refl;
          read = sent_kind m stored.kind stored.label stored.accepted n ack (short now re sent h m n ack i);
          effect = carried_says now re sent h m n ack i;
          room = has_room free.0 acks (rw e at (judged now re sent (bytes_of (carried m n ack)) g read));
        })))

  pub hears : Oldests Heard b ab
  hears = record {
    firsts = λ now t h id p said ack qs lead i. hears_first now t h id p said ack lead i;
    agains = λ now t h id p said a qs i. hears-again now t h id p said a i;
    alives = λ now re sent h id n qs i. hears-alive now re sent h id n i;
    carries = λ now re sent h m n ack qs i. hears-carried now re sent h m n ack i;
  }
