-- A message of a steady owner is delivered: it is answered 0 or 21, and the end knows what it knew. Assumes nothing.
use Rattle.std.specs.Prelude.{Option, Some, unwrap_or}
use Prim.Native.Nat.{◌≤◌, ℕ}
use mathlib.Core.Bool.{false, true, true≢false, Bool}
use mathlib.Core.List.{[], List, map, ◌∷◌}
use mathlib.Core.Path.{◌≡◌, refl, ap, sym, ◌∙◌}
use native.Mathlib.Omega.{arith}
use Rattle.octets.proofs.Choice.{no}
use Rattle.ft_number.specs.declared.FtNumber.{FtNumber}
use Rattle.ft_number.specs.declared.MessageId.{MessageId}
use Rattle.ft_number.specs.declared.Timeout.{Timeout}
use Rattle.label_list.specs.declared.Protection.{Protection}
use Rattle.tlv.specs.declared.Parameters.{Parameters}
use Rattle.message.specs.declared.Message.{Message}
use Rattle.message_writer.specs.declared.OwnParameters.{OwnParameters}
use Rattle.message_writer.specs.ReadBack.{init_message}
use Rattle.message_writer.proofs.Own.{init_reads}
use Rattle.protocol.specs.declared.Answer.{Answer}
use Rattle.protocol.specs.declared.Phase.{Phase}
use Rattle.protocol.specs.declared.Progress.{Progress}
use Rattle.protocol.specs.Acked.{acked}
use Rattle.protocol.specs.Answers.{answer_number}
use Rattle.protocol.specs.Cases.{table_after, Case, fatal, missing, wrong}
use Rattle.protocol.specs.Init.{fresh, resumed}
use Rattle.protocol.specs.Labels.{protection_rule}
use Rattle.protocol.specs.Phases.{up_with, waiting_for}
use Rattle.protocol.specs.Receive.{is_fatal, receive}
use Rattle.protocol.specs.State.{State}
use Rattle.protocol.proofs.Moves.{receive-frees}
use Rattle.two_ends.specs.Answers.{answer_to}
use Rattle.two_ends.specs.Calls.{delivery}
use Rattle.two_ends.specs.Steady.{Mild, Calm, taken, no_word, AllCalm}
use Rattle.two_ends.specs.World.{End, History, Lasts, World}
use Rattle.two_ends.proofs.Acts.{by_delivery, hearer}
use Rattle.two_ends.proofs.Answering.{rightly}
use Rattle.two_ends.proofs.Arriving.{alive-done, alive_read, carried_another, carried_fair, carried_read, g₁, g₂}
use Rattle.two_ends.proofs.Greeted.{first_begins}
use Rattle.two_ends.proofs.Hearing.{Between}
use Rattle.two_ends.proofs.Invariant.{Good, Inv, Leads}
use Rattle.two_ends.proofs.Judging.{Fair, fair_done, fair_fatal, fair_full, fair_missing, fair_wrong}
use Rattle.two_ends.proofs.Labels.{Labels}
use Rattle.two_ends.proofs.Oldest.{Oldests, by_oldest}
use Rattle.two_ends.proofs.Packets.{Packet, again, alive, bytes_of, carried, first}
use Rattle.two_ends.proofs.Persisted.{Persisted}
use Rattle.two_ends.proofs.Receiving.{judged, rule_answers}
use Rattle.two_ends.proofs.Resuming.{again-begins, again-start}
use Rattle.two_ends.proofs.Saying.{All, Says, all_drop}
use Rattle.two_ends.proofs.Starting.{starts_same}
use Rattle.two_ends.proofs.Steady.{Knows, Steadies, broken_steady, knows_moved}
use Rattle.two_ends.proofs.Worlds.{ended, kept_one}

given_same : {a b c d : ℕ} → ◌≡◌ {A = Option Parameters} (Some (record { keepalive = a; pdulength = b })) (Some (record { keepalive = c; pdulength = d })) → (a ≡ c) × (b ≡ d)
given_same {a} {b} e =
    let said : Parameters = record { keepalive = a; pdulength = b } in
    (ap (λ (o : Option Parameters). (unwrap_or o said).keepalive) e, ap (λ (o : Option Parameters). (unwrap_or o said).pdulength) e)

-- a message that bears no Status with E set, and whose protection is right
fair_calm : {s : State} {u : Progress} {g : Message} {a : Answer} → ((k : ℕ) → protection_rule (table_after s k) g ≡ Protection.Right) → is_fatal g.status ≡ false
    → Case s (Phase.UpFT u) (Some g) a → Fair a → Calm a
fair_calm right mild c fair_done = taken
fair_calm right mild c fair_full = no_word
fair_calm right mild (fatal r i f) fair_fatal = absurd (true≢false (sym f ∙ mild))
fair_calm right mild (missing {k = k} a e) fair_missing = no (cc (sym (right k) ∙ e))
fair_calm right mild (wrong {k = k} a e) fair_wrong = no (cc (sym (right k) ∙ e))

pub calm_low : {a : Answer} → Calm a → 30 ≤ answer_number a → ⊥
calm_low taken l = omega arith
calm_low no_word l = omega arith

-- ---- whichever message is the oldest; its sender's owner has o
module _ (o : OwnParameters) (b : End) (ab : List (List ℕ)) where
  abbrev Calmly : End → List ℕ → List (List ℕ) → Type 0
  Calmly e m rest = Between Labels e b → Says o m → Knows o e → Calm (answer_to e m) × Knows o (hearer e m)

  module _ (now : State) (t : ℕ) (h : History) (id : MessageId) (p : OwnParameters) (said : Timeout) {qs : List Packet} {ba : List (List ℕ)} {pa : List Packet} where
    first_calm : (ack : Option FtNumber) → Leads now.kept ack → Inv (ended now (waiting_for t) true false h) b ab ba pa (first id p said ack ∷ qs)
        → Calmly (ended now (waiting_for t) true false h) (bytes_of (first id p said ack)) (map bytes_of qs)
    unfolding fresh
    first_calm ack lead i l s k =
        let fine = i.back.fines.0 in
        let same = given_same (s.init (init_message id p said ack) (init_reads id p said ack fine) refl) in
        let d = first_begins now t h id p said ack fine lead in
        (rw d taken, rw d (record { keepalive = λ g. same.0; maxpdu = λ g. same.1; mild = λ g. tt }))

    again_calm : (a : FtNumber) → Inv (ended now (waiting_for t) true true h) b ab ba pa (again id p said a ∷ qs)
        → Calmly (ended now (waiting_for t) true true h) (bytes_of (again id p said a)) (map bytes_of qs)
    unfolding resumed acked
    again_calm a i l s k =
        let fine = i.back.fines.0 in
        let same = given_same (s.init (init_message id p said (Some a)) (init_reads id p said (Some a) fine) refl) in
        let st = again-start now t h id p said a i in
        let e = starts_same now t id p said a st.0 fine (kept_one i.own) (k.keepalive refl ∙ sym same.0) (k.maxpdu refl ∙ sym same.1) st.1.right in
        let d = again-begins now t h id p said a i st.0 e in
        (rw d taken, rw d (record { keepalive = λ g. k.keepalive refl; maxpdu = λ g. k.maxpdu refl; mild = λ g. all_drop Mild st.0 now.queue (k.mild refl) }))

  -- an answer below 30 leaves the parameters, and a part of the store
  calmly : (now : State) (re : Bool) (sent : ℕ) (h : History) (m : List ℕ) → Calm (receive now (up_with re sent) m).answer → Knows o (ended now (up_with re sent) true true h)
      → Calm (receive now (up_with re sent) m).answer × Knows o (hearer (ended now (up_with re sent) true true h) m)
  calmly now re sent h m c k =
      let e = ended now (up_with re sent) true true h in
      let f = receive-frees now (up_with re sent) m (calm_low c) in
      (c, knows_moved o e (hearer e m) f.0 [] refl f.1 tt k)

  each : Oldests Calmly b ab
  each = record {
    firsts = λ now t h id p said ack qs lead i. first_calm now t h id p said ack lead i;
    agains = λ now t h id p said a qs i. again_calm now t h id p said a i;
    alives = λ now re sent h id n qs i l s k.
        let m = bytes_of (alive id n) in
        calmly now re sent h m (rw (rule_answers now re sent m (g₁ now re sent h id n) (alive_read now re sent h id n i) h i, alive-done now re sent h id n i) taken) k;
    carries = λ now re sent h m n ack qs i l s k.
        let bytes = bytes_of (carried m n ack) in
        let g = g₂ now re sent h m n ack i in
        let read = carried_read now re sent h m n ack i in
        let mild = s.mild g read (carried_another now re sent h m n ack i) in
        calmly now re sent h bytes
        (rw (rule_answers now re sent bytes g read h i) (fair_calm (rightly now g n l.own refl) mild (judged now re sent bytes g read) (carried_fair now re sent h m n ack i))) k;
  }

-- ---- at the end a
module _ (oa ob : OwnParameters) (w : World) (g : Good w) (l : Persisted Labels w) (k : Lasts w) (s : Steadies oa ob w) where
  heard : (m : List ℕ) (rest : List (List ℕ)) → w.a.joined ≡ true → w.ba ≡ m ∷ rest → Calm (answer_to w.a m) × Knows ob (hearer w.a m)
  heard m rest on line =
      by_oldest (Calmly ob w.b w.ab) w.b w.ab (each ob w.b w.ab) w.a m rest on (rw line at (g k)) (l k)
      (let said : All (Says ob) (m ∷ rest) = rw line at s.ba in said.0) s.a

  pub all_calm : AllCalm w
  all_calm m rest on line = (heard m rest on line).0

  pub delivers_steady : Steadies oa ob (delivery w.a.joined w.ba w)
  delivers_steady =
      by_delivery (Steadies oa ob) (broken_steady oa ob) w s (λ m rest on line.
      let said : All (Says ob) (m ∷ rest) = rw line at s.ba in
      record { a = (heard m rest on line).1; b = s.b; ab = s.ab; ba = said.1 })
