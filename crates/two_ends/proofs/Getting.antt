-- What is given is in use or asked back, as either end takes a message with its number. Assumes nothing.
use Rattle.std.specs.Prelude.{Option, Some, None, Ok}
use Prim.Native.Nat.{ℕ, ◌≤◌}
use mathlib.Core.Bool.{true, false, true≢false, Bool}
use mathlib.Core.List.{List, ◌∷◌}
use mathlib.Core.Logic.{⊎_elim}
use mathlib.Core.Path.{◌≡◌, refl, sym, ◌∙◌}
use native.Mathlib.Omega.{arith}
use lib.Dec.{eqb}
use borrow.Author.Tests.{eqb-true, eq-eqb}
use Rattle.octets.specs.Pick.{pick}
use Rattle.octets.proofs.Choice.{by_test, pick_all}
use Rattle.ft_number.specs.declared.FtNumber.{FtNumber}
use Rattle.ft_number.specs.declared.MessageId.{MessageId}
use Rattle.label_list.specs.declared.LabelMessage.{LabelMessage}
use Rattle.label_list.specs.declared.LabelMessage.TheVariants.{Mapping, Withdraw, Release}
use Rattle.label_list.specs.declared.Side.TheVariants.{Given, Used}
use Rattle.label_list.specs.Rules.{received_side, code_received}
use Rattle.label_list.specs.Valid.{valid_of}
use Rattle.label_list.specs.Word.{listable}
use Rattle.tlv.specs.declared.Fec.{Fec}
use Rattle.label_events.specs.declared.Meets.{Meets}
use Rattle.label_events.specs.declared.Reception.{Reception}
use Rattle.label_events.specs.declared.Touched.{Touched}
use Rattle.label_events.specs.Change.{code_at}
use Rattle.label_events.specs.Reach.{Reach, Label}
use Rattle.label_events.specs.Receive.{received_of}
use Rattle.label_events.specs.Requests.{ended_at}
use Rattle.label_events.proofs.Ended.{ended-code}
use Rattle.message.specs.declared.Kind.{Kind}
use Rattle.message.specs.declared.Message.{Message}
use Rattle.message.specs.declared.MessageType.{MessageType}
use Rattle.message.specs.Kinds.{kind_of, kind_number, fatal_of, status_code, resources_available, notification_kind, kind_for, no_resources, abort_kind}
use Rattle.message.specs.Storable.{bears}
use Rattle.message.specs.Submission.{submission_of}
use Rattle.message.proofs.Laws.{accepted}
use Rattle.label_meaning.specs.Event.{Received, after_event, Moves, named, given_back, withdrawn_back, acked_back}
use Rattle.label_meaning.specs.View.{Effect}
use Rattle.label_meaning.proofs.Life.{move_happens}
use Rattle.label_meaning.proofs.Meaning.{valid_means}
use Rattle.label_meaning.proofs.Step.{received_outcome, received-taken}
use Rattle.label_meaning.proofs.View.{code_is, is_code}
use Rattle.message_writer.proofs.RoundTrip.{sent_kind}
use Rattle.protocol.specs.Held.{is_held}
use Rattle.protocol.specs.Labels.{touched_by, effect_on, effect_reception, effect_labels, label_effect}
use Rattle.protocol.specs.Phases.{up_with}
use Rattle.protocol.specs.State.{State, Table}
use Rattle.two_ends.specs.Agree.{code_by, code_after, IsGiven, IsUsed, Agree}
use Rattle.two_ends.specs.World.{End, History}
use Rattle.two_ends.proofs.Acking.{none_given, ungiven}
use Rattle.two_ends.proofs.Agreeing.{moved}
use Rattle.two_ends.proofs.Arriving.{g₂, short, f}
use Rattle.two_ends.proofs.Invariant.{Inv}
use Rattle.two_ends.proofs.Packets.{Packet, carried}
use Rattle.two_ends.proofs.Worlds.{ended}

-- ---- what a message of that kind and label does to the labels of its reader
pub data Says : Kind → ℕ → Option (LabelMessage × Touched) → Type 0 where
  says_mapping : {l : ℕ} → Says Kind.Mapping l (Some (Mapping, Touched.Label l))
  says_withdraw : {l : ℕ} → Says Kind.Withdraw l (Some (Withdraw, Touched.Label l))
  says_release : {l : ℕ} → Says Kind.Release l (Some (Release, Touched.Label l))
  says_nothing : {k : Kind} {l : ℕ} → ((n c : ℕ) → code_by n c (Ok (k, l)) ≡ c) → ((n : ℕ) → bears (Ok (k, l)) 3 n ≡ false)
      → Says k l None

none_says : {l : ℕ} → Says Kind.NoKind l None
none_says = says_nothing (λ n c. refl) (λ n. refl)

notified : (status : Option ℕ) (l : ℕ) → Says (notification_kind status) l None
unfolding notification_kind
notified None l = none_says
notified (Some v) l =
    pick_all (λ (k : Kind). Says k l None) (fatal_of v) none_says
    (pick_all (λ (k : Kind). Says k l None) (eqb (status_code v) resources_available) (says_nothing (λ n c. refl) (λ n. refl))
    (pick_all (λ (k : Kind). Says k l None) (eqb (status_code v) no_resources) (says_nothing (λ n c. refl) (λ n. refl)) none_says))

abort_says : (requestid : Option MessageId) (l : ℕ) → Says (abort_kind requestid) l None
abort_says None l = none_says
abort_says (Some id) l = says_nothing (λ n c. refl) (λ n. refl)

says_by : (type : MessageType) (status label : Option ℕ) (id : MessageId) (requestid : Option MessageId) (fec : Option Fec) (l : ℕ)
    → (kind_number (kind_for type status id requestid) ≤ 3 → label ≡ Some l) → Says (kind_for type status id requestid) l (effect_on type (touched_by label fec))
says_by MessageType.Notification status label id requestid fec l e = notified status l
says_by MessageType.Initialization status label id requestid fec l e = none_says
says_by MessageType.KeepAlive status label id requestid fec l e = none_says
says_by MessageType.Address status label id requestid fec l e = says_nothing (λ n c. refl) (λ n. refl)
says_by MessageType.AddressWithdraw status label id requestid fec l e = says_nothing (λ n c. refl) (λ n. refl)
says_by MessageType.Mapping status label id requestid fec l e = rw (e (omega arith)) says_mapping
says_by MessageType.Request status label id requestid fec l e = says_nothing (λ n c. refl) (λ n. refl)
says_by MessageType.Withdraw status label id requestid fec l e = rw (e (omega arith)) says_withdraw
says_by MessageType.Release status label id requestid fec l e = rw (e (omega arith)) says_release
says_by MessageType.Abort status label id requestid fec l e = abort_says requestid l
says_by MessageType.Other status label id requestid fec l e = none_says

pub says : (g : Message) (k : Kind) (l : ℕ) → kind_of g ≡ k → (kind_number k ≤ 3 → g.label ≡ Some l) → Says k l (label_effect g)
unfolding kind_of label_effect
says g k l e named-l = rw (sym e) (says_by g.typename g.status g.label g.id g.requestid g.fec l (λ low. named-l (rw (sym e) low)))

-- ---- the code of a label at its user after a message that names one
module _ (ls : List ℕ) (v : valid_of ls ≡ true) (r : Meets) (m : LabelMessage) (l : ℕ) (may : listable l ≡ true) where
  abbrev code : ℕ
  code = code_at ls (received_side m) l

  -- the words once the Request has ended that the message answers
  abbrev mid : List ℕ
  mid = ended_at r.request ls

  code_here : (received_of ls r m true (Label l)).0 ≡ Reception.Taken → code_at (received_of ls r m true (Label l)).1 (received_side m) l ≡ code_received m true code
  code_here room =
      let x : Effect ls (received_of ls r m true (Label l)).1 (received_side m) l (code_received m true code) = received-taken ls (valid_means ls v) r m true l may room in
      is_code _ (received_side m) l x.valid x.there

  code-there : (k : ℕ) → eqb k l ≡ false → code_at (received_of ls r m true (Label k)).1 (received_side m) l ≡ code
  code-there k other =
      ⊎_elim
      (λ (same : (received_of ls r m true (Label k)).1 ≡ mid). rw same (ended-code ls (received_side m) l r.request))
      (λ (x : Effect ls (received_of ls r m true (Label k)).1 (received_side m) k (code_received m true (code_at ls (received_side m) k))).
      is_code _ (received_side m) l x.valid
      (x.elsewhere (received_side m) l code (λ p. true≢false (sym (eq-eqb k l (sym p.1)) ∙ other)) (code_is ls (received_side m) l)))
      (received_outcome ls (valid_means ls v) r m true k)

  pub code-received : (k : ℕ) → (received_of ls r m true (Label k)).0 ≡ Reception.Taken
      → code_at (received_of ls r m true (Label k)).1 (received_side m) l ≡ pick (eqb k l) (code_received m true code) code
  code-received k room =
      by_test
      (eqb k l)
      (λ t. let same : k ≡ l = eqb-true k l t in rw (t, same) (code_here (rw same at room)))
      (λ f. rw f (code-there k f))

-- ---- a Release moves no label at its user; after it one that is given is so no more
release_used : {l c d k : ℕ} {r : Meets} → Moves (Received r Release true (Label k)) Used l c d → c ≡ d
release_used = elim [ ]

given-received : {P : Type 0} {m : LabelMessage} {t : Reach} {l c d : ℕ} {r : Meets} → Moves (Received r m true t) Given l c d → IsGiven d → P
given-received (given_back t) g = none_given refl g
given-received (withdrawn_back t) g = ungiven (λ e. omega arith) (λ e. omega arith) (λ e. omega arith) g
given-received (acked_back t) g = none_given refl g

module _ (giver user : List ℕ) (out back : List (List ℕ)) (m : List ℕ) (r : Meets) where
  -- what was given before, and is not given back by the message
  still : Agree giver user out (m ∷ back) → (l : ℕ) → listable l ≡ true → IsGiven (code_at giver Given l) → is_held 3 l back ≡ false → bears (submission_of m) 3 l ≡ false
      → IsUsed (code_after l (code_at user Used l) out)
  unfolding is_held
  still a l may g none others = a l may g (rw others none)

  kept_given : (e : LabelMessage) (t : Reach) → valid_of giver ≡ true → (l : ℕ) → IsGiven (code_at (after_event giver (Received r e true t)) Given l) → IsGiven (code_at giver Given l)
  kept_given e t v l g =
      ⊎_elim
      (λ (same : code_at (after_event giver (Received r e true t)) Given l ≡ code_at giver Given l). rw same at g)
      (λ (move : Moves (Received r e true t) Given l (code_at giver Given l) (code_at (after_event giver (Received r e true t)) Given l)). given-received move g)
      (moved giver v (Received r e true t) Given l)

  -- its Release has come
  freed : {P : Type 0} → valid_of giver ≡ true → (l : ℕ) → IsGiven (code_at giver Given l) → IsGiven (code_at (after_event giver (Received r Release true (Label l))) Given l) → P
  freed v l g h =
      let valid = valid_means giver v in
      ⊎_elim
      (λ (one : code_at giver Given l ≡ 1). none_given (move_happens giver valid (given_back named) (λ z. omega arith) one tt) h)
      (⊎_elim
      (λ (two : code_at giver Given l ≡ 2).
      let nine : code_at (after_event giver (Received r Release true (Label l))) Given l ≡ 9 = move_happens giver valid (withdrawn_back named) (λ z. omega arith) two tt in
      ungiven (λ e. omega arith) (λ e. omega arith) (λ e. omega arith) h)
      (λ (eight : code_at giver Given l ≡ 8). none_given (move_happens giver valid (acked_back named) (λ z. omega arith) eight tt) h))
      g

  -- the giver takes it
  pub take_giver : (tb : Table) → tb.words ≡ giver → Agree giver user out (m ∷ back) → valid_of giver ≡ true → (k : Kind) (n : ℕ) (e : Option (LabelMessage × Touched)) → submission_of m ≡ Ok (k, n) → Says k n e
      → Agree (effect_labels tb r true e) user out back
  unfolding after_event
  take_giver tb eq a v k n e is says_mapping l may g none = still a l may (kept_given Mapping (Label n) v l (rw eq at g)) none (rw is)
  take_giver tb eq a v k n e is says_withdraw l may g none = still a l may (kept_given Withdraw (Label n) v l (rw eq at g)) none (rw is)
  take_giver tb eq a v k n e is says_release l may g none =
      let before : IsGiven (code_at giver Given l) = kept_given Release (Label n) v l (rw eq at g) in
      by_test
      (eqb n l)
      (λ t. let same : n ≡ l = eqb-true n l t in freed v l before (rw (same, eq) at g))
      (λ f. still a l may before none (rw (is, f)))
  take_giver tb eq a v k n e is (says_nothing stays others) l may g none = still a l may (rw (eq, ended-code giver Given l r.request) at g) none (rw is (others l))

-- the user takes it
pub code-taken : (user : Table) → valid_of user.words ≡ true → (r : Meets) (k : Kind) (n : ℕ) (e : Option (LabelMessage × Touched)) → Says k n e → effect_reception user r true e ≡ Reception.Taken → (l : ℕ)
    → listable l ≡ true → code_at (effect_labels user r true e) Used l ≡ code_by l (code_at user.words Used l) (Ok (k, n))
unfolding after_event received_side
code-taken user v r k n e says_mapping room l may = code-received user.words v r Mapping l may n room
code-taken user v r k n e says_withdraw room l may = code-received user.words v r Withdraw l may n room
code-taken user v r k n e says_release room l may =
    ⊎_elim
    (λ (same : code_at (after_event user.words (Received r Release true (Label n))) Used l ≡ code_at user.words Used l). same)
    (λ (move : Moves (Received r Release true (Label n)) Used l (code_at user.words Used l) (code_at (after_event user.words (Received r Release true (Label n))) Used l)).
    sym (release_used move))
    (moved user.words v (Received r Release true (Label n)) Used l)
code-taken user v r k n e (says_nothing stays others) room l may = ended-code user.words Used l r.request ∙ sym (stays l (code_at user.words Used l))

pub take_user : (giver : List ℕ) (user : Table) (out back : List (List ℕ)) (m : List ℕ) (r : Meets) → Agree giver user.words (m ∷ out) back → valid_of user.words ≡ true → (k : Kind) (n : ℕ) (e : Option (LabelMessage × Touched))
    → submission_of m ≡ Ok (k, n) → Says k n e → effect_reception user r true e ≡ Reception.Taken → Agree giver (effect_labels user r true e) out back
take_user giver user out back m r a v k n e is s room l may g none = rw (code-taken user v r k n e s room l may) (rw is at (a l may g none))

-- ---- a message on a line says its kind and label to its reader
module _ (now : State) (re : Bool) (sent : ℕ) (h : History) (m : List ℕ) (n : FtNumber) (ack : Option FtNumber) {b : End} {ab ba : List (List ℕ)} {pa qs : List Packet}
    (i : Inv (ended now (up_with re sent) true true h) b ab ba pa (carried m n ack ∷ qs)) where
  pub carried_says : Says (f now re sent h m n ack i).0.storable.kind (f now re sent h m n ack i).0.storable.label (label_effect (g₂ now re sent h m n ack i))
  carried_says =
      let stored = (f now re sent h m n ack i).0.storable in
      let k = stored.kind in
      let l = stored.label in
      let e = stored.accepted in
      says (g₂ now re sent h m n ack i) k l (sent_kind m k l e n ack (short now re sent h m n ack i)) (accepted m k l e).labelled.label
