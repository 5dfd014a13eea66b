-- The answer to a message, test by test; the premises are what the functions ensure and the tests of the code. Assumes nothing.
use Rattle.std.specs.Prelude.{Result, Ok, Err, Option, Some, None}
use Prim.Native.Nat.{ℕ, ◌≤◌}
use mathlib.Core.Bool.{Bool, true, false, not, false≢true}
use mathlib.Core.List.{List}
use mathlib.Core.Path.{◌≡◌, refl, ap, ◌∙◌, sym}
use native.Mathlib.Omega.{arith}
use lib.Dec.{eqb}
use lib.ListN.{length, take}
use Rattle.octets.specs.Pick.{pick, both}
use Rattle.octets.proofs.Choice.{by_test, both_true}
use Rattle.ft_number.specs.declared.FtNumber.{FtNumber}
use Rattle.ft_number.specs.declared.TurnError.{TurnError}
use Rattle.ft_number.specs.Ack.{ack_of}
use Rattle.label_list.specs.declared.LabelMessage.{LabelMessage}
use Rattle.label_list.specs.declared.Protection.{Protection}
use Rattle.label_list.specs.Beside.{entry_at}
use Rattle.label_list.specs.Find.{FoundIn, spare_in}
use Rattle.label_list.specs.Valid.{valid_of}
use Rattle.label_list.specs.Word.{word_count}
use Rattle.tlv.specs.Element.{entry_by}
use Rattle.block0.specs.declared.Header.{Header}
use Rattle.label_events.specs.declared.Meets.{Meets}
use Rattle.label_events.specs.declared.Reception.{Reception}
use Rattle.label_events.specs.declared.Touched.{Touched}
use Rattle.message.specs.declared.Message.{Message}
use Rattle.message.specs.Kinds.{kind_of}
use Rattle.message.specs.Submission.{bears_ft}
use Rattle.image.specs.State.{decode, stored_ids, stored_index}
use Rattle.image.specs.Verdict.{IsSound}
use Rattle.image.proofs.Entries.{index-count}
use Rattle.image.proofs.Queue.{queue_length}
use Rattle.image.proofs.Ranges.{labels-count}
use Rattle.protocol.specs.declared.Answer.{Answer}
use Rattle.protocol.specs.Acked.{ack_borne, released_labels, acked}
use Rattle.protocol.specs.Answers.{is_done}
use Rattle.protocol.specs.Labels.{label_effect, is_protected, protection_rule, effect_reception, effect_labels, effect_place, effect_takes, brings_another, meets, always_protected, answered_at, answers}
use Rattle.protocol.specs.Receive.{turn_rule, is_fatal, message_rule, plain_rule, is_zero, turn_borne, reception_rule, protected_rule, labels_rule, ack_rule, ack_on, ft_rule, ack_count, message_labels, message_takes, taken, received_state}
use Rattle.protocol.specs.Received.{is_init}
use Rattle.protocol.specs.State.{State, Table}
use Rattle.protocol.proofs.Queues.{count_held}
use Rattle.calls.specs.Freeing.{frees_none}
use Rattle.calls.specs.State.{state_of_numbers, state_of}
use Rattle.call_meaning.proofs.Putting.{image_window}
use Rattle.receive.specs.Call.{effect_rule, Serves, Changed, Told}
use Rattle.receive.specs.Speed.{touches_none, labels_stay, leaves_words, names_none}
use Rattle.receive.specs.Words.{asks_entries, protection_judged, received_lent, spare_for, table_on, takes_lent}
use Rattle.receive.proofs.Answered.{acked_table, answered-request}
use Rattle.receive.proofs.Prefixed.{effect_entry, place_inside, lent_protection, lent-received, lent-takes}
use Rattle.receive.proofs.Takes.{spare_serves}

-- an answer that is not Done tells nothing of the words
pub never : {P : Type 0} (a : Answer) → is_done a ≡ false → a ≡ Answer.Done → P
never a n e = let z : is_done a ≡ true = ap is_done e in let q : ◌≡◌ {A = ℕ} 0 1 = cc in absurd (omega arith)

module _ (g : Message) (a : Answer) {b : Bool} (e : b ≡ is_init g.typename) where
  pub message_init : b ≡ true → Answer.MalformedReceived ≡ message_rule g a
  unfolding message_rule
  message_init t = rw (← e, t)

  pub message_fatal : {f : Bool} → b ≡ false → f ≡ is_fatal g.status → f ≡ true → Answer.StatusFatal ≡ message_rule g a
  unfolding message_rule
  message_fatal n q t = rw (← e, n, ← q, t)

  pub message_rest : {f : Bool} {x : Answer} → b ≡ false → f ≡ is_fatal g.status → f ≡ false → x ≡ a → x ≡ message_rule g a
  unfolding message_rule
  message_rest n q t p = rw (← e, n, ← q, t) p

module _ (g : Message) {b f t : Bool} (eb : b ≡ is_init g.typename) (nb : b ≡ false) (ef : f ≡ is_fatal g.status) (nf : f ≡ false) (et : t ≡ bears_ft g.found) where
  pub plain_ft : t ≡ true → Answer.FtTlvInPlain ≡ plain_rule g
  plain_ft u = message_rest g _ eb nb ef nf (rw (← et, u))

  pub plain_done : t ≡ false → Answer.Done ≡ plain_rule g
  plain_done u = message_rest g _ eb nb ef nf (rw (← et, u))

-- 33 and 32 by the entries lent, 20, and then 21
module _ (im words : List ℕ) (g : Message) {effect : Option (LabelMessage × Touched)} {entries : List ℕ} (n : length words ≡ word_count) (ee : effect ≡ label_effect g)
    (valid : touches_none (label_effect g) ≡ false → valid_of words ≡ true) (lent : asks_entries (label_effect g) ≡ true → entries ≡ stored_index im) where
  abbrev old : List ℕ
  old = (decode im).labels

  abbrev t : Table
  t = table_on im words

  long : length words ≤ length (stored_index im)
  long = omega (arith, n, index-count im)

  protection_is : {p : Protection} → p ≡ protection_judged words entries effect g → p ≡ protection_rule t g
  unfolding protection_rule
  protection_is e = e ∙ rw (ee, lent_protection words (stored_ids im) (stored_index im) long (label_effect g) lent valid (is_protected g.protection))

  module _ (turn : Result ℕ TurnError) {p : Protection} (e : p ≡ protection_judged words entries effect g) {a : Answer} {P : Type 0} where
    pub labels_protection : {q : Protection} → is_done (protected_rule old t turn g q) ≡ false → p ≡ q → a ≡ protected_rule old t turn g q
        → (a ≡ labels_rule old t turn g) × (a ≡ Answer.Done → P)
    unfolding labels_rule
    labels_protection {q} no-done u ea = (rw (← protection_is e, u) ea, λ d. never (protected_rule old t turn g q) no-done (sym ea ∙ d))

    pub labels_turn : (fault : TurnError) → p ≡ Protection.Right → turn ≡ Err fault → a ≡ turn_rule (Err fault) Answer.Done
        → (a ≡ labels_rule old t turn g) × (a ≡ Answer.Done → P)
    unfolding labels_rule
    labels_turn TurnError.OutOfTurn u q ea = (rw (← protection_is e, u, q) ea, λ d. never Answer.OutOfTurn refl (sym ea ∙ d))
    labels_turn TurnError.ZeroNumber u q ea = (rw (← protection_is e, u, q) ea, λ d. never Answer.ZeroNumber refl (sym ea ∙ d))

    pub labels-room : {k : ℕ} → p ≡ Protection.Right → turn ≡ Ok k → (a ≡ effect_rule old t g) × (a ≡ Answer.Done → P)
        → (a ≡ labels_rule old t turn g) × (a ≡ Answer.Done → P)
    unfolding labels_rule
    labels-room u q r = (rw (← protection_is e, u, q) r.0, r.1)

  -- 21, and what the message makes of the words
  module _ {x : Meets} {d : Bool} (serves : Serves old t g x) (ed : d ≡ is_protected g.protection) {r r' : Reception} {place : Option ℕ} {ws : List ℕ}
      (c : (r ≡ (received_lent words entries x d effect).0) × (place ≡ takes_lent words x d effect) × (ws ≡ (received_lent words entries x d effect).1)) (v : r ≡ r') where
    received : ((received_lent words entries x d effect).0 ≡ effect_reception t x (is_protected g.protection) (label_effect g))
        × ((received_lent words entries x d effect).1 ≡ effect_labels t x (is_protected g.protection) (label_effect g))
    received = rw (ed, ee) (lent-received words (stored_ids im) (stored_index im) long (label_effect g) lent valid (is_protected g.protection) x)

    ruled : reception_rule r' ≡ effect_rule old t g
    ruled = ap reception_rule (sym v ∙ c.0 ∙ received.0 ∙ serves.reception)

    pub room-done : (reception_rule r' ≡ effect_rule old t g) × (reception_rule r' ≡ Answer.Done → Changed old t g ws place)
    room-done = (
      ruled,
      λ z. record {
        labels = c.2 ∙ received.1 ∙ serves.labels;
        place = c.1 ∙ rw (ed, ee) (lent-takes words (stored_ids im) (stored_index im) long (label_effect g) lent valid (is_protected g.protection) x ∙ serves.place);
      },
    )

    pub room_refused : {a : Answer} {P : Type 0} → is_done (reception_rule r') ≡ false → a ≡ reception_rule r' → (a ≡ effect_rule old t g) × (a ≡ Answer.Done → P)
    room_refused no-done e = (e ∙ ruled, λ z. never (reception_rule r') no-done (sym e ∙ z))

-- the label of a message has a place among the image's words
inside_long : (words old : List ℕ) (f : Option ℕ) → length words ≡ length old → FoundIn words f → FoundIn old f
inside_long words old (Some i) n inside = omega arith
inside_long words old None n inside = tt

pub effect_inside : (im words : List ℕ) (e : Option (LabelMessage × Touched)) {f : Option ℕ} → length words ≡ word_count → f ≡ effect_place words e → FoundIn (decode im).labels f
effect_inside im words e {f} n ef = inside_long words (decode im).labels f (n ∙ sym (labels-count im)) (rw ef (place_inside words e))

-- what a message meets, with a spare word only where it needs one
module _ (im words : List ℕ) (g : Message) {effect : Option (LabelMessage × Touched)} {place request spare : Option ℕ} {another : Bool}
    (ee : effect ≡ label_effect g) (ep : place ≡ effect_place words effect) (er : request ≡ answered_at (table_on im words) g)
    (ea : another ≡ not (eqb (entry_at (stored_index im) place) (entry_by g.fec))) (es : spare ≡ spare_for (decode im).labels words place request another effect) where
  another_is : another ≡ brings_another (table_on im words) g
  another_is =
      ea
      ∙ ap (λ (entry : ℕ). not (eqb entry (entry_by g.fec)))
      (ap (entry_at (stored_index im)) (ep ∙ ap (effect_place words) ee) ∙ sym (effect_entry words (stored_index im) (label_effect g)))

  pub met_serves : Serves (decode im).labels (table_on im words) g (record { request = request; spare = spare; another = another })
  met_serves =
      let s = spare_serves (decode im).labels (table_on im words) request another (is_protected g.protection) (answered-request (table_on im words) g er) (label_effect g) (es ∙ rw (ep, ee)) in
      let same : record { request = request; spare = spare_in (decode im).labels words; another = another } ≡ meets (decode im).labels (table_on im words) g = rw (er, another_is) in
      record {
        reception = s.0 ∙ ap (λ (x : Meets). effect_reception (table_on im words) x (is_protected g.protection) (label_effect g)) same;
        labels = s.1 ∙ ap (λ (x : Meets). effect_labels (table_on im words) x (is_protected g.protection) (label_effect g)) same;
        place = s.2 ∙ ap (λ (x : Meets). effect_takes (table_on im words) x (is_protected g.protection) (label_effect g)) same;
      }

-- of a message that touches no label the words are not looked at
module _ (old : List ℕ) (t t' : Table) (g : Message) (none : touches_none (label_effect g) ≡ true) where
  labels_unseen : (turn : Result ℕ TurnError) → labels_rule old t turn g ≡ labels_rule old t' turn g
  unfolding labels_rule protection_rule
  labels_unseen turn = by (label_effect g) refl
    where
      by : (f : Option (LabelMessage × Touched)) → label_effect g ≡ f → labels_rule old t turn g ≡ labels_rule old t' turn g
      by None e = by_test (both (not (is_protected g.protection)) (always_protected (kind_of g))) (λ y. rw y) (λ n. simp (n, e))
      by (Some (m, x)) e = absurd (false≢true (rw e at none))

  takes_unseen : message_takes old t g ≡ message_takes old t' g
  takes_unseen = by (label_effect g) none
    where
      by : (f : Option (LabelMessage × Touched)) → touches_none f ≡ true
          → effect_takes t (meets old t g) (is_protected g.protection) f ≡ effect_takes t' (meets old t' g) (is_protected g.protection) f
      by None n = refl
      by (Some (m, x)) n = absurd (false≢true n)

-- the ACK as it was decided, of the numbers that the image says
pub borne_read : (im : List ℕ) (f : Option FtNumber) {h : Header} → h ≡ (decode im).header → ack_borne (state_of_numbers h) f ≡ ack_borne (state_of im) f
borne_read im None eh = rw eh
borne_read im (Some n) eh = refl

pub ack_read : (im : List ℕ) (g : Message) {h : Header} → h ≡ (decode im).header → ack_on (state_of_numbers h) g ≡ ack_on (state_of im) g
unfolding ack_on
ack_read im g eh = rw (borne_read im g.ack eh, eh)

pub ack_on_lem : (s : State) (g : Message) {x : Option ℕ} {n : FtNumber} → x ≡ ack_of s.released.0 s.issued.0 n.0 → n.0 ≡ ack_borne s g.ack → x ≡ ack_on s g
unfolding ack_on
ack_on_lem s g e q = rw (← q) e

pub ack_told : (im : List ℕ) (g : Message) {h : Header} {x : Option ℕ} {n : FtNumber} → h ≡ (decode im).header → x ≡ ack_of h.released.0 h.issued.0 n.0
    → n.0 ≡ ack_borne (state_of_numbers h) g.ack → x ≡ ack_on (state_of im) g
ack_told im g {h} eh e q = ack_on_lem (state_of_numbers h) g e q ∙ ack_read im g eh

-- it releases no more than is held, whatever it is
pub count-within : (im : List ℕ) (g : Message) → IsSound im → ack_count (ack_on (state_of im) g) ≤ (decode im).header.held
count-within im g s = rw (queue_length im) at (count_held (state_of im) (image_window im s) g)

pub ack_within : (im : List ℕ) (g : Message) {x : Option ℕ} {k : ℕ} → IsSound im → x ≡ ack_on (state_of im) g → x ≡ Some k → k ≤ (decode im).header.held
ack_within im g s e t = rw (← e, t) at (count-within im g s)

module _ (s : State) (resumed : Bool) (g : Message) {x : Option ℕ} (e : x ≡ ack_on s g) where
  pub ack_error : {a : Answer} {P : Type 0} → x ≡ None → a ≡ Answer.AckSequenceError → (a ≡ ack_rule s resumed g (ack_on s g)) × (a ≡ Answer.Done → P)
  ack_error t ea = (rw (← e, t) ea, λ d. never Answer.AckSequenceError refl (sym ea ∙ d))

module _ (im : List ℕ) (resumed : Bool) (g : Message) {x : Option ℕ} (e : x ≡ ack_on (state_of im) g) where
  abbrev s : State
  s = state_of im

  -- the table that the ACK leaves
  abbrev left : ℕ → Table
  left k = (acked s k (ack_borne s g.ack)).table

  pub ack_right : {k : ℕ} {ws ws₂ : List ℕ} {f : Option ℕ} {r : Answer} {n : FtNumber} {turn : Result ℕ TurnError} → n ≡ s.secured → turn ≡ turn_borne resumed n.0 g.protection → x ≡ Some k
      → (labels_stay s k g ≡ false → ws ≡ released_labels (take k s.queue) s.table.words)
      → (r ≡ labels_rule s.table.words (table_on im ws) turn g) × (r ≡ Answer.Done → Changed s.table.words (table_on im ws) g ws₂ f)
      → (r ≡ ack_rule s resumed g (ack_on s g)) × (r ≡ Answer.Done → Told s g ws₂ f)
  unfolding taken received_state
  ack_right {k} {ws} {n = n} {turn} en et t ew er = (
    rw (← e, t) (er.0 ∙ judged ∙ ap (λ (y : Result ℕ TurnError). labels_rule s.table.words (left k) y g) (et ∙ ap (λ (y : FtNumber). turn_borne resumed y.0 g.protection) en)),
    λ d. record {
      labels = λ f. (er.1 d).labels ∙ ap (λ (l : Table). message_labels s.table.words l g) (rw (← e, t) (loaded (rw (← e, t) at f)));
      place = rw (← e, t) ((er.1 d).place ∙ takes);
    },
  )
    where
      -- the words lent are those that the ACK leaves, beside the IDs and the entries that the image bears
      loaded : labels_stay s k g ≡ false → table_on im ws ≡ left k
      loaded y = ap (table_on im) (ew y) ∙ sym (acked_table im k (ack_borne s g.ack))

      unseen : labels_stay s k g ≡ true → touches_none (label_effect g) ≡ true
      unseen y = (both_true (touches_none (label_effect g)) (names_none (answers g)) (both_true (leaves_words g) (frees_none (take k s.queue)) y).0).0

      judged : labels_rule s.table.words (table_on im ws) turn g ≡ labels_rule s.table.words (left k) turn g
      judged = by_test (labels_stay s k g) (λ y. labels_unseen _ _ _ g (unseen y) turn) (λ y. ap (λ (l : Table). labels_rule s.table.words l turn g) (loaded y))

      takes : message_takes s.table.words (table_on im ws) g ≡ message_takes s.table.words (left k) g
      takes = by_test (labels_stay s k g) (λ y. takes_unseen _ _ _ g (unseen y)) (λ y. ap (λ (l : Table). message_takes s.table.words l g) (loaded y))

-- a test before the ACK refuses
pub ft_refused : (s : State) (resumed : Bool) (g : Message) {x a : Answer} {P : Type 0} → is_done x ≡ false → x ≡ ft_rule s resumed g → a ≡ x
    → (a ≡ ft_rule s resumed g) × (a ≡ Answer.Done → P)
ft_refused s resumed g {x} n e ea = (ea ∙ e, λ d. never x n (sym ea ∙ d))

pub ft_is : (s : State) (resumed : Bool) (g : Message) {x : Answer} → x ≡ message_rule g (pick (is_zero g.protection) Answer.ZeroNumber (ack_rule s resumed g (ack_on s g)))
    → x ≡ ft_rule s resumed g
unfolding ft_rule
ft_is s resumed g e = e

module _ (s : State) (resumed : Bool) (g : Message) {b f z : Bool} (eb : b ≡ is_init g.typename) (nb : b ≡ false) (ef : f ≡ is_fatal g.status) (nf : f ≡ false) (ez : z ≡ is_zero g.protection) where
  pub ft_zero : z ≡ true → Answer.ZeroNumber ≡ ft_rule s resumed g
  unfolding ft_rule
  ft_zero t = message_rest g _ eb nb ef nf (rw (← ez, t))

  pub ft_rest : {r : Answer} → z ≡ false → r ≡ ack_rule s resumed g (ack_on s g) → r ≡ ft_rule s resumed g
  unfolding ft_rule
  ft_rest t e = message_rest g _ eb nb ef nf (rw (← ez, t) e)

pub count_is : (s : State) (g : Message) {x y : Option ℕ} → x ≡ ack_on s g → x ≡ y → ack_count y ≡ ack_count (ack_on s g)
count_is s g e t = rw (← e, t)
