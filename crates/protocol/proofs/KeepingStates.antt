-- Each state that a rule makes of a lawful one is lawful. Assumes nothing.
use Rattle.std.specs.Prelude.{Some}
use Prim.Native.Nat.{ℕ, ◌+◌, ◌<◌}
use mathlib.Core.Bool.{true, false, true≢false}
use mathlib.Core.List.{List, [], ◌∷◌}
use mathlib.Core.Path.{◌≡◌, refl, sym, ap, ◌∙◌}
use native.Mathlib.Omega.{arith}
use lib.ListN.{take, length-append, length-drop}
use Rattle.octets.specs.Bytes.{Bytes}
use Rattle.ft_number.specs.Ack.{ack_of}
use Rattle.ft_number.specs.Circle.{steps_of}
use Rattle.ft_number.proofs.Circle.{counted, Acknowledged, ack_releases}
use Rattle.label_list.specs.declared.SweepRule.TheVariants.{AfterBreak}
use Rattle.label_list.specs.Counting.{counting}
use Rattle.label_list.specs.Rules.{code_swept}
use Rattle.label_list.specs.Sweep.{word_swept, swept_of}
use Rattle.label_list.specs.Word.{on_side, word_of, is_request, lists_label}
use Rattle.tlv.specs.Element.{entry_by}
use Rattle.message.specs.declared.Message.{Message}
use Rattle.message.specs.Submission.{submission_of, entry_in}
use Rattle.message.proofs.Widths.{entry_in_width}
use Rattle.protocol.specs.declared.Answer.{Answer}
use Rattle.protocol.specs.declared.Phase.{Phase}
use Rattle.protocol.specs.declared.Terms.{Terms}
use Rattle.protocol.specs.Acked.{released_labels, acked}
use Rattle.protocol.specs.Init.{fresh, resumed}
use Rattle.protocol.specs.Labels.{label_effect, is_protected, meets}
use Rattle.protocol.specs.Lawful.{TermsFit, Lawful}
use Rattle.protocol.specs.Receive.{secured_by, taken, message_labels, message_index}
use Rattle.protocol.specs.Send.{numbered}
use Rattle.protocol.specs.State.{State, held, released_state}
use Rattle.protocol.specs.Step.{broken}
use Rattle.protocol.specs.Submit.{submit_rule, submitted}
use Rattle.protocol.proofs.KeepingLabels.{TableLaw, none_law, table_law, broken-keeps, acked-keeps, effect_keeps, accepted_law, id_fits}
use Rattle.protocol.proofs.KeepingNumbers.{ack_window, number_fits, numbered_window}
use Rattle.protocol.proofs.KeepingQueue.{queued_storable, dropped_storable}
use Rattle.protocol.proofs.Submits.{Accepted, done_accepted}

-- ---- a session that begins
pub lawful_fresh : (t : Terms) → TermsFit t → Lawful (fresh t)
unfolding fresh steps_of
lawful_fresh t f = record {
  released = omega arith;
  issued = omega arith;
  secured = omega arith;
  terms = f;
  few = omega arith;
  window = record { steps = 0; reaches = refl; within = omega arith };
  words = none_law.beside.words;
  labels = none_law.beside.valid;
  ids = none_law.beside.ids;
  width = none_law.beside.width;
  counted = none_law.counted;
  once = none_law.beside.once;
  index = none_law.beside.index;
  indexed = none_law.indexed;
  entries = none_law.beside.entries;
  storable = λ i l. absurd (omega arith);
  idle = λ z. absurd (true≢false z);
}

pub lawful_released : Lawful released_state
unfolding steps_of
lawful_released = record {
  released = omega arith;
  issued = omega arith;
  secured = omega arith;
  terms = record { timeout = omega arith; keepalive = omega arith; maxpdu = omega arith };
  few = omega arith;
  window = record { steps = 0; reaches = refl; within = omega arith };
  words = none_law.beside.words;
  labels = none_law.beside.valid;
  ids = none_law.beside.ids;
  width = none_law.beside.width;
  counted = none_law.counted;
  once = none_law.beside.once;
  index = none_law.beside.index;
  indexed = none_law.indexed;
  entries = none_law.beside.entries;
  storable = λ i l. absurd (omega arith);
  idle = λ z. refl;
}

module _ (s : State) (law : Lawful s) where
  pub table_lawful : TableLaw s.table
  table_lawful = record {
    beside = record { words = law.words; valid = law.labels; ids = law.ids; width = law.width; once = law.once; index = law.index; entries = law.entries };
    counted = law.counted;
    indexed = law.indexed;
  }

  -- ---- a connection that ends: free words stay free
  broken-idle : s.kept ≡ false → broken s ≡ released_state
  unfolding word_swept word_of code_swept counting is_request lists_label on_side
  broken-idle z = ap broken (law.idle z)

  pub lawful_broken : Lawful (broken s)
  lawful_broken =
      let v = table_law (swept_of s.table.words AfterBreak) s.table.ids s.table.index (broken-keeps s.table.ids s.table.index s.table.words table_lawful.beside) in
      record {
        released = law.released;
        issued = law.issued;
        secured = law.secured;
        terms = law.terms;
        few = law.few;
        window = record { steps = law.window.steps; reaches = law.window.reaches; within = law.window.within };
        words = v.beside.words;
        labels = v.beside.valid;
        ids = v.beside.ids;
        width = v.beside.width;
        counted = v.counted;
        once = v.beside.once;
        index = v.beside.index;
        indexed = v.indexed;
        entries = v.beside.entries;
        storable = law.storable;
        idle = broken-idle;
      }

  -- ---- a message is queued
  pub lawful_submitted : (ph : Phase) (m : List ℕ) → Bytes m → submit_rule s ph m ≡ Answer.Done → Lawful (submitted s m)
  unfolding submitted
  lawful_submitted ph m byte e =
      let d : Accepted s m = done_accepted s ph m e in
      let v = accepted_law s.table table_lawful (entry_in m) (entry_in_width m byte) (submission_of m) (id_fits m byte) in
      let more : held (submitted s m) ≡ held s + 1 = length-append s.queue (m ∷ []) in
      record {
        released = law.released;
        issued = law.issued;
        secured = law.secured;
        terms = law.terms;
        few = omega (arith, d.room, more);
        window = record { steps = law.window.steps; reaches = law.window.reaches; within = omega (arith, law.window.within, more) };
        words = v.beside.words;
        labels = v.beside.valid;
        ids = v.beside.ids;
        width = v.beside.width;
        counted = v.counted;
        once = v.beside.once;
        index = v.beside.index;
        indexed = v.indexed;
        entries = v.beside.entries;
        storable = queued_storable s.queue m law.storable d.storable;
        idle = λ z. absurd (true≢false (sym d.kept ∙ z));
      }

  -- ---- a message that is held is numbered
  pub lawful_numbered : (sent : ℕ) → sent < held s → Lawful (numbered s sent)
  unfolding numbered
  lawful_numbered sent l = record {
    released = law.released;
    issued = number_fits s sent;
    secured = law.secured;
    terms = law.terms;
    few = law.few;
    window = numbered_window s law.released sent (omega (arith, law.few)) l;
    words = law.words;
    labels = law.labels;
    ids = law.ids;
    width = law.width;
    counted = law.counted;
    once = law.once;
    index = law.index;
    indexed = law.indexed;
    entries = law.entries;
    storable = law.storable;
    idle = λ z. let none : held s ≡ 0 = ap held (law.idle z) in absurd (omega arith);
  }

  -- ---- an ACK releases the oldest
  module _ (a k : ℕ) (la : a < 4294967296) (e : ack_of s.released.0 s.issued.0 a ≡ Some k) where
    -- of a released state nothing but itself
    acked-idle : s.kept ≡ false → acked s k a ≡ released_state
    unfolding acked released_labels counting is_request lists_label on_side
    acked-idle z =
        let c : Acknowledged s.released.0 s.issued.0 a k = ack_releases s.released.0 s.issued.0 a k e in
        let r : s.released.0 ≡ 0 = ap (λ (x : State). x.released.0) (law.idle z) in
        let i : s.issued.0 ≡ 0 = ap (λ (x : State). x.issued.0) (law.idle z) in
        let named : k ≡ a = (counted s.released.0 a k c.names).from_none r in
        let none : k ≡ 0 = omega (arith, c.few, (counted s.released.0 s.issued.0 c.issued c.window).from_none r) in
        rw (law.idle z, sym named ∙ none, none)

    pub lawful_acked : Lawful (acked s k a)
    unfolding acked
    lawful_acked =
        let v = table_law (released_labels (take k s.queue) s.table.words) s.table.ids s.table.index (acked-keeps s.table.ids s.table.index (take k s.queue) s.table.words table_lawful.beside) in
        record {
          released = la;
          issued = law.issued;
          secured = law.secured;
          terms = law.terms;
          few = omega (arith, law.few, length-drop k s.queue);
          window = ack_window s law.window a k e law.released law.issued la law.few;
          words = v.beside.words;
          labels = v.beside.valid;
          ids = v.beside.ids;
          width = v.beside.width;
          counted = v.counted;
          once = v.beside.once;
          index = v.beside.index;
          indexed = v.indexed;
          entries = v.beside.entries;
          storable = dropped_storable s.queue k law.storable;
          idle = acked-idle;
        }

-- ---- in a state that is kept
module _ (s : State) (law : Lawful s) (kept : s.kept ≡ true) where
  not-idle : {P : Type 0} → s.kept ≡ false → P
  not-idle z = absurd (true≢false (sym kept ∙ z))

  -- a message is taken
  pub lawful_taken : (old : List ℕ) (g : Message) → (secured_by s.secured g.protection).0 < 4294967296 → entry_by g.fec < 18446744073709551616 → Lawful (taken old s g)
  unfolding taken
  lawful_taken old g l w =
      let v = table_law (message_labels old s.table g) s.table.ids (message_index old s.table g)
      (effect_keeps s.table (meets old s.table g) (is_protected g.protection) (label_effect g) (entry_by g.fec) w (table_lawful s law).beside) in
      record {
        released = law.released;
        issued = law.issued;
        secured = l;
        terms = law.terms;
        few = law.few;
        window = record { steps = law.window.steps; reaches = law.window.reaches; within = law.window.within };
        words = v.beside.words;
        labels = v.beside.valid;
        ids = v.beside.ids;
        width = v.beside.width;
        counted = v.counted;
        once = v.beside.once;
        index = v.beside.index;
        indexed = v.indexed;
        entries = v.beside.entries;
        storable = law.storable;
        idle = not-idle;
      }

  -- a session is resumed
  pub lawful_resumed : (t : Terms) (k a : ℕ) → t.timeout < 4294967296 → a < 4294967296 → ack_of s.released.0 s.issued.0 a ≡ Some k → Lawful (resumed s t k a)
  unfolding resumed acked
  lawful_resumed t k a lt la e =
      let n = lawful_acked s law a k la e in
      record {
        released = n.released;
        issued = n.issued;
        secured = n.secured;
        terms = record { timeout = lt; keepalive = n.terms.keepalive; maxpdu = n.terms.maxpdu };
        few = n.few;
        window = record { steps = n.window.steps; reaches = n.window.reaches; within = n.window.within };
        words = n.words;
        labels = n.labels;
        ids = n.ids;
        width = n.width;
        counted = n.counted;
        once = n.once;
        index = n.index;
        indexed = n.indexed;
        entries = n.entries;
        storable = n.storable;
        idle = not-idle;
      }
