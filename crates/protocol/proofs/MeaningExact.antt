-- A Withdraw or Release that is received acts on exactly the labels that it touches. Assumes nothing.
use Rattle.std.specs.Prelude.{Option, Some, None}
use Prim.Native.Nat.{ℕ}
use mathlib.Core.Bool.{Bool, false, true≢false}
use mathlib.Core.List.{List}
use mathlib.Core.Path.{◌≡◌, refl, sym, ap, ◌∙◌}
use lib.ListN.{take}
use Rattle.octets.proofs.Pairs.{some_pair}
use Rattle.label_list.specs.declared.LabelMessage.{LabelMessage}
use Rattle.label_list.specs.declared.Side.{Side}
use Rattle.label_list.specs.Rules.{received_side, code_received}
use Rattle.label_list.specs.Word.{is_request, lists_label}
use Rattle.label_list.proofs.Counting.{counting_twice}
use Rattle.tlv.specs.Element.{entry_by}
use Rattle.label_events.specs.declared.Meets.{Meets}
use Rattle.label_events.specs.declared.Touched.{Touched}
use Rattle.label_events.specs.Change.{put_at, code_at}
use Rattle.label_events.specs.Requests.{ended_at}
use Rattle.message.specs.declared.Message.{Message}
use Rattle.message.specs.declared.MessageType.{MessageType}
use Rattle.label_meaning.specs.Event.{Received, after_event, Touches}
use Rattle.label_meaning.specs.Exact.{ActsOnExactly}
use Rattle.label_meaning.specs.Valid.{IsValid}
use Rattle.label_meaning.specs.Withdrawal.{is_mapping}
use Rattle.label_meaning.proofs.Exact.{acts_exactly}
use Rattle.label_meaning.proofs.Meaning.{valid_means}
use Rattle.label_meaning.proofs.Taken.{only_mapping}
use Rattle.protocol.specs.Acked.{acked}
use Rattle.protocol.specs.Cases.{table_after}
use Rattle.protocol.specs.Labels.{effect_labels, effect_takes, touched_by, answers, answered_at, is_protected, label_effect, meets, reached}
use Rattle.protocol.specs.Lawful.{Lawful}
use Rattle.protocol.specs.MeaningExact.{ActsOnTouched}
use Rattle.protocol.specs.MeaningLabels.{LabelType, of_mapping, of_withdraw, of_release, Touching}
use Rattle.protocol.specs.Receive.{ack_count, ack_on, received_state, taken}
use Rattle.protocol.specs.State.{State, Table, table_of}
use Rattle.protocol.proofs.KeepingLabels.{acked-keeps}
use Rattle.protocol.proofs.KeepingStates.{table_lawful}
use Rattle.protocol.proofs.MeaningLabels.{effect_of_lem, effect_touches, touching_effect}

-- neither answers a Request
no_answer : (g : Message) (m : LabelMessage) (x : MessageType) → g.typename ≡ x → LabelType x m → is_mapping m ≡ false → (t : Table) → answered_at t g ≡ None
unfolding answered_at answers
no_answer g LabelMessage.Mapping MessageType.Mapping q of_mapping other t = absurd (true≢false other)
no_answer g LabelMessage.Withdraw MessageType.Withdraw q of_withdraw other t = rw q
no_answer g LabelMessage.Release MessageType.Release q of_release other t = rw q
no_answer g m x q none other t = elim none [ ]

-- a message of that effect over the table t, which is one of a state
module _ (t : Table) (v : IsValid t.words) (g : Message) (m : LabelMessage) (x : Meets) (request : x.request ≡ None) (other : is_mapping m ≡ false)
    (touched : Touched) (effect : label_effect g ≡ Some (m, touched)) where
  abbrev p : Bool
  p = is_protected g.protection

  abbrev left : List ℕ
  left = after_event t.words (Received x m p (reached t m touched))

  exactly : ActsOnExactly t.words x m p (reached t m touched)
  exactly = acts_exactly t.words v x m p other (reached t m touched)

  touches : (l : ℕ) → Touching t g m l → Touches (reached t m touched) l
  touches l y =
      let z = touching_effect t g m y in
      let same : z.0 ≡ touched = sym (some_pair (sym effect ∙ z.1)).1 in
      rw (← same) z.2

  each_touched : (l : ℕ) → Touching t g m l → code_at left (received_side m) l ≡ code_received m p (code_at t.words (received_side m) l)
  each_touched l y = exactly.each l (touches l y)

  others_stay : (side : Side) (l : ℕ) → ((side ≡ received_side m) × Touching t g m l → ⊥) → code_at left side l ≡ code_at t.words side l
  others_stay side l apart = exactly.others side l (λ z. apart (z.0, effect_touches t g m touched effect z.1))

  words_stay : ((l : ℕ) → Touching t g m l → code_at t.words (received_side m) l ≡ 0) → left ≡ t.words
  unfolding ended_at
  words_stay none = exactly.none (λ l y. none l (effect_touches t g m touched effect y)) ∙ rw request

  -- the table that it leaves: no word is taken
  table_of_lem : (entry : ℕ) (f : Option (LabelMessage × Touched)) → f ≡ Some (m, touched)
      → table_of (effect_labels t x p f) t.ids (put_at (effect_takes t x p f) entry t.index) ≡ table_of left t.ids t.index
  unfolding after_event
  table_of_lem entry f q = rw (q, only_mapping t.words x m p other touched)

-- THE THEOREM: a Withdraw or Release that is taken acts on exactly the labels that it touches.
module _ (s : State) (law : Lawful s) (g : Message) (m : LabelMessage) (type : LabelType g.typename m) (other : is_mapping m ≡ false) where
  abbrev t : Table
  t = table_after s (ack_count (ack_on s g))

  abbrev x : Meets
  x = meets s.table.words t g

  abbrev touched : Touched
  touched = touched_by g.label g.fec

  v : IsValid t.words
  v = valid_means t.words (acked-keeps s.table.ids s.table.index (take (ack_count (ack_on s g)) s.queue) s.table.words (table_lawful s law).beside).valid

  effect : label_effect g ≡ Some (m, touched)
  unfolding label_effect
  effect = effect_of_lem g.typename m type touched

  request : x.request ≡ None
  request = no_answer g m g.typename refl type other t

  table_is : (received_state s g).table
      ≡ table_of (after_event t.words (Received x m (is_protected g.protection) (reached t m touched))) t.ids t.index
  unfolding received_state taken acked
  table_is = table_of_lem t v g m x request other touched effect (entry_by g.fec) (label_effect g) effect

  same_table : table_of t.words t.ids t.index ≡ t
  same_table = rw (counting_twice 0 is_request t.words s.table.ids, counting_twice 0 lists_label t.words s.table.index)

  pub acts_on-touched : ActsOnTouched t g m (received_state s g).table
  acts_on-touched =
      rw table_is
      (record {
        each = each_touched t v g m x request other touched effect;
        others = others_stay t v g m x request other touched effect;
        none = λ none. ap (λ (ws : List ℕ). table_of ws t.ids t.index) (words_stay t v g m x request other touched effect none) ∙ same_table;
      })
