-- Submit's answers in their order, each from the tests that lead to it. Assumes nothing.
use Rattle.std.specs.Prelude.{Result, Ok}
use Prim.Native.Nat.{◌<◌, ◌≤◌, ℕ}
use mathlib.Core.Bool.{Bool, false, false≢true, true}
use mathlib.Core.List.{List}
use mathlib.Core.Path.{◌∙◌, ◌≡◌, ap, refl, sym}
use lib.ListN.{length}
use borrow.Author.Tests.{eq-eqb, le-leb, le-ltb, lt-leb, lt-ltb, ne_eqb}
use Rattle.octets.specs.Pick.{pick}
use Rattle.octets.proofs.Choice.{by_test}
use Rattle.block0.specs.declared.Header.{Header}
use Rattle.block0.specs.Layout.{slot_count}
use Rattle.label_events.specs.declared.Acceptance.{Acceptance}
use Rattle.label_events.specs.declared.Change.{Change}
use Rattle.message.specs.declared.Kind.{Kind}
use Rattle.message.specs.declared.SubmissionError.{SubmissionError}
use Rattle.message.specs.Storable.{longest, shortest}
use Rattle.message.specs.Submission.{entry_in, submission_of}
use Rattle.image.specs.State.{decode}
use Rattle.image.proofs.Queue.{queue_length}
use Rattle.protocol.specs.declared.Answer.{Answer}
use Rattle.protocol.specs.declared.Effect.{Effect}
use Rattle.protocol.specs.declared.Phase.{Phase}
use Rattle.protocol.specs.Accepting.{accepted_as, is_barred, changes_entry}
use Rattle.protocol.specs.Answers.{effect_of, is_done}
use Rattle.protocol.specs.State.{State, Table}
use Rattle.protocol.specs.Submit.{acceptance_rule, kind_rule, room_rule, submission_rule, submit_rule}
use Rattle.protocol.specs.SubmitCases.{Fitting}
use Rattle.protocol.proofs.Effects.{done_is}
use Rattle.protocol.proofs.Submits.{done_accepted, submit_harmless}
use Rattle.calls.specs.State.{state_of}
use Rattle.submit.specs.Change.{accepted_change}
use Rattle.submit.specs.Mapping.{accepted_for, change_for, entry_for}

-- ---- 1, 3, 4, 5
module _ (im : List ℕ) (ph : Phase) (m : List ℕ) {h : Header} (eh : h ≡ (decode im).header) where
  pub not_kept : (h.kept ≡ 1 → ⊥) → Answer.WrongPhase ≡ submit_rule (state_of im) ph m
  unfolding submit_rule
  not_kept n = rw (← eh, ne_eqb h.kept 1 n)

  module _ (kept : h.kept ≡ 1) where
    pub too_short : length m < shortest → Answer.LengthOutOfRange ≡ submit_rule (state_of im) ph m
    unfolding submit_rule
    too_short l = rw (← eh, eq-eqb h.kept 1 kept, lt-ltb (length m) shortest l)

    module _ (low : shortest ≤ length m) where
      pub too_long : longest < length m → Answer.LengthOutOfRange ≡ submit_rule (state_of im) ph m
      unfolding submit_rule
      too_long l = rw (← eh, eq-eqb h.kept 1 kept, le-ltb (length m) shortest low, lt-ltb longest (length m) l)

      pub fitting_is : length m ≤ longest → Fitting (state_of im) m
      fitting_is high = record { kept = rw (← eh) (eq-eqb h.kept 1 kept); low = low; high = high }

pub submission_is : {s : State} {m : List ℕ} (ph : Phase) → Fitting s m → {j x : Result (Kind × ℕ) SubmissionError} → j ≡ submission_of m → j ≡ x → submission_rule s ph x (entry_in m) ≡ submit_rule s ph m
unfolding submit_rule
submission_is {s} {m} ph w ej e =
    rw (w.kept, le-ltb (length m) shortest w.low, le-ltb longest (length m) w.high, ← ej, e)

-- ---- 6, 14, 15, 13, 7
pub barred_is : (im : List ℕ) (ph : Phase) (kind : Kind) (label entry : ℕ) {b : Bool} → b ≡ is_barred (decode im).queue kind label → b ≡ true
    → Answer.LabelNotAllowed ≡ kind_rule (state_of im) ph kind label entry
unfolding kind_rule
barred_is im ph kind label entry eb t = rw (← eb, t)

-- of a Mapping alone the entry is asked
changes_for : (t : Table) (kind : Kind) (label entry : ℕ) → changes_entry t kind label (entry_for kind entry) ≡ changes_entry t kind label entry
changes_for t Kind.Mapping label entry = refl
changes_for t Kind.Withdraw label entry = refl
changes_for t Kind.Release label entry = refl
changes_for t Kind.Address label entry = refl
changes_for t Kind.AddressWithdraw label entry = refl
changes_for t Kind.ResourcesAvailable label entry = refl
changes_for t (Kind.Request id) label entry = refl
changes_for t (Kind.Abort id) label entry = refl
changes_for t Kind.NoResources label entry = refl
changes_for t Kind.NoKind label entry = refl

-- the answer to the label and to the entry is one
module _ (im : List ℕ) (ph : Phase) (kind : Kind) (label entry : ℕ) {n : ℕ} (en : n ≡ entry_for kind entry)
    {x : Acceptance} (ex : x ≡ accepted_for (state_of im).table kind label n) {a : Answer} (ea : a ≡ acceptance_rule (state_of im) ph kind x) where
  abbrev changes : Bool
  changes = changes_entry (state_of im).table kind label entry

  is_asked : x ≡ pick changes Acceptance.NotAllowed (accepted_as (state_of im).table kind label).0
  unfolding accepted_for
  is_asked = rw (en, changes_for (state_of im).table kind label entry) at ex

  pub judged_is : {b : Bool} → b ≡ is_barred (decode im).queue kind label → b ≡ false → a ≡ kind_rule (state_of im) ph kind label entry
  unfolding kind_rule
  judged_is eb f = ea ∙ rw (← eb, f, is_asked) (by_test changes (λ t. rw t) (λ n. rw n))

  -- what is done has the entry of its label
  pub judged-change : is_done a ≡ true → {y : Change} → y ≡ change_for (state_of im).table kind label n → y ≡ accepted_change (state_of im).table kind label
  unfolding change_for
  judged-change done {y} ey =
      by_test changes
      (λ t. absurd (false≢true (sym (rw (ea, is_asked, t)) ∙ done)))
      (λ f. rw (en, changes_for (state_of im).table kind label entry, f) at ey)

-- 7
module _ (im : List ℕ) {h : Header} (eh : h ≡ (decode im).header) where
  pub full_is : slot_count ≤ h.held → Answer.StoreFull ≡ room_rule (state_of im)
  full_is l = rw (queue_length im, ← eh, le-leb slot_count h.held l)

  pub room_is : h.held < slot_count → Answer.Done ≡ room_rule (state_of im)
  room_is l = rw (queue_length im, ← eh, lt-leb slot_count h.held l)

-- what the answer tells, Done or not
module _ (im : List ℕ) (ph : Phase) (m : List ℕ) {kind : Kind} {label : ℕ} (w : Fitting (state_of im) m) (j : submission_of m ≡ Ok (kind, label))
    {a : Answer} (e : a ≡ kind_rule (state_of im) ph kind label (entry_in m)) where
  is_rule : a ≡ submit_rule (state_of im) ph m
  is_rule = e ∙ submission_is ph w refl j

  pub judged_harmless : is_done a ≡ false → effect_of a ≡ Effect.Nothing
  judged_harmless n = ap effect_of is_rule ∙ submit_harmless (state_of im) ph m (ap is_done (sym is_rule) ∙ n)

  pub judged-room : is_done a ≡ true → (decode im).header.held < slot_count
  judged-room t = rw (← queue_length im) (done_accepted (state_of im) ph m (sym is_rule ∙ done_is a t)).room
