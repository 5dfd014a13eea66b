-- The label words that the rules leave: what every label event keeps, they keep; so they are valid again. Assumes nothing.
use Rattle.std.specs.Prelude.{Result, Ok, Err, Option, Some, None}
use Prim.Native.Nat.{ℕ}
use mathlib.Core.Bool.{Bool, true}
use mathlib.Core.List.{[], List, ◌∷◌}
use mathlib.Core.Path.{◌≡◌, refl}
use lib.Dec.{eqb}
use Rattle.octets.proofs.Choice.{pick_all}
use Rattle.ft_number.specs.declared.MessageId.{MessageId}
use Rattle.label_list.specs.declared.LabelMessage.{LabelMessage}
use Rattle.label_list.specs.declared.SweepRule.TheVariants.{AfterBreak}
use Rattle.label_list.specs.Requests.{open_at}
use Rattle.label_list.specs.Sweep.{swept_of}
use Rattle.label_list.specs.Valid.{valid_of, valid_word}
use Rattle.label_list.specs.Word.{is_free}
use Rattle.label_events.specs.declared.Meets.{Meets}
use Rattle.label_events.specs.declared.Touched.{Touched}
use Rattle.label_events.specs.Accept.{accepted_by}
use Rattle.label_events.specs.Requests.{asked_plan}
use Rattle.message.specs.declared.Kind.{Kind}
use Rattle.message.specs.declared.SubmissionError.{SubmissionError}
use Rattle.message.specs.Kinds.{kind_number}
use Rattle.message.specs.Storable.{kind_in, label_in}
use Rattle.message.specs.Submission.{submission_of}
use Rattle.label_meaning.specs.Event
use Rattle.label_meaning.specs.Event.{LabelEvent, Acked, Asked, Ended, Received, Broken, after_event}
use Rattle.label_meaning.proofs.RequestIds.{aborted_event, asked-event}
use Rattle.label_meaning.proofs.Step.{step_valid}
use Rattle.protocol.specs.Accepting.{accepted_as}
use Rattle.protocol.specs.Acked.{released_kind, released_labels}
use Rattle.protocol.specs.Labels.{effect_labels, reached}
use Rattle.protocol.specs.State.{no_table, Table}
use Rattle.protocol.specs.Submit.{accepted_labels}

-- ---- a message is accepted
-- a Request takes the first free word, where it is taken
asked-keeps : (P : List ℕ → Type 0) (t : Table) → P t.words → P (after_event t.words Asked) → (id : MessageId) → P (accepted_by t.words (asked_plan t.words t.ids id)).1
unfolding asked_plan
asked-keeps P t here asked id = by (open_at id t.words t.ids) refl
  where
    by : (f : Option ℕ) → open_at id t.words t.ids ≡ f → P (accepted_by t.words (asked_plan t.words t.ids id)).1
    by (Some i) e = rw e here
    by None e = rw (asked-event t.words t.ids id e).0 asked

-- what every event of the words keeps, accepting keeps
module _ (P : List ℕ → Type 0) (t : Table) (here : P t.words) (each : (e : LabelEvent) → P (after_event t.words e)) where
  kept_as : (kind : Kind) (label : ℕ) → P (accepted_as t kind label).1
  unfolding accepted_as after_event
  kept_as Kind.Mapping label = each (Event.Accepted LabelMessage.Mapping label)
  kept_as Kind.Withdraw label = each (Event.Accepted LabelMessage.Withdraw label)
  kept_as Kind.Release label = each (Event.Accepted LabelMessage.Release label)
  kept_as Kind.Address label = here
  kept_as Kind.AddressWithdraw label = here
  kept_as Kind.ResourcesAvailable label = here
  kept_as (Kind.Request id) label = asked-keeps P t here (each Asked) id
  kept_as (Kind.Abort id) label = rw (aborted_event t.words t.ids id) (each (Ended (open_at id t.words t.ids)))
  kept_as Kind.NoResources label = here
  kept_as Kind.NoKind label = here

  pub accepted_keeps : (j : Result (Kind × ℕ) SubmissionError) → P (accepted_labels t j)
  accepted_keeps (Err SubmissionError.Malformed) = here
  accepted_keeps (Err SubmissionError.Refused) = here
  accepted_keeps (Ok (kind, label)) = kept_as kind label

-- ---- messages are released
module _ (P : List ℕ → Type 0) (each : (words : List ℕ) → P words → (message : LabelMessage) (label : ℕ) → P (after_event words (Acked message label))) where
  kind_keeps : (kind label : ℕ) (words : List ℕ) → P words → P (released_kind kind label words)
  unfolding released_kind after_event
  kind_keeps kind label words p =
      pick_all P (eqb kind (kind_number Kind.Withdraw)) (each words p LabelMessage.Withdraw label)
      (pick_all P (eqb kind (kind_number Kind.Release)) (each words p LabelMessage.Release label) p)

  pub released-keeps : (ms : List (List ℕ)) (words : List ℕ) → P words → P (released_labels ms words)
  unfolding released_labels
  released-keeps [] words p = p
  released-keeps (m ∷ ms) words p =
      let kind = kind_in (submission_of m) in
      let label = label_in (submission_of m) in
      released-keeps ms (released_kind kind label words) (kind_keeps kind label words p)

-- ---- so they are valid
abbrev Valid : List ℕ → Type 0
Valid words = valid_of words ≡ true

pub none_valid : Valid no_table.words
unfolding valid_of valid_word is_free
none_valid = refl

pub accepted_valid : (t : Table) → Valid t.words → (j : Result (Kind × ℕ) SubmissionError) → Valid (accepted_labels t j)
accepted_valid t valid j = accepted_keeps Valid t valid (λ e. step_valid t.words e valid) j

pub received_valid : (t : Table) → Valid t.words → (x : Meets) (protected : Bool) (e : Option (LabelMessage × Touched)) → Valid (effect_labels t x protected e)
unfolding after_event
received_valid t valid x protected None = step_valid t.words (Ended x.request) valid
received_valid t valid x protected (Some (m, touched)) = step_valid t.words (Received x m protected (reached t m touched)) valid

module _ (words : List ℕ) (valid : Valid words) where
  pub broken_valid : Valid (swept_of words AfterBreak)
  unfolding after_event
  broken_valid = step_valid words Broken valid

pub released_valid : (ms : List (List ℕ)) (words : List ℕ) → Valid words → Valid (released_labels ms words)
released_valid ms words valid = released-keeps Valid (λ ws v message label. step_valid ws (Acked message label) v) ms words valid
