-- What accepting a message makes of the labels: it moves the one that it names, or none. Assumes nothing.
use Rattle.std.specs.Prelude.{Result, Ok, Err, Option, Some, None}
use Prim.Native.Nat.{ℕ}
use mathlib.Core.Bool.{true}
use mathlib.Core.List.{List}
use mathlib.Core.Path.{◌≡◌, refl}
use Rattle.ft_number.specs.declared.MessageId.{MessageId}
use Rattle.label_list.specs.declared.LabelMessage.TheVariants.{Mapping, Withdraw, Release}
use Rattle.label_list.specs.declared.Side.{Side}
use Rattle.label_list.specs.Requests.{open_at}
use Rattle.label_list.specs.Valid.{valid_of}
use Rattle.label_events.specs.Accept.{accepted_by}
use Rattle.label_events.specs.Change.{code_at}
use Rattle.label_events.specs.Requests.{asked_plan}
use Rattle.message.specs.declared.Kind.{Kind}
use Rattle.message.specs.declared.SubmissionError.{SubmissionError}
use Rattle.label_meaning.specs.Event.{Accepted, after_event}
use Rattle.label_meaning.proofs.Meaning.{valid_means}
use Rattle.label_meaning.proofs.RequestIds.{aborted_event, asked-event}
use Rattle.label_meaning.proofs.Unlisted.{asked_stays, ended_stays, stay_code}
use Rattle.protocol.specs.Accepting.{accepted_as}
use Rattle.protocol.specs.State.{Table}
use Rattle.protocol.specs.Submit.{accepted_labels}

-- no label's code is another
abbrev pub SameCodes : List ℕ → List ℕ → Type 0
SameCodes ls after = (side : Side) (l : ℕ) → code_at after side l ≡ code_at ls side l

pub data AcceptedWords (ls : List ℕ) : Result (Kind × ℕ) SubmissionError → List ℕ → Type 0 where
  mapping_accepted : {k : ℕ} → AcceptedWords ls (Ok (Kind.Mapping, k)) (after_event ls (Accepted Mapping k))
  withdraw_accepted : {k : ℕ} → AcceptedWords ls (Ok (Kind.Withdraw, k)) (after_event ls (Accepted Withdraw k))
  release_accepted : {k : ℕ} → AcceptedWords ls (Ok (Kind.Release, k)) (after_event ls (Accepted Release k))
  codes_kept : {j : Result (Kind × ℕ) SubmissionError} {after : List ℕ} → SameCodes ls after → AcceptedWords ls j after

module _ (t : Table) (v : valid_of t.words ≡ true) where
  stays : {j : Result (Kind × ℕ) SubmissionError} → AcceptedWords t.words j t.words
  stays = codes_kept (λ side l. refl)

  -- a Request takes a word that lists no label, an Abort frees one
  asked : {j : Result (Kind × ℕ) SubmissionError} (id : MessageId) → AcceptedWords t.words j (accepted_by t.words (asked_plan t.words t.ids id)).1
  unfolding asked_plan after_event
  asked {j} id = by (open_at id t.words t.ids) refl
    where
      by : (f : Option ℕ) → open_at id t.words t.ids ≡ f → AcceptedWords t.words j (accepted_by t.words (asked_plan t.words t.ids id)).1
      by (Some i) e = rw e stays
      by None e = rw (asked-event t.words t.ids id e).0 (codes_kept (stay_code (asked_stays t.words (valid_means t.words v))))

  words_as : (kind : Kind) (label : ℕ) → AcceptedWords t.words (Ok (kind, label)) (accepted_as t kind label).1
  unfolding accepted_as after_event
  words_as Kind.Mapping label = mapping_accepted
  words_as Kind.Withdraw label = withdraw_accepted
  words_as Kind.Release label = release_accepted
  words_as Kind.Address label = stays
  words_as Kind.AddressWithdraw label = stays
  words_as Kind.ResourcesAvailable label = stays
  words_as (Kind.Request id) label = asked id
  words_as (Kind.Abort id) label =
      rw (aborted_event t.words t.ids id) (codes_kept (stay_code (ended_stays t.words (valid_means t.words v) (open_at id t.words t.ids))))
  words_as Kind.NoResources label = stays
  words_as Kind.NoKind label = stays

  pub accepted_words : (j : Result (Kind × ℕ) SubmissionError) → AcceptedWords t.words j (accepted_labels t j)
  accepted_words (Err SubmissionError.Malformed) = stays
  accepted_words (Err SubmissionError.Refused) = stays
  accepted_words (Ok (kind, label)) = words_as kind label
