-- What our own messages do to the label words is what the label list's events do, as they are accepted for sending and as they are acknowledged. Assumes nothing.
use Prim.Native.Nat.{ℕ}
use mathlib.Core.List.{List}
use mathlib.Core.Logic.{◌≢◌}
use mathlib.Core.Path.{◌≡◌, refl}
use native.Mathlib.Omega.{arith}
use borrow.Author.Tests.{ne_eqb}
use Rattle.label_list.specs.declared.LabelMessage.{LabelMessage}
use Rattle.label_list.specs.declared.Side.{Side}
use Rattle.label_events.specs.declared.Acceptance.{Acceptance}
use Rattle.label_events.specs.Change.{code_at}
use Rattle.message.specs.declared.Kind.{Kind}
use Rattle.label_meaning.specs.Event.{Accepted, after_event, withdraw-acked, back_acked, release-acked}
use Rattle.label_meaning.specs.Valid.{IsValid}
use Rattle.label_meaning.proofs.Life.{move_happens}
use Rattle.protocol.specs.Accepting.{accepted_as}
use Rattle.protocol.specs.Acked.{released_kind}
use Rattle.protocol.specs.MeaningLabels.{NeverBare, address, address-withdraw, resources, SentKind, sent-mapping, sent-withdraw, sent-release}
use Rattle.protocol.specs.State.{Table}

-- ---- "Accepted for sending": kinds 1 to 3 are events of the label, kinds 4 to 6 and 9 change nothing
pub accepted_event : (t : Table) (label : ℕ) {kind : Kind} {message : LabelMessage} → SentKind kind message
    → (accepted_as t kind label).1 ≡ after_event t.words (Accepted message label)
unfolding accepted_as after_event
accepted_event t label sent-mapping = refl
accepted_event t label sent-withdraw = refl
accepted_event t label sent-release = refl

pub accepted_bare : (t : Table) (label : ℕ) {kind : Kind} → NeverBare kind → accepted_as t kind label ≡ (Acceptance.Taken, t.words)
unfolding accepted_as
accepted_bare t label address = refl
accepted_bare t label address-withdraw = refl
accepted_bare t label resources = refl

pub accepted_stop : (t : Table) (label : ℕ) → accepted_as t Kind.NoResources label ≡ (Acceptance.Taken, t.words)
unfolding accepted_as
accepted_stop t label = refl

-- ---- 01: "Released by ACK: Withdraw 2 becomes free; Release 5 becomes free; other codes stay." 02: "Free a withdrawn label at the second of Release and ACK."
module _ (ls : List ℕ) (v : IsValid ls) (label : ℕ) where
  -- the ACK of a Withdraw is the first of the two for its label of code 2,
  pub withdraw-released : code_at ls Side.Given label ≡ 2 → code_at (released_kind 2 label ls) Side.Given label ≡ 8
  unfolding released_kind after_event
  withdraw-released two = move_happens ls v withdraw-acked (omega arith) two tt

  -- and frees that of code 9, whose Release has come
  pub back_released : code_at ls Side.Given label ≡ 9 → code_at (released_kind 2 label ls) Side.Given label ≡ 0
  unfolding released_kind after_event
  back_released nine = move_happens ls v back_acked (omega arith) nine tt

  -- that of a Release frees its label of code 5
  pub release-released : code_at ls Side.Used label ≡ 5 → code_at (released_kind 3 label ls) Side.Used label ≡ 0
  unfolding released_kind after_event
  release-released five = move_happens ls v release-acked (omega arith) five tt

  -- of every other kind nothing changes
  pub other-released : (kind : ℕ) → kind ≢ 2 → kind ≢ 3 → released_kind kind label ls ≡ ls
  unfolding released_kind
  other-released kind w r = rw (ne_eqb kind 2 w, ne_eqb kind 3 r)
