-- What a whole reading and an accepted submission tell their callers. Assumes nothing.
use Rattle.std.specs.Prelude.{Result, Ok, Err, Option, Some, None}
use Prim.Native.Nat.{ℕ, ◌+◌, ◌≤◌, ◌<◌}
use mathlib.Core.Bool.{Bool, true, false, not}
use mathlib.Core.List.{List}
use mathlib.Core.Path.{◌≡◌, refl, sym, ◌∙◌, ap}
use native.Mathlib.Omega.{arith}
use lib.Dec.{eqb}
use lib.ListN.{length}
use borrow.Author.Tests.{eqb-true, not-false}
use Rattle.octets.specs.Be.{be_at}
use Rattle.octets.specs.Pick.{pick, both}
use Rattle.octets.proofs.Pairs.{ok_pair}
use Rattle.ft_number.specs.declared.MessageId.{MessageId}
use Rattle.tlv.specs.declared.Found.{Found}
use Rattle.tlv.specs.Tlv.{largest_label}
use Rattle.tlv.specs.Value.{Places}
use Rattle.tlv.specs.Walk.{head_size, tlvs_of}
use Rattle.tlv.proofs.Places.{whole_tlvs, found_lies, places}
use Rattle.tlv.proofs.Values.{InMessage, part_in, field_low}
use Rattle.message.specs.declared.Kind.{Kind}
use Rattle.message.specs.declared.Message.{Message}
use Rattle.message.specs.declared.MessageType.{MessageType}
use Rattle.message.specs.declared.SubmissionError.{SubmissionError}
use Rattle.message.specs.Kinds.{kind_number, last_kind, fatal_of, status_code, resources_available, no_resources, notification_kind, abort_kind, kind_for, kind_of}
use Rattle.message.specs.Reading.{type_of, number_in, id_in, bears_of, places_by, places_of, message_of, reading_by, reading_of}
use Rattle.message.specs.Submission.{bears_ft, no_label, labelled_as, submission_by_kind, submission_by_reading, submission_of}

-- a message that is read whole
pub record Whole (m : List ℕ) (g : Message) : Type 0 where
  pub is : g ≡ message_of m g.found
  pub tlvs : tlvs_of m ≡ Some g.found
  pub bears : bears_of (type_of (number_in m)) g.found ≡ true

pub whole : (m : List ℕ) (g : Message) → reading_of m ≡ Some g → Whole m g
unfolding reading_of places_of message_of
whole m g e = by_walk (tlvs_of m) refl e
  where
    by_bears : (f : Found) (b : Bool) → tlvs_of m ≡ Some f → bears_of (type_of (number_in m)) f ≡ b
        → reading_by m (pick (not b) None (Some f)) ≡ Some g → Whole m g
    by_bears f false q p h = let z : ◌≡◌ {A = ℕ} 0 1 = cc in absurd (omega arith)
    by_bears f true q p h =
        let is : message_of m f ≡ g = cc in
        let found : f ≡ g.found = ap (λ (x : Message). x.found) is in
        record { is = sym is ∙ ap (message_of m) found; tlvs = q ∙ ap Some found; bears = rw found at p }

    by_walk : (w : Option Found) → tlvs_of m ≡ w → reading_by m (places_by m w) ≡ Some g → Whole m g
    by_walk None q h = let z : ◌≡◌ {A = ℕ} 0 1 = cc in absurd (omega arith)
    by_walk (Some f) q h = by_bears f (bears_of (type_of (number_in m)) f) q refl h

module _ (m : List ℕ) (g : Message) (e : reading_of m ≡ Some g) where
  -- the message's own length is that of the bytes after it, and it has a head
  pub whole_head : head_size ≤ length m
  whole_head = (whole_tlvs m g.found (whole m g e).tlvs).head

  -- its length is that of the bytes after it
  pub whole_length : be_at 2 m 2 + 4 ≡ length m
  whole_length = (whole_tlvs m g.found (whole m g e).tlvs).adds

  -- the TLVs that were found lie within the message
  pub whole-places : Places m g.found
  whole-places = places m g.found (whole m g e).tlvs

  -- its message ID is that of the head
  pub whole-id : g.id ≡ id_in m
  unfolding message_of
  whole-id = ap (λ (x : Message). x.id) (whole m g e).is

  -- and so is its type number
  pub whole-number : g.typenumber ≡ number_in m
  unfolding message_of
  whole-number = ap (λ (x : Message). x.typenumber) (whole m g e).is

  -- the values that are shown as parts lie within the message
  pub whole_fec : InMessage m g.fecvalue
  unfolding message_of
  whole_fec = rw (ap (λ (x : Message). x.fecvalue) (whole m g e).is) (part_in m g.found.fec whole-places.fec)

  -- so do the parameters
  pub whole-parameters : InMessage m g.parametersvalue
  unfolding message_of
  whole-parameters = rw (ap (λ (x : Message). x.parametersvalue) (whole m g e).is) (part_in m g.found.parameters whole-places.parametersvalue)

  -- "a label above 1,048,575" is malformed
  pub whole_label : (l : ℕ) → g.label ≡ Some l → l ≤ largest_label
  unfolding message_of
  whole_label l h =
      field_low m g.found.label l (found_lies m g.found (whole m g e).tlvs).label (sym (ap (λ (x : Message). x.label) (whole m g e).is) ∙ h)

-- no FT TLV is present
pub record NoFt (f : Found) : Type 0 where
  pub session : f.session ≡ 0
  pub protection : f.protection ≡ 0
  pub ack : f.ack ≡ 0

pub no_ft : (f : Found) → bears_ft f ≡ false → NoFt f
unfolding bears_ft
no_ft f e = go (eqb f.session 0) (eqb f.protection 0) (eqb f.ack 0) refl refl refl (not-false (both (eqb f.session 0) (both (eqb f.protection 0) (eqb f.ack 0))) e)
  where
    go : (a b c : Bool) → eqb f.session 0 ≡ a → eqb f.protection 0 ≡ b → eqb f.ack 0 ≡ c → both a (both b c) ≡ true → NoFt f
    go false b c p q r h = let z : ◌≡◌ {A = ℕ} 0 1 = cc in absurd (omega arith)
    go true false c p q r h = let z : ◌≡◌ {A = ℕ} 0 1 = cc in absurd (omega arith)
    go true true false p q r h = let z : ◌≡◌ {A = ℕ} 0 1 = cc in absurd (omega arith)
    go true true true p q r h =
        record { session = eqb-true f.session 0 p; protection = eqb-true f.protection 0 q; ack = eqb-true f.ack 0 r }

-- the label that goes with a kind: that of kinds 1 to 3, else 0xFFFFFFFF
pub record Labelled (g : Message) (k : Kind) (l : ℕ) : Type 0 where
  pub some : 1 ≤ kind_number k
  pub kinds : kind_number k ≤ last_kind
  pub label : kind_number k ≤ 3 → g.label ≡ Some l
  pub none : 3 < kind_number k → l ≡ no_label

labelled : (g : Message) (kind k : Kind) (l : ℕ) → submission_by_kind kind g.label ≡ Ok (k, l) → (kind ≡ k) × Labelled g k l
labelled g kind k l e = by_kind kind g.label refl e
  where
    named : (j : Kind) (field : Option ℕ) → 1 ≤ kind_number j → kind_number j ≤ 3 → g.label ≡ field → labelled_as j field ≡ Ok (k, l) → (j ≡ k) × Labelled g k l
    named j None a b q h = let z : ◌≡◌ {A = ℕ} 0 1 = cc in absurd (omega arith)
    named j (Some v) a b q h =
        let same : j ≡ k = (ok_pair h).0 in
        let number : kind_number j ≡ kind_number k = ap kind_number same in
        let value : v ≡ l = (ok_pair h).1 in
        (same, record { some = omega arith; kinds = omega arith; label = λ z. q ∙ ap Some value; none = λ z. absurd (omega arith) })

    plain : (j : Kind) → 4 ≤ kind_number j → kind_number j ≤ last_kind → ◌≡◌ {A = Result (Kind × ℕ) SubmissionError} (Ok (j, no_label)) (Ok (k, l)) → (j ≡ k) × Labelled g k l
    plain j a b h =
        let same : j ≡ k = (ok_pair h).0 in
        let number : kind_number j ≡ kind_number k = ap kind_number same in
        let value : no_label ≡ l = (ok_pair h).1 in
        (same, record { some = omega arith; kinds = omega arith; label = λ z. absurd (omega arith); none = λ z. sym value })

    by_kind : (j : Kind) (field : Option ℕ) → g.label ≡ field → submission_by_kind j field ≡ Ok (k, l) → (j ≡ k) × Labelled g k l
    by_kind Kind.Mapping field q h = named Kind.Mapping field (omega arith) (omega arith) q h
    by_kind Kind.Withdraw field q h = named Kind.Withdraw field (omega arith) (omega arith) q h
    by_kind Kind.Release field q h = named Kind.Release field (omega arith) (omega arith) q h
    by_kind Kind.Address field q h = plain Kind.Address (omega arith) (omega arith) h
    by_kind Kind.AddressWithdraw field q h = plain Kind.AddressWithdraw (omega arith) (omega arith) h
    by_kind Kind.ResourcesAvailable field q h = plain Kind.ResourcesAvailable (omega arith) (omega arith) h
    by_kind (Kind.Request id) field q h = plain (Kind.Request id) (omega arith) (omega arith) h
    by_kind (Kind.Abort id) field q h = plain (Kind.Abort id) (omega arith) (omega arith) h
    by_kind Kind.NoResources field q h = plain Kind.NoResources (omega arith) (omega arith) h
    by_kind Kind.NoKind field q h = let z : ◌≡◌ {A = ℕ} 0 1 = cc in absurd (omega arith)

-- the ID that a kind bears: a Request's is its own, an Abort's the one that it names
abbrev Bears : Message → Kind → Type 0
Bears g Kind.Mapping = Unit {0}
Bears g Kind.Withdraw = Unit {0}
Bears g Kind.Release = Unit {0}
Bears g Kind.Address = Unit {0}
Bears g Kind.AddressWithdraw = Unit {0}
Bears g Kind.ResourcesAvailable = Unit {0}
Bears g (Kind.Request id) = g.id ≡ id
Bears g (Kind.Abort id) = g.requestid ≡ Some id
Bears g Kind.NoResources = Unit {0}
Bears g Kind.NoKind = Unit {0}

notification_bears : (g : Message) (status : Option ℕ) → Bears g (notification_kind status)
unfolding notification_kind
notification_bears g None = tt
notification_bears g (Some v) = go (fatal_of v) (eqb (status_code v) resources_available) (eqb (status_code v) no_resources)
  where
    go : (fatal available none : Bool) → Bears g (pick fatal Kind.NoKind (pick available Kind.ResourcesAvailable (pick none Kind.NoResources Kind.NoKind)))
    go true available none = tt
    go false true none = tt
    go false false true = tt
    go false false false = tt

abort-bears : (g : Message) (requestid : Option MessageId) → g.requestid ≡ requestid → Bears g (abort_kind requestid)
abort-bears g None e = tt
abort-bears g (Some id) e = e

kind_bears : (g : Message) → Bears g (kind_of g)
unfolding kind_of
kind_bears g = by g.typename
  where
    by : (t : MessageType) → Bears g (kind_for t g.status g.id g.requestid)
    by MessageType.Notification = notification_bears g g.status
    by MessageType.Initialization = tt
    by MessageType.KeepAlive = tt
    by MessageType.Address = tt
    by MessageType.AddressWithdraw = tt
    by MessageType.Mapping = tt
    by MessageType.Request = refl
    by MessageType.Withdraw = tt
    by MessageType.Release = tt
    by MessageType.Abort = abort-bears g g.requestid refl
    by MessageType.Other = tt

pub request-id : (g : Message) (id : MessageId) → kind_of g ≡ Kind.Request id → g.id ≡ id
request-id g id e = rw e at (kind_bears g)

pub abort-id : (g : Message) (id : MessageId) → kind_of g ≡ Kind.Abort id → g.requestid ≡ Some id
abort-id g id e = rw e at (kind_bears g)

-- a submission that is accepted
pub record Accepted (m : List ℕ) (k : Kind) (l : ℕ) : Type 0 where
  pub message : Message
  pub reading : reading_of m ≡ Some message
  pub has_no_ft : NoFt message.found
  pub kind : kind_of message ≡ k
  pub labelled : Labelled message k l

-- a submission that is accepted: the message was read, bears no FT TLV, has that kind, and the label by the kind's number
pub accepted : (m : List ℕ) (k : Kind) (l : ℕ) → submission_of m ≡ Ok (k, l) → Accepted m k l
unfolding submission_of
accepted m k l e = by_reading (reading_of m) refl e
  where
    by_ft : (g : Message) (b : Bool) → reading_of m ≡ Some g → bears_ft g.found ≡ b
        → pick b (Err SubmissionError.Refused) (submission_by_kind (kind_of g) g.label) ≡ Ok (k, l) → Accepted m k l
    by_ft g true q p h = let z : ◌≡◌ {A = ℕ} 0 1 = cc in absurd (omega arith)
    by_ft g false q p h =
        let by = labelled g (kind_of g) k l h in
        record { message = g; reading = q; has_no_ft = no_ft g.found p; kind = by.0; labelled = by.1 }

    by_reading : (r : Option Message) → reading_of m ≡ r → submission_by_reading r ≡ Ok (k, l) → Accepted m k l
    by_reading None q h = let z : ◌≡◌ {A = ℕ} 0 1 = cc in absurd (omega arith)
    by_reading (Some g) q h = by_ft g (bears_ft g.found) q refl h
