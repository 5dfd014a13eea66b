-- A message's kind and a submission judged, by the tests and the calls of the code. Assumes nothing.
use Rattle.std.specs.Prelude.{Result, Ok, Err, Option, Some, None}
use Prim.Native.Nat.{ℕ, ◌+◌, ◌≤◌, ◌<◌, ◌^◌}
use mathlib.Core.Bool.{Bool, true, false, not}
use mathlib.Core.List.{List}
use mathlib.Core.Path.{◌≡◌, refl, sym, ◌∙◌}
use native.Mathlib.Omega.{arith}
use lib.Dec.{eqb, ltb}
use lib.ListN.{length}
use borrow.Author.Tests.{eq-eqb, ne_eqb, lt-ltb, le-ltb, not-true, not-false}
use mir.Syntax.{w64}
use mir.Val.{Fits}
use Rattle.octets.specs.Be.{be_at}
use Rattle.octets.specs.Pick.{pick}
use Rattle.ft_number.specs.declared.MessageId.{MessageId}
use Rattle.tlv.specs.declared.Found.{Found}
use Rattle.tlv.specs.Table.{lookup}
use Rattle.tlv.specs.Value.{Within, field_at, id_at}
use Rattle.tlv.specs.Walk.{tlvs_of}
use Rattle.tlv.proofs.Rows.{Absent, lookup_absent}
use Rattle.message.specs.declared.Kind.{Kind}
use Rattle.message.specs.declared.MessageType.{MessageType}
use Rattle.message.specs.declared.SubmissionError.{SubmissionError}
use Rattle.message.specs.Kinds.{fatal_of, status_code, resources_available, no_resources, status_kinds, notification_kind, kind_for, kind_of, kind_number}
use Rattle.message.specs.Reading.{type_of, number_in, id_in, bears_of, places_of, message_of, reading_of}
use Rattle.message.specs.Submission.{bears_ft, no_label, labelled_as, submission_by_kind, submission_of}
use Rattle.message.proofs.Readings.{tlvs_head, tlvs_places}

-- the kind of a Notification
module _ (status : Option ℕ) where
  pub kind_absent : status ≡ None → Kind.NoKind ≡ notification_kind status
  unfolding notification_kind
  kind_absent e = rw e

  module _ (v : ℕ) (e : status ≡ Some v) (fatal : Bool) (fatalq : fatal ≡ fatal_of v) where
    pub kind_fatal : fatal ≡ true → Kind.NoKind ≡ notification_kind status
    unfolding notification_kind
    kind_fatal h = simp (e, sym fatalq, h)

    module _ (h : fatal ≡ false) (code : ℕ) (codeq : code ≡ status_code v) where
      kind_code : {kind : Kind} → kind ≡ lookup Kind.NoKind status_kinds code → kind ≡ notification_kind status
      unfolding notification_kind
      kind_code k = simp (e, sym fatalq, h, sym codeq, k)

      pub kind_available : code ≡ resources_available → Kind.ResourcesAvailable ≡ notification_kind status
      kind_available k = kind_code (rw k)

      pub kind_none : code ≡ no_resources → Kind.NoResources ≡ notification_kind status
      kind_none k = kind_code (rw k)

      pub kind_other : Absent status_kinds code → Kind.NoKind ≡ notification_kind status
      kind_other k = kind_code (lookup_absent Kind.NoKind status_kinds code k)

pub ruleset kinds = (kind_absent, kind_fatal, kind_available, kind_none, kind_other)

-- the FT TLVs
module _ (f : Found) where
  pub ft_session : (f.session ≡ 0 → ⊥) → true ≡ bears_ft f
  unfolding bears_ft
  ft_session h = simp (ne_eqb f.session 0 h)

  pub ft_protection : f.session ≡ 0 → (f.protection ≡ 0 → ⊥) → true ≡ bears_ft f
  unfolding bears_ft
  ft_protection s h = simp (eq-eqb f.session 0 s, ne_eqb f.protection 0 h)

  pub ft_ack : f.session ≡ 0 → f.protection ≡ 0 → not (eqb f.ack 0) ≡ bears_ft f
  unfolding bears_ft
  ft_ack s p = simp (eq-eqb f.session 0 s, eq-eqb f.protection 0 p)

pub ruleset fts = (ft_session, ft_protection, ft_ack)

-- what a kind is accepted with, by its number: none, a kind without a label, a kind with one
abbrev by_number : ℕ → Kind → Option ℕ → Result (Kind × ℕ) SubmissionError
by_number n k label = pick (eqb n 0) (Err SubmissionError.Refused) (pick (ltb 3 n) (Ok (k, no_label)) (labelled_as k label))

accepted_by_lem : (k : Kind) (label : Option ℕ) → submission_by_kind k label ≡ by_number (kind_number k) k label
accepted_by_lem Kind.Mapping label = refl
accepted_by_lem Kind.Withdraw label = refl
accepted_by_lem Kind.Release label = refl
accepted_by_lem Kind.Address label = refl
accepted_by_lem Kind.AddressWithdraw label = refl
accepted_by_lem Kind.ResourcesAvailable label = refl
accepted_by_lem (Kind.Request id) label = refl
accepted_by_lem (Kind.Abort id) label = refl
accepted_by_lem Kind.NoResources label = refl
accepted_by_lem Kind.NoKind label = refl

-- a submission, by the tests and the calls of the code
module _ (m : List ℕ) (w : Option Found) (wq : w ≡ tlvs_of m) where
  pub judged_malformed : w ≡ None → (Err SubmissionError.Malformed) ≡ submission_of m
  unfolding submission_of reading_of places_of
  judged_malformed e = simp (sym wq ∙ e)

  module _ (f : Found) (e : w ≡ Some f) where
    pub judged_status : Within m f.status 4
    judged_status z = omega (arith, (tlvs_places m w wq f e).status z)

    pub judged_requestid : Within m f.requestid (0 + 4)
    judged_requestid = (tlvs_places m w wq f e).requestid

    module _ (q : f.label ≡ 0 → ⊥) where
      pub judged-room : f.label + 4 + 4 ≤ length m
      judged-room = (tlvs_places m w wq f e).label q

      pub judged_fits : length m < 2 ^ 64 → Fits w64 (f.label + 4)
      judged_fits h = let x = judged-room in omega arith

    module _ (c : ℕ) (t : MessageType) (b : Bool) (bq : b ≡ bears_of t f) (tq : t ≡ type_of c) (cq : c ≡ number_in m) where
      pub judged_lacks : not b ≡ true → (Err SubmissionError.Malformed) ≡ submission_of m
      unfolding submission_of reading_of places_of
      judged_lacks h = simp (sym wq ∙ e, sym cq, sym tq, sym bq ∙ not-true b h)

      module _ (h : not b ≡ false) (ft : Bool) (ftq : ft ≡ bears_ft f) where
        pub judged_ft : ft ≡ true → (Err SubmissionError.Refused) ≡ submission_of m
        unfolding submission_of reading_of places_of message_of
        judged_ft p = simp (sym wq ∙ e, sym cq, sym tq, sym bq ∙ not-false b h, sym ftq ∙ p)

        module _ (p : ft ≡ false) (s : Option ℕ) (sq : s ≡ field_at m f.status) (id : MessageId) (iq : id ≡ id_in m) (r : Option MessageId) (rq : r ≡ id_at m f.requestid 0) (k : Kind) (kq : k ≡ kind_for t s id r) (n : ℕ) (nq : n ≡ kind_number k) where
          judged_as : (a : Result (Kind × ℕ) SubmissionError) → a ≡ by_number n k (field_at m f.label) → a ≡ submission_of m
          unfolding submission_of reading_of places_of message_of kind_of
          judged_as a aq =
              let accepted : by_number n k (field_at m f.label) ≡ submission_by_kind k (field_at m f.label) = rw nq (sym (accepted_by_lem k (field_at m f.label))) in
              let all : submission_by_kind k (field_at m f.label) ≡ submission_of m = simp (kq, sq, iq, rq, sym wq ∙ e, sym cq, sym tq, sym bq ∙ not-false b h, sym ftq ∙ p) in
              aq ∙ accepted ∙ all

          pub judged_none : n ≡ 0 → (Err SubmissionError.Refused) ≡ submission_of m
          judged_none z = judged_as (Err SubmissionError.Refused) (simp (eq-eqb n 0 z))

          module _ (z : n ≡ 0 → ⊥) where
            pub judged-plain : 3 < n → (Ok (k, no_label)) ≡ submission_of m
            judged-plain l = judged_as (Ok (k, no_label)) (simp (ne_eqb n 0 z, lt-ltb 3 n l))

            module _ (l : n ≤ 3) where
              pub judged-absent : f.label ≡ 0 → (Err SubmissionError.Refused) ≡ submission_of m
              unfolding field_at
              judged-absent q = judged_as (Err SubmissionError.Refused) (simp (ne_eqb n 0 z, le-ltb 3 n l, eq-eqb f.label 0 q))

              pub judged_label : (f.label ≡ 0 → ⊥) → (v : ℕ) → v ≡ be_at 4 m (f.label + 4) → (Ok (k, v)) ≡ submission_of m
              unfolding field_at
              judged_label q v vq = judged_as (Ok (k, v)) (simp (ne_eqb n 0 z, le-ltb 3 n l, ne_eqb f.label 0 q, vq))

pub ruleset judgements =
    (tlvs_head, judged_malformed, judged_status, judged_requestid, judged-room, judged_fits, judged_lacks, judged_ft, judged_none, judged-plain, judged-absent, judged_label)
