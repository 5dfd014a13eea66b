-- The round trip of a message that Submit's 4 and 5 accept, sent with any FT number and any ACK. Assumes nothing.
-- The bounds: the number and the ACK have 32 bits; the raised length has 16 (a stored message has 480 bytes at most); and the low byte of
-- the submitted message's length is a byte.
use Rattle.std.specs.Prelude.{Ok, Option, Some}
use Prim.Native.Nat.{ℕ, ◌+◌, ◌^◌, ◌<◌}
use mathlib.Core.List.{List}
use mathlib.Core.Path.{◌≡◌, ◌∙◌, ap}
use lib.ListN.{length, get_or}
use Rattle.ft_number.specs.declared.FtNumber.{FtNumber}
use Rattle.message.specs.declared.Kind.{Kind}
use Rattle.message.specs.declared.Message.{Message}
use Rattle.message.specs.Kinds.{kind_of}
use Rattle.message.specs.Reading.{reading_of}
use Rattle.message.specs.Submission.{submission_of}
use Rattle.message.proofs.Laws.{accepted}
use Rattle.message_writer.specs.Forms.{protected_bytes}
use Rattle.message_writer.specs.Payload.{payload_of}
use Rattle.message_writer.specs.ReadBack.{AckFits, protected_message}
use Rattle.message_writer.proofs.Kept.{protected_payload}
use Rattle.message_writer.proofs.Protected.{protected_reads}

module _ (m : List ℕ) (k : Kind) (l : ℕ) (e : submission_of m ≡ Ok (k, l)) (n : FtNumber) (ack : Option FtNumber) (short : length m + 12 < 256 ^ 2) where
  -- the message as it was submitted
  abbrev pub submitted : Message
  submitted = (accepted m k l e).message

  -- it is read back whole: the same type, message ID, FEC, label, status, parameters and their places, exactly the number n and that ACK
  pub sent_reads : n.0 < 256 ^ 4 → AckFits ack → reading_of (protected_bytes m n ack) ≡ Some (protected_message submitted (length m) n ack)
  sent_reads small fits = protected_reads m submitted n ack (accepted m k l e).reading (accepted m k l e).has_no_ft small fits short

  -- it is of the kind that was submitted
  pub sent_kind : kind_of (protected_message submitted (length m) n ack) ≡ k
  unfolding kind_of
  sent_kind = (accepted m k l e).kind

  -- less its FT TLVs it is the message submitted, byte for byte
  pub sent_payload : get_or m 3 0 < 256 → payload_of (protected_bytes m n ack) ≡ m
  sent_payload low = protected_payload m submitted n ack (accepted m k l e).reading (accepted m k l e).has_no_ft short low

  -- so it may be submitted again, with the same kind and label
  pub sent_submits : get_or m 3 0 < 256 → submission_of (payload_of (protected_bytes m n ack)) ≡ Ok (k, l)
  sent_submits low = ap submission_of (sent_payload low) ∙ e
