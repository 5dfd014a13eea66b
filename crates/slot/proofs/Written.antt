-- A slot that was written: it is sound, and holds what was written. Assumes nothing.
use Prim.Native.Nat.{ℕ, ◌+◌, ◌-◌, ◌^◌, ◌≤◌, ◌<◌}
use mathlib.Core.Bool.{true}
use mathlib.Core.List.{List, [], ◌∷◌, ◌++◌, append_assoc}
use mathlib.Core.Path.{◌≡◌, refl, sym, ap, ap₂, ◌∙◌}
use native.Mathlib.Omega.{arith}
use lib.ListN.{length, get_or, take, drop, replicate, length-append}
use lib.Seq.{take_at, drop_at}
use Rattle.octets.specs.Be.{bytes}
use Rattle.octets.specs.Laid.{laid}
use Rattle.octets.specs.Part.{part}
use Rattle.octets.proofs.Fill.{length_zeros}
use Rattle.octets.proofs.Laid.{laid_then, take-laid}
use Rattle.block.specs.Check.{block_size, check_at, check_of, sealed, sound}
use Rattle.block.specs.Run.{get_run, spelled}
use Rattle.block.specs.Zeros.{all_zero}
use Rattle.block.proofs.Run.{none, one, length-spelled, get_run-spelled}
use Rattle.block.proofs.Sealed.{length-sealed, sealed-sound}
use Rattle.block.proofs.ZeroBytes.{zeros_zero}
use Rattle.message.specs.Storable.{longest}
use Rattle.slot.specs.Layout.{head_widths, slot_length, slot_kind, slot_label, message_at, slot_message, slot_padding, slot_block}

module _ (m : List ℕ) (kind label : ℕ) (short : length m ≤ longest) where
  values : List ℕ
  values = length m ∷ kind ∷ 0 ∷ label ∷ []

  head : List ℕ
  head = spelled head_widths values

  zeros : List ℕ
  zeros = replicate (500 - length m) 0

  body : List ℕ
  body = head ++ (m ++ zeros)

  check : List ℕ
  check = bytes 4 (check_of body)

  is_sealed : slot_block m kind label ≡ sealed body
  unfolding slot_block body head values zeros
  is_sealed = refl

  long_head : length head ≡ message_at
  unfolding head
  long_head = length-spelled head_widths values

  long_zeros : length zeros ≡ 500 - length m
  unfolding zeros
  long_zeros = length_zeros (500 - length m)

  long_body : length body ≡ check_at
  unfolding body
  long_body = length-append head (m ++ zeros) ∙ omega (arith, long_head, length-append m zeros, long_zeros)

  -- every byte is written: over what stood there, the head, the message and zeros are the block
  pub slot-put : (b : List ℕ) → length b ≡ block_size → {x y z w : List ℕ} → x ≡ laid b 0 (spelled head_widths (length m ∷ kind ∷ 0 ∷ label ∷ []))
      → y ≡ laid x message_at m → z ≡ laid y (message_at + length m) (replicate (500 - length m) 0) → w ≡ sealed (take check_at z) → w ≡ slot_block m kind label
  unfolding body head values zeros
  slot-put b long {x} {y} {z} ex ey ez ew =
      let text : y ≡ laid b 0 (head ++ m) = ey ∙ rw ex (laid_then b 0 head m message_at (omega (arith, long_head))) in
      let end : message_at + length m ≡ 0 + length (head ++ m) = omega (arith, length-append head m, long_head) in
      let all : z ≡ laid b 0 body =
      ez ∙ rw text (laid_then b 0 (head ++ m) zeros (message_at + length m) end) ∙ ap (laid b 0) (append_assoc head m zeros) in
      ew
      ∙ ap sealed (ap (take check_at) all ∙ ap (λ (k : ℕ). take k (laid b 0 body)) (sym long_body) ∙ take-laid b body (omega (arith, long_body)))
      ∙ sym is_sealed

  pub length-slot : length (slot_block m kind label) ≡ block_size
  length-slot = rw is_sealed (length-sealed body long_body)

  pub slot-sound : sound (slot_block m kind label) ≡ true
  slot-sound = rw is_sealed (sealed-sound body long_body)

  -- the head, the message, the zeros and the check
  in_parts : slot_block m kind label ≡ head ++ (m ++ (zeros ++ check))
  unfolding sealed body check
  in_parts = is_sealed ∙ append_assoc head (m ++ zeros) check ∙ ap (λ (l : List ℕ). head ++ l) (append_assoc m zeros check)

  module _ (fk : kind < 256) (fl : label < 4294967296) where
    -- the head's fields, one after the other
    head_slot : get_run head_widths (slot_block m kind label) 0 ≡ values
    unfolding head values
    head_slot =
        let n : length m < 256 ^ 2 = omega arith in
        let spare : 0 < 256 ^ 1 = omega arith in
        ap (λ (b : List ℕ). get_run head_widths b 0) in_parts
        ∙ get_run-spelled head_widths values [] (m ++ (zeros ++ check)) 0 refl (one n (one fk (one spare (one fl none))))

    pub slot-length : slot_length (slot_block m kind label) ≡ length m
    unfolding values
    slot-length = ap (λ (l : List ℕ). get_or l 0 0) head_slot

    pub slot_kind_lem : slot_kind (slot_block m kind label) ≡ kind
    unfolding values
    slot_kind_lem = ap (λ (l : List ℕ). get_or l 1 0) head_slot

    pub slot_spare : get_or (slot_block m kind label) 3 0 ≡ 0
    unfolding values
    slot_spare = ap (λ (l : List ℕ). get_or l 2 0) head_slot

    pub slot_label_lem : slot_label (slot_block m kind label) ≡ label
    unfolding values
    slot_label_lem = ap (λ (l : List ℕ). get_or l 3 0) head_slot

    pub message_slot : slot_message (slot_block m kind label) ≡ m
    unfolding slot_message
    message_slot =
        let size : message_at + length m - message_at ≡ length m = omega arith in
        ap (λ (n : ℕ). part (slot_block m kind label) message_at (message_at + n)) slot-length
        ∙ ap₂ (λ (n : ℕ) (b : List ℕ). take n (drop message_at b)) size in_parts
        ∙ ap (take (length m)) (drop_at head (m ++ (zeros ++ check)) message_at long_head)
        ∙ take_at m (zeros ++ check) (length m) refl

    pub padding_slot : all_zero (slot_padding (slot_block m kind label)) ≡ true
    unfolding slot_padding zeros
    padding_slot =
        let a : ℕ = message_at + length m in
        let size : check_at - a ≡ 500 - length m = omega arith in
        let front : slot_block m kind label ≡ (head ++ m) ++ (zeros ++ check) = in_parts ∙ sym (append_assoc head m (zeros ++ check)) in
        let padding : part (slot_block m kind label) a check_at ≡ zeros =
        ap₂ (λ (n : ℕ) (b : List ℕ). take n (drop a b)) size front
        ∙ ap (take (500 - length m)) (drop_at (head ++ m) (zeros ++ check) a (length-append head m ∙ omega (arith, long_head)))
        ∙ take_at zeros check (500 - length m) long_zeros in
        ap (λ (n : ℕ). all_zero (part (slot_block m kind label) (message_at + n) check_at)) slot-length ∙ ap all_zero padding ∙ zeros_zero (500 - length m)
