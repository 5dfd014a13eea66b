-- What the stores of a head, of TLVs and of whole messages leave: the premises are what the calls ensure. Assumes nothing.
use Rattle.std.specs.Prelude.{Option, Some, None}
use Prim.Native.Nat.{ℕ, ◌+◌, ◌-◌, ◌≤◌, ◌<◌}
use mathlib.Core.List.{List, ◌++◌, append_assoc, append-nil}
use mathlib.Core.Path.{◌≡◌, refl, sym, ap, ◌∙◌}
use native.Mathlib.Nat.{add-zero, zero-add}
use native.Mathlib.Omega.{arith}
use lib.ListN.{length, drop, length-append}
use Rattle.octets.specs.Be.{bytes}
use Rattle.octets.specs.Laid.{laid}
use Rattle.octets.proofs.Laid.{Laid, laid-start, then_part, length-laid, laid_front, laid-before}
use Rattle.ft_number.specs.declared.FtNumber.{FtNumber}
use Rattle.ft_number.specs.declared.MessageId.{MessageId}
use Rattle.ft_number.specs.declared.Timeout.{Timeout}
use Rattle.tlv.specs.Tlv.{session_type, protection_type}
use Rattle.message.specs.Reading.{initialization_type}
use Rattle.message_writer.specs.declared.OwnParameters.{OwnParameters}
use Rattle.message_writer.specs.Forms.{tlv_bytes, head_bytes, mode_byte, parameters_tlv, reconnect_flag, draft_value, published_value, unknown_bit, session_tlv, session_end, init_head, init_bytes, ack_tlv, raised_to, raised, ft_tlvs, protected_bytes}
use Rattle.message_writer.specs.Written.{written_of}
use Rattle.message_writer.proofs.Room.{written-whole, written-short}

-- with no ACK there is nothing behind the head
no_ack : (ack : Option FtNumber) (h : List ℕ) → ack ≡ None → h ≡ h ++ ack_tlv ack
no_ack ack h e = rw e (sym (append-nil h))

pub no_ack_end : (ack : Option FtNumber) (end : ℕ) → ack ≡ None → end ≡ end + length (ack_tlv ack)
no_ack_end ack end e = rw e (sym (add-zero end))

module _ (m : List ℕ) (head : 8 ≤ length m) where
  pub length-raised_to : (size : ℕ) → length (raised_to m size) ≡ length m
  length-raised_to size = length-laid m 2 (bytes 2 size)

  pub length-raised : (tlvs : List ℕ) → length (raised m tlvs) ≡ length m + length tlvs
  unfolding raised
  length-raised tlvs =
      length-append (raised_to m (length m + length tlvs - 4)) tlvs ∙ ap (λ (n : ℕ). n + length tlvs) (length-raised_to (length m + length tlvs - 4))

-- where FT Session may end
pub end_least : (t : Timeout) → 34 ≤ session_end t
end_least (Timeout.Seconds n) = omega arith
end_least (Timeout.Milliseconds n) = omega arith

pub end_most : (t : Timeout) → session_end t ≤ 42
end_most (Timeout.Seconds n) = omega arith
end_most (Timeout.Milliseconds n) = omega arith

-- the flags leave room for S
pub flag_small : (ack : Option FtNumber) → reconnect_flag ack ≤ 0x8000
flag_small None = omega arith
flag_small (Some a) = omega arith

-- an Init's parts are the Init, in either form
length_head : (size : ℕ) (id : MessageId) (p : OwnParameters) (t : Timeout) (ack : Option FtNumber) → length (init_head size id p ack t) ≡ session_end t
length_head size id p (Timeout.Seconds n) ack = refl
length_head size id p (Timeout.Milliseconds n) ack = refl

init_parts : (id : MessageId) (p : OwnParameters) (t : Timeout) (ack : Option FtNumber)
    → init_head (session_end t + length (ack_tlv ack) - 4) id p ack t ++ ack_tlv ack ≡ init_bytes id p t ack
init_parts id p (Timeout.Seconds n) None = refl
init_parts id p (Timeout.Seconds n) (Some a) = refl
init_parts id p (Timeout.Milliseconds n) None = refl
init_parts id p (Timeout.Milliseconds n) (Some a) = refl

-- it has 34 or 42 bytes in the draft's form, 42 or 50 in the published one
pub length-init : (id : MessageId) (p : OwnParameters) (t : Timeout) (ack : Option FtNumber) → length (init_bytes id p t ack) ≡ session_end t + length (ack_tlv ack)
length-init id p t ack =
    let size : ℕ = session_end t + length (ack_tlv ack) - 4 in
    ap length (sym (init_parts id p t ack)) ∙ length-append (init_head size id p ack t) (ack_tlv ack) ∙ ap (λ (n : ℕ). n + length (ack_tlv ack)) (length_head size id p t ack)

module _ (s : List ℕ) where
  pub head_laid : (x₁ x₂ x₃ : List ℕ) (number size id : ℕ)
      → x₁ ≡ laid s 0 (bytes 2 number) → x₂ ≡ laid x₁ 2 (bytes 2 size) → x₃ ≡ laid x₂ 4 (bytes 4 id) → x₃ ≡ laid s 0 (head_bytes number size id)
  head_laid x₁ x₂ x₃ number size id e₁ e₂ e₃ =
      let l₁ = then_part (laid-start s 0) (bytes 2 number) 0 e₁ refl in
      let l₂ = then_part l₁ (bytes 2 size) 2 e₂ refl in
      (then_part l₂ (bytes 4 id) 4 e₃ refl).is

  pub tlv_laid : (at : ℕ) (x₁ x₂ x₃ : List ℕ) (number value : ℕ)
      → x₁ ≡ laid s at (bytes 2 number) → x₂ ≡ laid x₁ (at + 2) (bytes 2 4) → x₃ ≡ laid x₂ (at + 4) (bytes 4 value) → x₃ ≡ laid s at (tlv_bytes number (bytes 4 value))
  tlv_laid at x₁ x₂ x₃ number value e₁ e₂ e₃ =
      let l₁ = then_part (laid-start s at) (bytes 2 number) at e₁ (sym (add-zero at)) in
      let l₂ = then_part l₁ (bytes 2 4) (at + 2) e₂ refl in
      (then_part l₂ (bytes 4 value) (at + 4) e₃ refl).is

  pub parameters-laid : (x₁ x₂ x₃ x₄ x₅ x₆ x₇ x₈ : List ℕ) (p : OwnParameters) (mode : ℕ) → mode ≡ mode_byte p.ondemand
      → x₁ ≡ laid s 8 (bytes 4 0x0500000E) → x₂ ≡ laid x₁ 12 (bytes 2 1) → x₃ ≡ laid x₂ 14 (bytes 2 p.keepalive) → x₄ ≡ laid x₃ 16 (bytes 1 mode)
      → x₅ ≡ laid x₄ 17 (bytes 1 0) → x₆ ≡ laid x₅ 18 (bytes 2 p.pdulength) → x₇ ≡ laid x₆ 20 (bytes 4 p.lsr) → x₈ ≡ laid x₇ 24 (bytes 2 p.space)
      → x₈ ≡ laid s 8 (parameters_tlv p)
  parameters-laid x₁ x₂ x₃ x₄ x₅ x₆ x₇ x₈ p mode modeq e₁ e₂ e₃ e₄ e₅ e₆ e₇ e₈ =
      let l₁ = then_part (laid-start s 8) (bytes 4 0x0500000E) 8 e₁ refl in
      let l₂ = then_part l₁ (bytes 2 1) 12 e₂ refl in
      let l₃ = then_part l₂ (bytes 2 p.keepalive) 14 e₃ refl in
      let l₄ = then_part l₃ (bytes 1 (mode_byte p.ondemand)) 16 (rw modeq at e₄) refl in
      let l₅ = then_part l₄ (bytes 1 0) 17 e₅ refl in
      let l₆ = then_part l₅ (bytes 2 p.pdulength) 18 e₆ refl in
      let l₇ = then_part l₆ (bytes 4 p.lsr) 20 e₇ refl in
      (then_part l₇ (bytes 2 p.space) 24 e₈ refl).is

  -- FT Session in each of its forms
  pub draft-laid : (x₁ x₂ x₃ : List ℕ) (flags seconds : ℕ)
      → x₁ ≡ laid s 26 (bytes 4 0x85030004) → x₂ ≡ laid x₁ 30 (bytes 2 flags) → x₃ ≡ laid x₂ 32 (bytes 2 seconds)
      → x₃ ≡ laid s 26 (tlv_bytes (unknown_bit + session_type) (draft_value flags seconds))
  draft-laid x₁ x₂ x₃ flags seconds e₁ e₂ e₃ =
      let l₁ = then_part (laid-start s 26) (bytes 4 0x85030004) 26 e₁ refl in
      let l₂ = then_part l₁ (bytes 2 flags) 30 e₂ refl in
      (then_part l₂ (bytes 2 seconds) 32 e₃ refl).is

  pub published-laid : (x₁ x₂ x₃ x₄ x₅ : List ℕ) (flags milliseconds : ℕ)
      → x₁ ≡ laid s 26 (bytes 4 0x8503000C) → x₂ ≡ laid x₁ 30 (bytes 2 flags) → x₃ ≡ laid x₂ 32 (bytes 2 0) → x₄ ≡ laid x₃ 34 (bytes 4 milliseconds)
      → x₅ ≡ laid x₄ 38 (bytes 4 0) → x₅ ≡ laid s 26 (tlv_bytes (unknown_bit + session_type) (published_value flags milliseconds))
  published-laid x₁ x₂ x₃ x₄ x₅ flags milliseconds e₁ e₂ e₃ e₄ e₅ =
      let l₁ = then_part (laid-start s 26) (bytes 4 0x8503000C) 26 e₁ refl in
      let l₂ = then_part l₁ (bytes 2 flags) 30 e₂ refl in
      let l₃ = then_part l₂ (bytes 2 0) 32 e₃ refl in
      let l₄ = then_part l₃ (bytes 4 milliseconds) 34 e₄ refl in
      (then_part l₄ (bytes 4 0) 38 e₅ refl).is

  pub init-laid : (x₁ x₂ x₃ : List ℕ) (size : ℕ) (id : MessageId) (p : OwnParameters) (ack : Option FtNumber) (t : Timeout)
      → x₁ ≡ laid s 0 (head_bytes initialization_type size id.0) → x₂ ≡ laid x₁ 8 (parameters_tlv p) → x₃ ≡ laid x₂ 26 (session_tlv ack t)
      → x₃ ≡ laid s 0 (init_head size id p ack t)
  init-laid x₁ x₂ x₃ size id p ack t e₁ e₂ e₃ =
      let l₁ = then_part (laid-start s 0) (head_bytes initialization_type size id.0) 0 e₁ refl in
      let l₂ = then_part l₁ (parameters_tlv p) 8 e₂ refl in
      (then_part l₂ (session_tlv ack t) 26 e₃ refl).is

  -- FT ACK behind a message that was laid
  pub ack_laid : (p x y : List ℕ) (to : ℕ) (a : FtNumber) → x ≡ laid s 0 p → y ≡ laid x to (ack_tlv (Some a)) → to ≡ length p
      → y ≡ laid s 0 (p ++ ack_tlv (Some a))
  ack_laid p x y to a e₁ e₂ toq =
      let l : Laid s 0 p x = record { is = e₁ } in
      (then_part l (ack_tlv (Some a)) to e₂ (toq ∙ sym (zero-add (length p)))).is

  -- our Init in either form, written
  module _ (id : MessageId) (p : OwnParameters) (t : Timeout) (end : ℕ) (endq : end ≡ session_end t) where
    pub init-short : (ack : Option FtNumber) (n : ℕ) → n ≡ end + length (ack_tlv ack) → length s < n → (None, s) ≡ written_of s (init_bytes id p t ack)
    init-short ack n nq h = written-short s (init_bytes id p t ack) n (nq ∙ rw endq (sym (length-init id p t ack))) h

    init-whole : (ack : Option FtNumber) (n : ℕ) (x : List ℕ) → n ≡ end + length (ack_tlv ack) → n ≤ length s → x ≡ laid s 0 (init_head (n - 4) id p ack t ++ ack_tlv ack)
        → (Some n, x) ≡ written_of s (init_bytes id p t ack)
    init-whole ack n x nq h e =
        let long : n ≡ length (init_bytes id p t ack) = nq ∙ rw endq (sym (length-init id p t ack)) in
        written-whole s (init_bytes id p t ack) x
        (e ∙ ap (laid s 0) (ap (λ (k : ℕ). init_head (k - 4) id p ack t ++ ack_tlv ack) (long ∙ length-init id p t ack) ∙ init_parts id p t ack))
        (omega arith) n long

    pub init-plain : (ack : Option FtNumber) (x : List ℕ) → ack ≡ None → end ≤ length s → x ≡ laid s 0 (init_head (end - 4) id p ack t)
        → (Some end, x) ≡ written_of s (init_bytes id p t ack)
    init-plain ack x none h e =
        let size : end ≡ end + length (ack_tlv ack) = no_ack_end ack end none in
        let nil : init_head (end - 4) id p ack t ≡ init_head (end - 4) id p ack t ++ ack_tlv ack = no_ack ack (init_head (end - 4) id p ack t) none in
        init-whole ack end x size h (e ∙ ap (laid s 0) nil)

    pub init-acked : (a : FtNumber) (x y : List ℕ) → end + 8 ≤ length s → x ≡ laid s 0 (init_head (end + 4) id p (Some a) t)
        → y ≡ laid x end (ack_tlv (Some a)) → (Some (end + 8), y) ≡ written_of s (init_bytes id p t (Some a))
    init-acked a x y h e₁ e₂ =
        let ack : (Option FtNumber) = Some a in
        let raised : end + 4 ≡ end + 8 - 4 = omega arith in
        init-whole ack (end + 8) y refl h
        (ack_laid (init_head (end + 4) id p ack t) x y end a e₁ e₂ (endq ∙ sym (length_head (end + 4) id p t ack))
        ∙ ap (λ (n : ℕ). laid s 0 (init_head n id p ack t ++ ack_tlv ack)) raised)

    pub init_numbered : (ack : Option FtNumber) (a : FtNumber) (x y : List ℕ) → ack ≡ Some a → end + 8 ≤ length s
        → x ≡ laid s 0 (init_head (end + 4) id p (Some a) t) → y ≡ laid x end (ack_tlv (Some a))
        → (Some (end + 8), y) ≡ written_of s (init_bytes id p t ack)
    init_numbered ack a x y e h e₁ e₂ =
        init-acked a x y h e₁ e₂
        ∙ ap (λ (k : Option FtNumber). written_of s (init_bytes id p t k)) (sym e)

  module _ (m : List ℕ) (head : 8 ≤ length m) where
    raised-laid : (x y : List ℕ) (size : ℕ) → length m ≤ length s → x ≡ laid s 0 m → y ≡ laid x 2 (bytes 2 size) → y ≡ laid s 0 (raised_to m size)
    raised-laid x y size h e₁ e₂ =
        let rest : List ℕ = drop (length m) s in
        e₂
        ∙ ap (λ (l : List ℕ). laid l 2 (bytes 2 size)) (e₁ ∙ laid_front s m h)
        ∙ laid-before m rest 2 (bytes 2 size) (omega arith)
        ∙ ap (λ (n : ℕ). raised_to m size ++ drop n s) (sym (length-raised_to m head size))
        ∙ sym (laid_front s (raised_to m size) (omega (arith, length-raised_to m head size)))

    pub protected_laid : (x₁ x₂ x₃ : List ℕ) (size number : ℕ) → length m + 8 ≤ length s
        → x₁ ≡ laid s 0 m → x₂ ≡ laid x₁ 2 (bytes 2 size) → x₃ ≡ laid x₂ (length m) (tlv_bytes protection_type (bytes 4 number))
        → x₃ ≡ laid s 0 (raised_to m size ++ tlv_bytes protection_type (bytes 4 number))
    protected_laid x₁ x₂ x₃ size number h e₁ e₂ e₃ =
        let raisedq : x₂ ≡ laid s 0 (raised_to m size) = raised-laid x₁ x₂ size (omega arith) e₁ e₂ in
        let long : length (raised_to m size) ≡ length m = length-raised_to m head size in
        let l : Laid s 0 (raised_to m size) x₂ = record { is = raisedq } in
        (then_part l (tlv_bytes protection_type (bytes 4 number)) (length m) e₃ (omega arith)).is

    -- the two forms of a protected message, written
    pub protected_short : (n : FtNumber) (ack : Option FtNumber) (end : ℕ) → end ≡ length m + length (ft_tlvs n ack) → length s < end
        → (None, s) ≡ written_of s (protected_bytes m n ack)
    protected_short n ack end endq h = written-short s (protected_bytes m n ack) end (endq ∙ sym (length-raised m head (ft_tlvs n ack))) h

    pub protected_whole : (n : FtNumber) (ack : Option FtNumber) (y : List ℕ) (end : ℕ) → end ≡ length m + length (ft_tlvs n ack) → end ≤ length s
        → y ≡ laid s 0 (protected_bytes m n ack) → (Some end, y) ≡ written_of s (protected_bytes m n ack)
    protected_whole n ack y end endq h e =
        let long : length (protected_bytes m n ack) ≡ length m + length (ft_tlvs n ack) = length-raised m head (ft_tlvs n ack) in
        written-whole s (protected_bytes m n ack) y e (omega arith) end (endq ∙ sym long)

    pub protected_plain : (n : FtNumber) (x : List ℕ) → x ≡ laid s 0 (raised_to m (length m + 8 - 4) ++ tlv_bytes protection_type (bytes 4 n.0))
        → x ≡ laid s 0 (protected_bytes m n None)
    unfolding raised
    protected_plain n x e = e

    pub protected_acked : (n a : FtNumber) (x y : List ℕ)
        → x ≡ laid s 0 (raised_to m (length m + 16 - 4) ++ tlv_bytes protection_type (bytes 4 n.0))
        → y ≡ laid x (length m + 8) (ack_tlv (Some a)) → y ≡ laid s 0 (protected_bytes m n (Some a))
    unfolding raised
    protected_acked n a x y e₁ e₂ =
        let t : List ℕ = tlv_bytes protection_type (bytes 4 n.0) in
        let body : List ℕ = raised_to m (length m + 16 - 4) in
        let long : length (body ++ t) ≡ length m + 8 = length-append body t ∙ ap (λ (k : ℕ). k + 8) (length-raised_to m head (length m + 16 - 4)) in
        ack_laid (body ++ t) x y (length m + 8) a e₁ e₂ (sym long) ∙ ap (laid s 0) (append_assoc body t (ack_tlv (Some a)))
