-- A message with its FT TLVs behind it is read as the message was, with that number and that ACK. Assumes nothing.
use Rattle.std.specs.Prelude.{Option, Some, None}
use Prim.Native.Nat.{ℕ, ◌+◌, ◌-◌, ◌%◌, ◌^◌, ◌≤◌, ◌<◌}
use mathlib.Core.Bool.{Bool, true, false}
use mathlib.Core.List.{List, [], ◌++◌}
use mathlib.Core.Path.{◌≡◌, refl, sym, ap, ◌∙◌}
use native.Mathlib.Nat.{add-zero}
use native.Mathlib.Omega.{arith}
use lib.Dec.{eqb}
use lib.ListN.{length}
use lib.Seq.{ext_get_or}
use borrow.Author.Tests.{eq-eqb, ne_eqb, eqb-true}
use Rattle.octets.specs.Be.{be_at, bytes}
use Rattle.octets.specs.Part.{part}
use Rattle.octets.specs.Pick.{pick}
use Rattle.octets.proofs.Bytes.{be_at_behind}
use Rattle.octets.proofs.Choice.{where_same}
use Rattle.octets.proofs.Part.{length_part, part-at, part_inside}
use Rattle.ft_number.specs.declared.FtNumber.{FtNumber}
use Rattle.ft_number.specs.declared.Timeout.{Timeout}
use Rattle.tlv.specs.declared.Found.{Found}
use Rattle.tlv.specs.declared.walk.Tlv.{Tlv}
use Rattle.tlv.specs.Element.{fec_of}
use Rattle.tlv.specs.Tlv.{tlv_of, published_length, length_fits, head_of, label_value, protection_type, ack_type}
use Rattle.tlv.specs.Value.{Within, Places, part_at, fec_at, field_at, number_at, id_at, parameters_at, top_bit, timeout_at, session_at}
use Rattle.tlv.specs.Walk.{place_of, placed_of, noted_of, turn_of, walk_of, head_size, tlvs_of}
use Rattle.tlv.proofs.Places.{Each, Lies, found_lies, places}
use Rattle.tlv.proofs.Turns.{walk_step}
use Rattle.message.specs.declared.Message.{Message}
use Rattle.message.specs.Reading.{type_of, number_in, bears_of, message_of, places_of, reading_of}
use Rattle.message.proofs.Laws.{Whole, whole, whole_head, NoFt}
use Rattle.message_writer.specs.Forms.{tlv_bytes, ack_tlv, raised_to, raised, ft_tlvs, protected_bytes}
use Rattle.message_writer.specs.ReadBack.{AckFits, ft_places, protected_places, with_ft, protected_message}
use Rattle.message_writer.proofs.Append.{walk_append}
use Rattle.message_writer.proofs.Puts.{length-raised_to, length-raised}
use Rattle.message_writer.proofs.Raised.{bytes_read, raised_field, raised-number, raised_walk}

walk_nil : (at : ℕ) (f : Found) → walk_of at [] f ≡ Some f
unfolding turn_of
walk_nil at f = walk_step at [] f

-- a TLV of 32 bits that is listed, bears no label, and was not found before
tlv_walk : (number : ℕ) (tlv : Tlv) (at v : ℕ) (f : Found) → head_of (tlv_bytes number (bytes 4 v)) ≡ tlv → length_fits tlv 4 ≡ true
    → label_value tlv (tlv_bytes number (bytes 4 v)) ≡ 0 → place_of f tlv ≡ 0 → walk_of at (tlv_bytes number (bytes 4 v)) f ≡ Some (placed_of f tlv at)
unfolding turn_of noted_of
tlv_walk number tlv at v f is fits label once =
    walk_step at (tlv_bytes number (bytes 4 v)) f ∙ simp (is, fits, eq-eqb (place_of f tlv) 0 once, label) (walk_nil (at + 8) (placed_of f tlv at))

-- FT Protection, and FT ACK where one is given, where neither was found before
ft_walk : (at : ℕ) (n : FtNumber) (ack : Option FtNumber) (f : Found) → NoFt f → walk_of at (ft_tlvs n ack) f ≡ Some (protected_places f at ack)
unfolding tlv_of
ft_walk at n None f none =
    tlv_walk protection_type Tlv.Protection at n.0 f refl refl refl none.protection
    ∙ ap (λ (a : ℕ). Some (ft_places f at a)) none.ack
ft_walk at n (Some x) f none =
    walk_append at (tlv_bytes protection_type (bytes 4 n.0)) (ack_tlv (Some x)) f (placed_of f Tlv.Protection at)
    (tlv_walk protection_type Tlv.Protection at n.0 f refl refl refl none.protection)
    ∙ tlv_walk ack_type Tlv.Ack (at + 8) x.0 (placed_of f Tlv.Protection at) refl refl refl none.ack

-- what a place says is the same in two messages that agree behind the head of the first
module _ (m t : List ℕ) (same : (w at : ℕ) → head_size ≤ at → at + w ≤ length m → be_at w t at ≡ be_at w m at) where
  module _ (tlv : Tlv) (p : ℕ) (lies : Lies m tlv p) where
    length_same : (p ≡ 0 → ⊥) → be_at 2 t (p + 2) ≡ be_at 2 m (p + 2)
    length_same z = same 2 (p + 2) (omega (arith, (lies z).after)) (omega (arith, (lies z).within))

    value_same : (w n : ℕ) → Within m p (n + w) → (p ≡ 0 → ⊥) → be_at w t (p + (4 + n)) ≡ be_at w m (p + (4 + n))
    value_same w n within z = same w (p + (4 + n)) (omega (arith, (lies z).after)) (omega (arith, within z))

    part_same : part_at t p ≡ part_at m p
    unfolding part_at
    part_same = where_same p 0 _ _ (λ z. ap (λ (n : ℕ). record { start = p + 4; end = p + 4 + n }) (length_same z))

    field_same : Within m p 4 → field_at t p ≡ field_at m p
    unfolding field_at
    field_same within = where_same p 0 _ _ (λ z. ap Some (value_same 4 0 within z))

    id_same : (n : ℕ) → Within m p (n + 4) → id_at t p n ≡ id_at m p n
    unfolding id_at
    id_same n within =
        where_same p 0 _ _ (λ z.
        let a : be_at 4 t (p + 4 + n) ≡ be_at 4 m (p + 4 + n) = same 4 (p + 4 + n) (omega (arith, (lies z).after)) (omega (arith, within z)) in
        rw a)

    parameters_same : Within m p 14 → parameters_at t p ≡ parameters_at m p
    unfolding parameters_at
    parameters_same within =
        where_same p 0 _ _ (λ z.
        let a : be_at 2 t (p + 6) ≡ be_at 2 m (p + 6) = value_same 2 2 (λ y. omega (arith, within y)) z in
        let b : be_at 2 t (p + 10) ≡ be_at 2 m (p + 10) = value_same 2 6 (λ y. omega (arith, within y)) z in
        cc)

    timeout_same : Within m p 4 → (p ≡ 0 → ⊥) → timeout_at t p ≡ timeout_at m p
    timeout_same within z =
        ap (λ (n : ℕ). pick (eqb n published_length) (Timeout.Milliseconds (be_at 4 t (p + 8))) (Timeout.Seconds (be_at 2 t (p + 6)))) (length_same z)
        ∙ by_length (eqb (be_at 2 m (p + 2)) published_length) refl
      where
        by_length : (b : Bool) → eqb (be_at 2 m (p + 2)) published_length ≡ b
            → pick b (Timeout.Milliseconds (be_at 4 t (p + 8))) (Timeout.Seconds (be_at 2 t (p + 6))) ≡ pick b (Timeout.Milliseconds (be_at 4 m (p + 8))) (Timeout.Seconds (be_at 2 m (p + 6)))
        by_length true q =
            ap Timeout.Milliseconds (value_same 4 4 (λ y. omega (arith, (lies y).within, eqb-true (be_at 2 m (p + 2)) published_length q)) z)
        by_length false q = ap Timeout.Seconds (value_same 2 2 within z)

    session_same : Within m p 4 → session_at t p ≡ session_at m p
    unfolding session_at
    session_same within =
        where_same p 0 _ _ (λ z.
        let a : be_at 4 t (p + 4) ≡ be_at 4 m (p + 4) = value_same 4 0 within z in
        rw a (ap (λ (v : Timeout). Some (record { reconnect = top_bit (be_at 4 m (p + 4)); timeout = v })) (timeout_same within z)))

    fec_same : length m ≤ length t → fec_at t p ≡ fec_at m p
    unfolding fec_at
    fec_same long = where_same p 0 _ _ (λ z. ap (λ (v : List ℕ). Some (fec_of v)) (value_part z))
      where
        value_part : (p ≡ 0 → ⊥) → part t (p + 4) (p + 4 + be_at 2 t (p + 2)) ≡ part m (p + 4) (p + 4 + be_at 2 m (p + 2))
        value_part z =
            let n : ℕ = be_at 2 m (p + 2) in
            let end : p + 4 + n ≤ length m = omega (arith, (lies z).within) in
            rw (length_same z)
            (ext_get_or 0 (part t (p + 4) (p + 4 + n)) (part m (p + 4) (p + 4 + n))
            (length_part t (p + 4) (p + 4 + n) (omega arith) ∙ sym (length_part m (p + 4) (p + 4 + n) end))
            (λ i l.
            let inside : i < p + 4 + n - (p + 4) = part_inside t (p + 4) (p + 4 + n) i l in
            part-at t (p + 4) (p + 4 + n) i inside
            ∙ same 1 (p + 4 + i) (omega (arith, (lies z).after)) (omega arith)
            ∙ sym (part-at m (p + 4) (p + 4 + n) i inside)))

-- an FT number behind the message
ft_number_lem : (m t : List ℕ) (n : FtNumber) (at : ℕ) → 8 ≤ length m → n.0 < 256 ^ 4 → be_at 4 t (at + 4) ≡ be_at 4 (bytes 4 n.0) 0
    → number_at (raised m t) (length m + at) ≡ Some n
unfolding number_at raised
ft_number_lem m t n at head small is =
    let size : ℕ = length m + length t - 4 in
    let there : length m + at + 4 ≡ length (raised_to m size) + (at + 4) = omega (arith, length-raised_to m head size) in
    let value : be_at 4 (raised_to m size ++ t) (length m + at + 4) ≡ n.0 =
    be_at_behind 4 (raised_to m size) t (length m + at + 4) (at + 4) there ∙ is ∙ bytes_read 4 n.0 small in
    simp (ne_eqb (length m + at) 0 (λ z. omega arith)) (ap (λ (x : ℕ). Some (record { 0 = x })) value)

ft_none : (t : List ℕ) → number_at t 0 ≡ None
unfolding number_at
ft_none t = refl

-- all that stood in the message stands with TLVs behind it, and FT Protection at its old end bears the number
module _ (m t : List ℕ) (f : Found) (e : tlvs_of m ≡ Some f) (n : FtNumber) (small : n.0 < 256 ^ 4) (number : be_at 4 t 4 ≡ be_at 4 (bytes 4 n.0) 0) where
  type_same : number_in (raised m t) ≡ number_in m
  type_same = ap (λ (x : ℕ). x % 32768) (raised-number m t (places m f e).head)

  message_same : (at : ℕ) (ack : Option FtNumber) → number_at (raised m t) at ≡ ack
      → message_of (raised m t) (ft_places f (length m) at) ≡ with_ft (message_of m f) (ft_places f (length m) at) (Some n) ack
  unfolding message_of
  message_same at ack acked =
      let l : Each (Lies m) f = found_lies m f e in
      let w : Places m f = places m f e in
      let head : 8 ≤ length m = w.head in
      let same : (w at : ℕ) → head_size ≤ at → at + w ≤ length m → be_at w (raised m t) at ≡ be_at w m at = (λ w at h room. raised_field m t head w at (omega arith) room) in
      let id : be_at 4 (raised m t) 4 ≡ be_at 4 m 4 = raised_field m t head 4 4 (omega arith) (omega arith) in
      let protected : number_at (raised m t) (length m) ≡ Some n = rw add-zero at (ft_number_lem m t n 0 head small number) in
      simp (
        type_same,
        id,
        acked,
        protected,
        fec_same m (raised m t) same Tlv.Fec f.fec l.fec (omega (arith, length-raised m head t)),
        part_same m (raised m t) same Tlv.Fec f.fec l.fec,
        field_same m (raised m t) same Tlv.Label f.label l.label w.label,
        field_same m (raised m t) same Tlv.Status f.status l.status (λ z. omega (arith, w.status z)),
        parameters_same m (raised m t) same Tlv.Parameters f.parameters l.parameters w.parameters,
        part_same m (raised m t) same Tlv.Parameters f.parameters l.parameters,
        session_same m (raised m t) same Tlv.Session f.session l.session w.session,
        id_same m (raised m t) same Tlv.RequestId f.requestid l.requestid 0 w.requestid,
        id_same m (raised m t) same Tlv.Status f.status l.status 4 (λ z. omega (arith, w.status z)),
      )

  -- and it is read whole: its type bears what it bore
  reading_same : (at : ℕ) (ack : Option FtNumber) → number_at (raised m t) at ≡ ack → tlvs_of (raised m t) ≡ Some (ft_places f (length m) at)
      → bears_of (type_of (number_in m)) f ≡ true → reading_of (raised m t) ≡ Some (with_ft (message_of m f) (ft_places f (length m) at) (Some n) ack)
  unfolding reading_of places_of
  reading_same at ack acked tlvs bears = simp (tlvs, type_same, bears) (ap Some (message_same at ack acked))

-- the FT TLVs are 16 bytes at most
ft_size : (n : FtNumber) (ack : Option FtNumber) → length (ft_tlvs n ack) ≤ 16
ft_size n None = omega arith
ft_size n (Some a) = omega arith

-- THE ROUND TRIP: a whole message without FT TLVs, sent with the number n and an ACK, is read back whole, with that number, that ACK, and all
-- else as it was
pub protected_reads : (m : List ℕ) (g : Message) (n : FtNumber) (ack : Option FtNumber) → reading_of m ≡ Some g → NoFt g.found
    → n.0 < 256 ^ 4 → AckFits ack → length m + 12 < 256 ^ 2 → reading_of (protected_bytes m n ack) ≡ Some (protected_message g (length m) n ack)
protected_reads m g n ack e none small fits short =
    by_ack ack fits (raised_walk m (ft_tlvs n ack) g.found (omega (arith, ft_size n ack)) w.tlvs ∙ ft_walk (length m) n ack g.found none)
    ∙ ap (λ (x : Message). Some (protected_message' x)) (sym w.is)
  where
    w : Whole m g
    w = whole m g e

    protected_message' : Message → Message
    protected_message' x = with_ft x (protected_places g.found (length m) ack) (Some n) ack

    by_ack : (a : Option FtNumber) → AckFits a → tlvs_of (protected_bytes m n a) ≡ Some (protected_places g.found (length m) a)
        → reading_of (protected_bytes m n a) ≡ Some (with_ft (message_of m g.found) (protected_places g.found (length m) a) (Some n) a)
    by_ack None k tlvs = reading_same m (ft_tlvs n None) g.found w.tlvs n small refl 0 None (ft_none (protected_bytes m n None)) tlvs w.bears
    by_ack (Some a) k tlvs =
        reading_same m (ft_tlvs n (Some a)) g.found w.tlvs n small refl (length m + 8) (Some a)
        (ft_number_lem m (ft_tlvs n (Some a)) a 8 (whole_head m g e) k refl) tlvs w.bears
