-- Where the TLVs lie that a walk has found: each place bears its TLV, whole, with its length, and behind the head. Assumes nothing.
use Rattle.std.specs.Prelude.{Some, None}
use Prim.Native.Nat.{ℕ, ◌+◌, ◌-◌, ◌%◌, ◌≤◌, ◌<◌}
use mathlib.Core.Bool.{Bool, true, false}
use mathlib.Core.List.{List}
use mathlib.Core.Path.{◌≡◌, refl, sym, ◌∙◌, ap}
use native.Mathlib.Nat.{add-zero}
use native.Mathlib.Omega.{arith}
use lib.Dec.{eqb, ltb}
use lib.ListN.{length, drop, length-drop}
use lib.Seq.{drop-drop}
use borrow.Author.Tests.{eqb-true, ltb-false}
use Rattle.octets.specs.Be.{be_at}
use Rattle.octets.specs.Pick.{pick}
use Rattle.octets.proofs.Bytes.{be_at-drop}
use Rattle.octets.proofs.Choice.{by_test}
use Rattle.octets.proofs.Fix.{size_ind}
use Rattle.tlv.specs.declared.Found.{Found}
use Rattle.tlv.specs.declared.walk.Tlv.{Tlv}
use Rattle.tlv.specs.declared.walk.Turn.{Turn}
use Rattle.tlv.specs.Tlv.{tlv_of, draft_length, published_length, length_fits, type_range, head_of, label_value, largest_label}
use Rattle.tlv.specs.Value.{Within, Places}
use Rattle.tlv.specs.Walk.{none_found, place_of, placed_of, malformed_unless, noted_of, turn_of, Rest, left_of, on_turn, walk_of, head_size, tlvs_of}
use Rattle.tlv.proofs.Turns.{Goes, goes, walk_rest, walk_step}

-- a TLV that was noted: its length was right, it had not stood before, its label was no higher than the largest
pub record Noted (f g : Found) (tlv : Tlv) (n at : ℕ) (ts : List ℕ) : Type 0 where
  pub fits : length_fits tlv n ≡ true
  pub once : place_of f tlv ≡ 0
  pub low : label_value tlv ts ≤ largest_label
  pub is : placed_of f tlv at ≡ g

pub noted : (f g : Found) (tlv : Tlv) (n at : ℕ) (ts : List ℕ) → noted_of f tlv n at ts ≡ Some g → Noted f g tlv n at ts
unfolding noted_of
noted f g tlv n at ts e = go (length_fits tlv n) (eqb (place_of f tlv) 0) (ltb largest_label (label_value tlv ts)) refl refl refl e
  where
    go : (b₁ b₂ b₃ : Bool) → length_fits tlv n ≡ b₁ → eqb (place_of f tlv) 0 ≡ b₂ → ltb largest_label (label_value tlv ts) ≡ b₃
        → malformed_unless b₁ (malformed_unless b₂ (pick b₃ None (Some (placed_of f tlv at)))) ≡ Some g → Noted f g tlv n at ts
    go false b₂ b₃ q₁ q₂ q₃ h = let z : ◌≡◌ {A = ℕ} 0 1 = cc in absurd (omega arith)
    go true false b₃ q₁ q₂ q₃ h = let z : ◌≡◌ {A = ℕ} 0 1 = cc in absurd (omega arith)
    go true true true q₁ q₂ q₃ h = let z : ◌≡◌ {A = ℕ} 0 1 = cc in absurd (omega arith)
    go true true false q₁ q₂ q₃ h =
        record { fits = q₁; once = eqb-true (place_of f tlv) 0 q₂; low = ltb-false largest_label (label_value tlv ts) q₃; is = cc }

-- a fact of each place
pub record Each (P : Tlv → ℕ → Type 0) (f : Found) : Type 0 where
  pub fec : P Tlv.Fec f.fec
  pub label : P Tlv.Label f.label
  pub status : P Tlv.Status f.status
  pub parameters : P Tlv.Parameters f.parameters
  pub session : P Tlv.Session f.session
  pub protection : P Tlv.Protection f.protection
  pub ack : P Tlv.Ack f.ack
  pub requestid : P Tlv.RequestId f.requestid

pub each_placed : (P : Tlv → ℕ → Type 0) (f : Found) (tlv : Tlv) (at : ℕ) → Each P f → P tlv at → Each P (placed_of f tlv at)
each_placed P f Tlv.Fec at e p =
    record { fec = p; label = e.label; status = e.status; parameters = e.parameters; session = e.session; protection = e.protection; ack = e.ack; requestid = e.requestid }
each_placed P f Tlv.Label at e p =
    record { fec = e.fec; label = p; status = e.status; parameters = e.parameters; session = e.session; protection = e.protection; ack = e.ack; requestid = e.requestid }
each_placed P f Tlv.Status at e p =
    record { fec = e.fec; label = e.label; status = p; parameters = e.parameters; session = e.session; protection = e.protection; ack = e.ack; requestid = e.requestid }
each_placed P f Tlv.Parameters at e p =
    record { fec = e.fec; label = e.label; status = e.status; parameters = p; session = e.session; protection = e.protection; ack = e.ack; requestid = e.requestid }
each_placed P f Tlv.Session at e p =
    record { fec = e.fec; label = e.label; status = e.status; parameters = e.parameters; session = p; protection = e.protection; ack = e.ack; requestid = e.requestid }
each_placed P f Tlv.Protection at e p =
    record { fec = e.fec; label = e.label; status = e.status; parameters = e.parameters; session = e.session; protection = p; ack = e.ack; requestid = e.requestid }
each_placed P f Tlv.Ack at e p =
    record { fec = e.fec; label = e.label; status = e.status; parameters = e.parameters; session = e.session; protection = e.protection; ack = p; requestid = e.requestid }
each_placed P f Tlv.RequestId at e p =
    record { fec = e.fec; label = e.label; status = e.status; parameters = e.parameters; session = e.session; protection = e.protection; ack = e.ack; requestid = p }
each_placed P f Tlv.Other at e p = e

-- what every turn keeps from a place on, the walk keeps
module _ (s : List ℕ) (from : ℕ) (I : Found → Type 0) (keeps : (f g : Found) (at n : ℕ) → from ≤ at → at ≤ length s → Goes f g at n (drop at s) → I f → I g) where
  abbrev Kept : Rest → Type 0
  Kept r = (g : Found) → from ≤ r.at → r.at ≤ length s → r.bytes ≡ drop r.at s → walk_rest r ≡ Some g → I r.found → I g

  keep : (r : Rest) → Kept r
  keep = size_ind left_of Kept step
    where
      step : (r : Rest) → ((t : Rest) → left_of t < left_of r → Kept t) → Kept r
      step r ih g l h b e i = go (turn_of r.found r.at r.bytes) refl (sym (walk_step r.at r.bytes r.found) ∙ e)
        where
          go : (t : Turn) → turn_of r.found r.at r.bytes ≡ t → on_turn walk_rest r t ≡ Some g → I g
          go Turn.End q k = let same : r.found ≡ g = cc in rw same at i
          go Turn.Malformed q k = let z : ◌≡◌ {A = ℕ} 0 1 = cc in absurd (omega arith)
          go (Turn.Next f n) q k =
              let w : Goes r.found f r.at n r.bytes = goes r.found f r.at n r.bytes q in
              let w' : Goes r.found f r.at n (drop r.at s) = rw b at w in
              let left : length (drop n r.bytes) ≡ length r.bytes - n = length-drop n r.bytes in
              let all : length (drop r.at s) ≡ length s - r.at = length-drop r.at s in
              let within : n ≤ length (drop r.at s) = w'.within in
              ih (record { at = r.at + n; bytes = drop n r.bytes; found = f }) (omega arith) g (omega arith) (omega arith)
              (ap (drop n) b ∙ drop-drop n r.at s) k (keeps r.found f r.at n l h w' i)

  -- what every turn keeps, the walk keeps
  pub walk_keeps : from ≤ length s → (f g : Found) → walk_of from (drop from s) f ≡ Some g → I f → I g
  walk_keeps h f g e i = keep (record { at = from; bytes = drop from s; found = f }) g (omega arith) h refl e i

-- a TLV stands whole at the place p of the message m
pub record Stands (m : List ℕ) (tlv : Tlv) (p : ℕ) : Type 0 where
  pub after : head_size ≤ p
  pub within : p + 4 + be_at 2 m (p + 2) ≤ length m
  pub fits : length_fits tlv (be_at 2 m (p + 2)) ≡ true
  pub is : tlv_of (be_at 2 m p % type_range) ≡ tlv
  pub low : label_value tlv (drop p m) ≤ largest_label

-- where p is the place of a TLV that was found
abbrev pub Lies : List ℕ → Tlv → ℕ → Type 0
Lies m tlv p = (p ≡ 0 → ⊥) → Stands m tlv p

turn_lies : (m : List ℕ) (f g : Found) (at n : ℕ) → head_size ≤ at → at ≤ length m → Goes f g at n (drop at m) → Each (Lies m) f → Each (Lies m) g
turn_lies m f g at n l h w e =
    let k : Noted f g (head_of (drop at m)) (be_at 2 (drop at m) 2) at (drop at m) = noted f g (head_of (drop at m)) (be_at 2 (drop at m) 2) at (drop at m) w.noted in
    let len : be_at 2 (drop at m) 2 ≡ be_at 2 m (at + 2) = be_at-drop 2 at m 2 in
    let num : be_at 2 (drop at m) 0 ≡ be_at 2 m at = be_at-drop 2 at m 0 ∙ ap (be_at 2 m) (add-zero at) in
    let here : Stands m (head_of (drop at m)) at = record {
      after = l;
      within = omega (arith, w.within, w.size, length-drop at m);
      fits = rw len at k.fits;
      is = ap (λ (x : ℕ). tlv_of (x % type_range)) (sym num);
      low = k.low;
    } in
    rw k.is at (each_placed (Lies m) f (head_of (drop at m)) at e (λ z. here))

-- what a message has whose TLVs are whole
pub record WholeTlvs (m : List ℕ) (f : Found) : Type 0 where
  pub head : head_size ≤ length m
  pub adds : be_at 2 m 2 + 4 ≡ length m
  pub tlvs : walk_of head_size (drop head_size m) none_found ≡ Some f

-- of a message that is not malformed the length is that of what follows
pub whole_tlvs : (m : List ℕ) (f : Found) → tlvs_of m ≡ Some f → WholeTlvs m f
unfolding tlvs_of
whole_tlvs m f e = go (ltb (length m) head_size) (eqb (be_at 2 m 2 + 4) (length m)) refl refl e
  where
    go : (b₁ b₂ : Bool) → ltb (length m) head_size ≡ b₁ → eqb (be_at 2 m 2 + 4) (length m) ≡ b₂
        → pick b₁ None (malformed_unless b₂ (walk_of head_size (drop head_size m) none_found)) ≡ Some f → WholeTlvs m f
    go true b₂ q₁ q₂ h = let z : ◌≡◌ {A = ℕ} 0 1 = cc in absurd (omega arith)
    go false false q₁ q₂ h = let z : ◌≡◌ {A = ℕ} 0 1 = cc in absurd (omega arith)
    go false true q₁ q₂ h = record { head = ltb-false (length m) head_size q₁; adds = eqb-true (be_at 2 m 2 + 4) (length m) q₂; tlvs = h }

none_lies : (m : List ℕ) → Each (Lies m) none_found
none_lies m = record {
  fec = λ z. absurd (z refl);
  label = λ z. absurd (z refl);
  status = λ z. absurd (z refl);
  parameters = λ z. absurd (z refl);
  session = λ z. absurd (z refl);
  protection = λ z. absurd (z refl);
  ack = λ z. absurd (z refl);
  requestid = λ z. absurd (z refl);
}

-- every TLV that was found stands at its place
pub found_lies : (m : List ℕ) (f : Found) → tlvs_of m ≡ Some f → Each (Lies m) f
found_lies m f e =
    let w : WholeTlvs m f = whole_tlvs m f e in
    walk_keeps m head_size (Each (Lies m)) (turn_lies m) w.head none_found f w.tlvs (none_lies m)

-- n bytes of its value lie within the message
lies_within : (m : List ℕ) (tlv : Tlv) (p n : ℕ) → Lies m tlv p → ((k : ℕ) → length_fits tlv k ≡ true → n ≤ k) → Within m p n
lies_within m tlv p n l long z = omega (arith, (l z).within, long (be_at 2 m (p + 2)) (l z).fits)

-- the whole value does
lies_whole : (m : List ℕ) (tlv : Tlv) (p : ℕ) → Lies m tlv p → Within m p (be_at 2 m (p + 2))
lies_whole m tlv p l z = (l z).within

-- FT Session has 4 bytes or 12
session_long : (k : ℕ) → length_fits Tlv.Session k ≡ true → draft_length ≤ k
session_long k e =
    by_test (eqb k draft_length)
    (λ (h : eqb k draft_length ≡ true). omega (arith, eqb-true k draft_length h))
    (λ (h : eqb k draft_length ≡ false). omega (arith, eqb-true k published_length (rw h at e)))

-- the TLVs found lie within the message: what the readers of values ask for
pub places : (m : List ℕ) (f : Found) → tlvs_of m ≡ Some f → Places m f
places m f e =
    let l : Each (Lies m) f = found_lies m f e in
    record {
      head = (whole_tlvs m f e).head;
      fec = lies_whole m Tlv.Fec f.fec l.fec;
      label = lies_within m Tlv.Label f.label 4 l.label (λ k z. omega (arith, eqb-true k 4 z));
      status = lies_within m Tlv.Status f.status 10 l.status (λ k z. omega (arith, eqb-true k 10 z));
      parameters = lies_within m Tlv.Parameters f.parameters 14 l.parameters (λ k z. omega (arith, eqb-true k 14 z));
      parametersvalue = lies_whole m Tlv.Parameters f.parameters l.parameters;
      session = lies_within m Tlv.Session f.session 4 l.session session_long;
      sessionvalue = lies_whole m Tlv.Session f.session l.session;
      protection = lies_within m Tlv.Protection f.protection 4 l.protection (λ k z. omega (arith, eqb-true k 4 z));
      ack = lies_within m Tlv.Ack f.ack 4 l.ack (λ k z. omega (arith, eqb-true k 4 z));
      requestid = lies_within m Tlv.RequestId f.requestid 4 l.requestid (λ k z. omega (arith, eqb-true k 4 z));
    }
